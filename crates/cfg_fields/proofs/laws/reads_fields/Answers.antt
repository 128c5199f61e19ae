use Rattle.cfg_fields.proofs.GrammarFields.{count_again, count_found, frequency_again, frequency_found, leap_again, leap_found, number_again, number_found, position_again, position_found, rate_again, rate_found, samples_again, samples_found, spelling_again, spelling_found, text_again, text_found}
use Rattle.cfg_fields.proofs.laws.reads_fields.Goals as goal

pub returns : goal.returns
returns c = record {
  texts = λ line field text. (text_found line field text text, text_again line field text);
  numbers = λ line field text n. (number_found line field text n, number_again line field text n);
  positions = λ position line field text.
      (position_found position line field text position, position_again position line field text);
  spellings = λ line field text.
      (λ e. (spelling_found line field text text e).0, spelling_again line field text);
  counts = λ capital what line field text n.
      (count_found capital what line field text n, λ h. count_again capital what line field text n h.0 h.1);
  frequencies = λ line field text n.
      (frequency_found line field text n, λ h. frequency_again line field text n h.0 h.1);
  rates = λ lf line field text n. (
    rate_found lf line field text n,
    λ h. rate_again lf line field text n h.0
        h.1,
  );
  sample_counts = λ line field text n.
      (samples_found line field text n, λ h. samples_again line field text n h.0 h.1);
  leaps = λ line field text n. (leap_found line field text n, λ h. leap_again line field text n h.0 h.1);
}
