use Rattle.pq_sequence.specs.MeasuredRecording.{tick_places}
use Rattle.pq_sequence.proofs.FrontLemmas.{front_rises, fronts_start, places_rise}
use Rattle.pq_time.proofs.PlaceLaws.{place_rises}
use Rattle.pq_sequence.proofs.laws.fronts_rise.Goals as goal

pub returns : goal.returns
returns c = record {
  places = place_rises;
  later = front_rises;
  starts = λ boundaries clock n. fronts_start boundaries (tick_places clock n) (places_rise clock n);
}
