-- What a cfg that is not refused says: a configuration, and a selection of its channels.
use Rattle.std.proofs.Common.{◌≡◌, ℕ, List, Option, subst, Result, Ok, Err}
use Rattle.comtrade_cfg.specs.CfgText.{IsConfiguration, configuration_of}
use Rattle.comtrade_cfg.specs.Selecting.{IsSelected, selected_of}
use Rattle.pq_run.specs.RecordingFiles.{IsSelectedConfiguration, SelectedConfiguration, selected_configuration}
use Rattle.pq_words.proofs.ReadingLemmas.{bind_ok}
use Rattle.pq_words.specs.Text.{Text}
use Rattle.status_text.specs.Refusals.{cfg_refusal, or_refused, select_refusal}
use Rattle.status_text.specs.declared.status.Status.{Status}

pub record IsSaidAndSelected (s : SelectedConfiguration) : Type 0 where
  pub said : IsConfiguration s.configuration
  pub chosen : IsSelected s.configuration s.selected

or_refused_ok : {A E : Type 0} (refusal : E → Status) (r : Result A E) (x : A) → or_refused refusal r ≡ Ok x →
    r ≡ Ok x
or_refused_ok refusal (Ok y) x e = cc
or_refused_ok refusal (Err why) x e = absurd cc

said_of : (s : SelectedConfiguration) (wanted : Option (List ℕ)) (reference : Option ℕ) (cfg : Text)
    → selected_configuration wanted reference cfg ≡ Ok s → IsSaidAndSelected s
unfolding selected_configuration
said_of s wanted reference cfg e =
    let read = bind_ok (or_refused cfg_refusal (configuration_of cfg)) _ s e in
    let c = read.0 in
    let chosen = bind_ok (or_refused select_refusal (selected_of c wanted reference)) _ s read.2 in
    let found : SelectedConfiguration = record { configuration = c; selected = chosen.0 } in
    let same : Ok found ≡ Ok s = chosen.2 in
    let is : found ≡ s = cc in
    subst IsSaidAndSelected is (record {
      said = (cfg, or_refused_ok cfg_refusal (configuration_of cfg) c read.1);
      chosen = (
        wanted,
        reference,
        or_refused_ok select_refusal (selected_of c wanted reference) chosen.0 chosen.1,
      );
    })

-- what a cfg that is not refused says
pub said_and_selected : (s : SelectedConfiguration) → IsSelectedConfiguration s → IsSaidAndSelected s
said_and_selected s (wanted, reference, cfg, e) = said_of s wanted reference cfg e
