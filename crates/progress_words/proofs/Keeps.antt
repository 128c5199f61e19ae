-- A step of one pass keeps the rule, where it keeps each part.
use Rattle.std.proofs.Common.{◌≡◌, ℕ, List, length, get_or, Option, refl}
use Rattle.atomic_table.specs.Table.{State}
use Rattle.progress_words.specs.declared.pass_view.PassView.{PassView}
use Rattle.progress_words.specs.Rule.{HasTurn, HasValue, MeetsRule}
use Rattle.progress_words.proofs.Parts.{moved, stands, Steps, shape_stays, names_stay, lanes_stay, reaches_stay, sole_stays}
use Rattle.progress_words.proofs.StopParts.{StopGoes, stop_goes}
use Rattle.progress_words.proofs.TurnParts.{turn_stays, value_stays}

module _ {V N : Type 0} (n : ℕ) (reach : V → ℕ → ℕ) (name : V → N) (opening : V)
    (s : State (Option V) (PassView V N)) (r : MeetsRule n reach name opening s) (id : ℕ) (v w : PassView V N)
    (ws : List ℕ) where
  -- a step that also moves the turn word, or the value
  pub turn_keeps : (homes : List (mathlib.Core.Option.Option (Option V))) (u : V) (holder : ℕ)
      → Steps n reach name opening s r.standing id v w ws u → length homes ≡ length s.homes
      → StopGoes n reach name opening s r.standing id v w ws
      → HasTurn n reach name opening (moved s ws homes id w) (stands r.standing u holder)
      → HasValue n reach name opening (moved s ws homes id w) (stands r.standing u holder)
      → MeetsRule n reach name opening (moved s ws homes id w)
  turn_keeps homes u holder x deep stop turn value = let t = r.standing in record {
    standing = stands t u holder;
    shape = shape_stays n reach name opening s t id v w ws u homes holder x deep r.shape;
    one_name = names_stay n reach name opening s t id v w ws u homes holder x r.one_name;
    lanes = lanes_stay n reach name opening s t id v w ws u homes holder x r.lanes;
    reaches = reaches_stay n reach name opening s t id v w ws u homes holder x r.lanes r.reaches;
    turn = turn;
    stop = stop_goes n reach name opening s t id v w ws homes u holder stop r.stop;
    sole_reader = sole_stays n reach name opening s t id v w ws u homes holder x r.sole_reader;
    value = value;
  }

  -- a step that leaves the turn word, the value and what the pass holds
  pub quiet_keeps : Steps n reach name opening s r.standing id v w ws r.standing.value
      → w.held_value ≡ v.held_value → get_or ws n 0 ≡ get_or s.words n 0
      → StopGoes n reach name opening s r.standing id v w ws
      → MeetsRule n reach name opening (moved s ws s.homes id w)
  quiet_keeps x held turn stop = let t = r.standing in
      turn_keeps s.homes t.value t.holder x refl stop
      (turn_stays n reach name opening s t id v w ws x.at turn x.kind held r.turn)
      (value_stays n reach name opening s t id v w ws x.at turn r.value)
