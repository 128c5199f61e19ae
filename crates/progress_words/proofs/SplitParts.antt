-- What a split of a reader's pass keeps, whether the new pass reads or is a lane's.
use Rattle.std.proofs.Common.{◌≡◌, ◌≢◌, ℕ, ◌+◌, ◌<◌, List, [], ◌∷◌, ◌++◌, get_or, set, Option, Some, true, false, sym, refl, ap, ◌∙◌, arith}
use mathlib.Core.Logic.{dite}
use mathlib.Core.Option.{some, some-injective}
use native.Mathlib.Decide.{ℕ_discrete}
use lib.ListN.{get_elem?}
use Rattle.atomic_table.specs.Table.{State}
use Rattle.atomic_table.proofs.Lists.{set_here, set_else, at_longer}
use Rattle.progress_words.specs.declared.pass_view.PassView.{PassView}
use Rattle.progress_words.specs.declared.pass_view.ReaderView.{ReaderView}
use Rattle.progress_words.specs.declared.pass_view.Role.{Role}
use Rattle.progress_words.specs.declared.pass_view.Role.TheVariants.{Reads}
use Rattle.progress_words.specs.PassView.{reader_part, idle_view}
use Rattle.progress_words.specs.Rule.{HasOneName, HasTurn, HasStop}
use Rattle.progress_words.specs.Seat.{number_of, IsSeatOfLane, IsSeatOfHolder, IsStopWritten, Standing}
use Rattle.progress_words.proofs.Lists.{inside, none_some}
use Rattle.progress_words.proofs.Roles.{lane_reads, reader_fact}
use Rattle.progress_words.proofs.StopParts.{written_stays}
use Rattle.progress_words.proofs.Views.{each_split, each_reader_split}

pub false_true : false ≡ true → ⊥
false_true e = cc

module _ {V N : Type 0} where
  -- the table after the pass id was split: it has the view w, and a new pass the view u
  abbrev pub parted : State (Option V) (PassView V N) → ℕ → PassView V N → PassView V N
      → State (Option V) (PassView V N)
  parted s id w u = record { words = s.words; homes = s.homes; views = set s.views id w ++ u ∷ [] }

  -- a lane's pass stays, where a reader is split
  pub lane_split : (views : List (PassView V N)) (id : ℕ) (v w u : PassView V N) (p : ReaderView)
      → get_elem? views id ≡ some v → v.role ≡ Reads p → (seat lane : ℕ) → IsSeatOfLane views seat lane
      → IsSeatOfLane (set views id w ++ u ∷ []) seat lane
  lane_split views id v w u p at is seat lane x =
      let other : seat ≢ id = λ e. let view : x.view ≡ v =
      some-injective x.view v (sym x.at ∙ (ap (get_elem? views) e ∙ at)) in
      lane_reads x.part p (sym x.raises ∙ (ap (λ (d : PassView V N). d.role) view ∙ is)) in
      record {
        view = x.view;
        part = x.part;
        at = at_longer (set views id w) (u ∷ []) seat x.view (set_else views id seat w other ∙ x.at);
        raises = x.raises;
        of_lane = x.of_lane;
      }

  -- the holder stays, where the pass id holds as before
  holder_split : (views : List (PassView V N)) (id : ℕ) (v w u : PassView V N) → get_elem? views id ≡ some v
      → w.held_value ≡ v.held_value → (n seat : ℕ) (value : V) (number : ℕ)
      → number_of n w.role ≡ number_of n v.role → IsSeatOfHolder views n seat value number
      → IsSeatOfHolder (set views id w ++ u ∷ []) n seat value number
  holder_split views id v w u at held n seat value number same x = dite (ℕ_discrete seat id)
      (λ e. let is : x.view ≡ v = some-injective x.view v (sym x.at ∙ (ap (get_elem? views) e ∙ at)) in
      record {
        view = w;
        at = at_longer (set views id w) (u ∷ []) seat w
            (ap (get_elem? (set views id w)) e ∙ set_here views id w (inside views id v at));
        holds = held ∙ (ap (λ (d : PassView V N). d.held_value) (sym is) ∙ x.holds);
        numbered = x.numbered ∙ (ap (λ (d : PassView V N). number_of n d.role) is ∙ sym same);
      })
      (λ e. record {
        view = x.view;
        at = at_longer (set views id w) (u ∷ []) seat x.view (set_else views id seat w e ∙ x.at);
        holds = x.holds;
        numbered = x.numbered;
      })

  written_longer : (views : List (PassView V N)) (u : PassView V N) → IsStopWritten views
      → IsStopWritten (views ++ u ∷ [])
  written_longer views u x = record {
    seat = x.seat;
    view = x.view;
    part = x.part;
    at = at_longer views (u ∷ []) x.seat x.view x.at;
    reads = x.reads;
    wrote = x.wrote;
  }

module _ {V N : Type 0} (n : ℕ) (reach : V → ℕ → ℕ) (name : V → N) (opening : V)
    (s : State (Option V) (PassView V N)) (t : Standing V) (id : ℕ) (v : PassView V N)
    (at : get_elem? s.views id ≡ some v) (p q : ReaderView) (is : v.role ≡ Reads p) (new : Role) where
  -- the pass that is split, and the new one
  abbrev w : PassView V N
  w = record v { role = Reads q }

  abbrev u : PassView V N
  u = idle_view v.name v.opening new

  pub names_split : (made : ℕ) (seat_of : ℕ → ℕ) → HasOneName n reach name opening s t
      → HasOneName n reach name opening (parted s id w u)
      (record { lanes_made = made; seat_of = seat_of; value = t.value; holder = t.holder })
  names_split made seat_of h = record {
    value = h.value;
    passes = each_split s.views id w u (λ _ d. d.name ≡ name opening) (λ j d _ a. h.passes j d a)
        (h.passes id v at) (h.passes id v at);
    openings = each_split s.views id w u (λ _ d. d.opening ≡ opening) (λ j d _ a. h.openings j d a)
        (h.openings id v at) (h.openings id v at);
  }

  pub turn_split : (made : ℕ) (seat_of : ℕ → ℕ) → HasTurn n reach name opening s t
      → HasTurn n reach name opening (parted s id w u)
      (record { lanes_made = made; seat_of = seat_of; value = t.value; holder = t.holder })
  turn_split made seat_of h = record {
    taken = each_split s.views id w u (λ _ d. (z : V) → d.held_value ≡ Some z → 0 < get_or s.words n 0)
        (λ j d _ a. h.taken j d a) (h.taken id v at) (λ z e. absurd (none_some z e));
    one = each_split s.views id w u (λ seat d. (z : V) → d.held_value ≡ Some z → seat ≡ t.holder)
        (λ j d _ a. h.one j d a) (h.one id v at) (λ z e. absurd (none_some z e));
    same = each_split s.views id w u (λ _ d. (z : V) → d.held_value ≡ Some z → z ≡ t.value)
        (λ j d _ a. h.same j d a) (h.same id v at) (λ z e. absurd (none_some z e));
    holder = λ z. holder_split s.views id v w u at refl n t.holder t.value _ (ap (number_of n) (sym is))
        (h.holder z);
  }

  pub stop_split : (made : ℕ) (seat_of : ℕ → ℕ) → q.wrote_stop ≡ p.wrote_stop
      → ((b : ReaderView) → new ≡ Reads b → b.wrote_stop ≡ false) → HasStop n reach name opening s t
      → HasStop n reach name opening (parted s id w u)
      (record { lanes_made = made; seat_of = seat_of; value = t.value; holder = t.holder })
  stop_split made seat_of same unset h =
      let Wrote : ReaderView → Type 0 = λ b. b.wrote_stop ≡ true → get_or s.words (n + 1) 0 ≡ 1 in record {
        bit = h.bit;
        found = each_split s.views id w u (λ _ d. d.stop_found ≡ 1 → get_or s.words (n + 1) 0 ≡ 1)
            (λ j d _ a. h.found j d a) (h.found id v at) (λ e. absurd (omega arith));
        wrote = each_reader_split s.views id w u (λ _ b. Wrote b) (λ j d _ a. h.wrote j d a)
            (λ b e. reader_fact Wrote q b e (λ o. h.wrote id v at p is (sym same ∙ o)))
            (λ b e o. absurd (false_true (sym (unset b e) ∙ o)));
        writer = λ z. written_longer (set s.views id w) u (written_stays s.views id v w at
            (λ o. same ∙ (ap (λ (r : Role). (reader_part r).wrote_stop) (sym is) ∙ o)) (h.writer z));
      }
