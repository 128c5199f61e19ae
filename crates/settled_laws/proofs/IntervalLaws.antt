-- Of a recording: the intervals that end by a place are told by the basic intervals that end by it.
use Rattle.std.proofs.Common.{◌≡◌, ℕ, ◌<◌, false, not, nat_le, List, [], ◌∷◌, ◌++◌, length, filter, zip, drop, ℤ, refl, ◌∙◌, ap, subst, inl, inr, arith}
use Rattle.std.specs.List.{AllByRecursion}
use Rattle.std.proofs.lemmas.Bool.Decides.{nat_tests}
use Rattle.aggregate.specs.Aggregation.{Basic, tick_pairs}
use Rattle.event_detect.specs.declared.event.Event.{Event}
use Rattle.pq_base.specs.Recorded.{Recorded, IsRecording, sample_count, samples_at}
use Rattle.pq_sequence.specs.BasicInterval.{cycles_of}
use Rattle.pq_sequence.specs.MeasuredRecording.{basics_of, channel_count, clock_of, recorded_places, recorded_rule, reference_cycles, shorts_of, tens_of, tick_places, two_hours_of}
use Rattle.pq_sequence.proofs.BasicLemmas.{some_cycles}
use Rattle.pq_sequence.proofs.NeighbourLaws.{IsIn, mapped_in}
use Rattle.pq_sequence.proofs.ResultLaws.{rule_of_recording}
use Rattle.pq_time.specs.declared.clock.Clock.{Clock}
use Rattle.pq_time.specs.Tick.{tick_place, ticks}
use Rattle.settled_laws.specs.SettledIntervals.{IntervalsAreSettled, basics_by, groups_by}
use Rattle.settled_laws.proofs.BasicLaws.{AreLinked, recorded_linked}
use Rattle.settled_laws.proofs.BuildLaws.{front_rises, linked_fail, linked_rise, linked_segment}
use Rattle.settled_laws.proofs.ListLaws.{all_fail, all_from, filter_splits}
use Rattle.settled_laws.proofs.ShortLaws.{IsAfter, shorts_settled}
use Rattle.settled_laws.proofs.TenLaws.{EndsSegment, tens_settled}
use Rattle.settled_laws.proofs.TickLaws.{EndsRise, two_hours_settled}
use Rattle.zero_cross.specs.Boundary.{AreBoundaries}
use Rattle.zero_cross.proofs.BoundaryLaws.{cycles_lie}

-- ---- a list in two parts: what ends by a place, and what ends after it

-- those that end after a place
abbrev pub basics_past : ℕ → List Basic → List Basic
basics_past w basics = filter (λ b. not (nat_le b.part.end w)) basics

-- the basic intervals of a list whose ends do not fall: first those that end by a place
pub basics_parted : (places : List ℕ) (w : ℕ) (bs : List Basic) → AreLinked places bs →
    bs ≡ basics_by w bs ++ basics_past w bs
basics_parted places w bs l = filter_splits (λ b. nat_le b.part.end w) bs (linked_fail places w bs l)

pub past_after : (w : ℕ) (bs : List Basic) → AllByRecursion (IsAfter w) (basics_past w bs)
past_after w bs =
    all_from (λ b. nat_le b.part.end w ≡ false) (IsAfter w) (λ b fails. after b.part.end fails)
    (basics_past w bs) (all_fail (λ b. nat_le b.part.end w) bs)
  where
    after : (e : ℕ) → nat_le e w ≡ false → w < e
    after e is = grind (arith, nat_tests, is)

-- ---- each tick that follows another ends a segment

has_place : (clock : Clock) (n : ℕ) (tick : ℤ) → IsIn tick (ticks clock n 600) →
    IsIn (tick_place clock n tick) (tick_places clock n)
unfolding tick_places
has_place clock n tick is = mapped_in (tick_place clock n) (ticks clock n 600) tick is

each_pair : (P : ℤ → Type 0) (xs ys : List ℤ) → ((t : ℤ) → IsIn t ys → P t) →
    AllByRecursion (λ p. P p.1) (zip xs ys)
each_pair P [] ys h = tt
each_pair P (x ∷ xs) [] h = tt
each_pair P (x ∷ xs) (y ∷ ys) h = (h y (inl refl), each_pair P xs ys (λ t is. h t (inr is)))

among_rest : (t : ℤ) (xs : List ℤ) → IsIn t (drop 1 xs) → IsIn t xs
among_rest t [] is = is
among_rest t (x ∷ xs) is = inr is

pub ticks_end : (clock : Clock) (n : ℕ) (bs : List Basic) → AreLinked (tick_places clock n) bs →
    AllByRecursion (λ p. EndsSegment bs (tick_place clock n p.1)) (tick_pairs clock n 600)
ticks_end clock n bs l =
    let all = ticks clock n 600 in
    each_pair (λ t. EndsSegment bs (tick_place clock n t)) all (drop 1 all)
    (λ t is. linked_segment (tick_places clock n) bs (tick_place clock n t) l
    (has_place clock n t (among_rest t all is)))

-- ---- of a recording

-- its basic intervals are linked
pub basics_are_linked : (r : Recorded) (events : List Event) → IsRecording r →
    AreLinked (recorded_places r) (basics_of r events (reference_cycles r))
basics_are_linked r events is =
    let even : length (samples_at r r.reference) ≡ sample_count r =
    is.even r.reference (omega (arith, is.reference, is.paired)) in
    let are : AreBoundaries (reference_cycles r) (sample_count r) =
    subst (AreBoundaries (reference_cycles r)) even
    (cycles_lie (samples_at r r.reference) (recorded_rule r) (rule_of_recording r is)) in
    recorded_linked r events (reference_cycles r) are (some_cycles r.lf (cycles_of r.lf) refl)

module _ (r : Recorded) (events : List Event) (w : ℕ) (is : IsRecording r) where
  abbrev all : List Basic
  all = basics_of r events (reference_cycles r)

  linked : AreLinked (recorded_places r) all
  linked = basics_are_linked r events is

  whole : all ≡ basics_by w all ++ basics_past w all
  whole = basics_parted (recorded_places r) w all linked

  linked_whole : AreLinked (recorded_places r) (basics_by w all ++ basics_past w all)
  linked_whole = subst (AreLinked (recorded_places r)) whole linked

  pub shorts_told : groups_by w (shorts_of r all) ≡ groups_by w (shorts_of r (basics_by w all))
  shorts_told =
      ap (λ bs. groups_by w (shorts_of r bs)) whole
      ∙ shorts_settled (channel_count r) w (basics_by w all) (basics_past w all) (past_after w all)

  pub tens_told : groups_by w (tens_of r all) ≡ groups_by w (tens_of r (basics_by w all))
  tens_told =
      ap (λ bs. groups_by w (tens_of r bs)) whole
      ∙ tens_settled (clock_of r) (sample_count r) (channel_count r) w (basics_by w all) (basics_past w all)
      (past_after w all)
      (ticks_end (clock_of r) (sample_count r) (basics_by w all ++ basics_past w all) linked_whole)

  pub two_hours_told : groups_by w (two_hours_of r (tens_of r all))
      ≡ groups_by w (two_hours_of r (tens_of r (basics_by w all)))
  two_hours_told =
      let rise : EndsRise (basics_by w all ++ basics_past w all) =
      linked_rise (recorded_places r) (basics_by w all ++ basics_past w all) linked_whole in
      ap (λ bs. groups_by w (two_hours_of r (tens_of r bs))) whole
      ∙ two_hours_settled (clock_of r) (sample_count r) (channel_count r) w (basics_by w all)
      (basics_past w all)
      (past_after w all)
      (ticks_end (clock_of r) (sample_count r) (basics_by w all ++ basics_past w all) linked_whole)
      (front_rises (basics_by w all) (basics_past w all) rise) rise

pub intervals_settled : IntervalsAreSettled
intervals_settled = record { shorts = shorts_told; tens = tens_told; two_hours = two_hours_told }
