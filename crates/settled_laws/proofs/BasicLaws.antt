-- A basic interval and the one before it: when it begins a segment, told by their starts and the places of
-- ticks.
use Rattle.std.proofs.Common.{◌≡◌, ℕ, ◌-◌, ◌<◌, ◌≤◌, ◌&&◌, Bool, true, false, nat_lt, nat_le, List, [], ◌∷◌, length, ℤ, Option, Some, None, refl, sym, arith}
use Rattle.std.specs.Bool.{⊤}
use Rattle.std.specs.List.{list_any}
use Rattle.std.proofs.lemmas.Bool.Decides.{nat_tests}
use Rattle.aggregate.specs.Aggregation.{Basic}
use Rattle.aggregate.specs.BasicOrder.{BeginsAtFront, Follows}
use Rattle.event_detect.specs.declared.event.Event.{Event}
use Rattle.pq_base.specs.Recorded.{Recorded, sample_count}
use Rattle.pq_sequence.specs.BasicInterval.{basic_runs, cycles_of, fronts}
use Rattle.pq_sequence.specs.MeasuredRecording.{basics_of, basics_over, clock_of, recorded_places, tick_places}
use Rattle.pq_sequence.proofs.BasicOrder.{runs_in_order}
use Rattle.pq_sequence.proofs.NeighbourLaws.{IsIn, Linked, LinkedFrom, any_in, contained, in_any, in_contained, in_mapped, mapped_in}
use Rattle.pq_time.specs.declared.clock.Clock.{Clock}
use Rattle.pq_time.specs.Tick.{tick_place, ticks}
use Rattle.ten_twelve.specs.Run.{runs}
use Rattle.zero_cross.specs.Boundary.{AreBoundaries}

-- a basic interval that begins at a place begins a segment: it is the first, or some tick's place lies after
-- the start of the one before it and not after its own
abbrev pub is_new : List ℕ → Option ℕ → ℕ → Bool
is_new places None start = true
is_new places (Some before) start = list_any (λ p. nat_lt before p && nat_le p start) places

-- what a basic interval has to do with the one before it
abbrev pub Succeeds : List ℕ → Basic → Basic → Type 0
Succeeds places x y =
    (x.part.end ≤ y.part.end)
    × (y.front ≡ is_new places (Some x.part.start) y.part.start)
    × ((p : ℕ) → IsIn p places → x.part.start < p → p ≤ x.part.end → y.front ≡ true)

-- the first begins a segment, and each later one succeeds the one before it
abbrev pub AreLinked : List ℕ → List Basic → Type 0
AreLinked places [] = ⊤
AreLinked places (b ∷ bs) = (b.front ≡ true) × LinkedFrom (Succeeds places) b bs

same_bool : (a b : Bool) → (a ≡ true → b ≡ true) → (b ≡ true → a ≡ true) → a ≡ b
same_bool true b h g = sym (h refl)
same_bool false true h g = g refl
same_bool false false h g = refl

-- a place lies after one and not after another
in_span : (a p b : ℕ) → (nat_lt a p && nat_le p b) ≡ true → (a < p) × (p ≤ b)
in_span a p b h = at (nat_lt a p) refl h
  where
    after : nat_lt a p ≡ true → a < p
    after is = grind (arith, nat_tests, is)

    until : nat_le p b ≡ true → p ≤ b
    until is = grind (arith, nat_tests, is)

    at : (c : Bool) → nat_lt a p ≡ c → (c && nat_le p b) ≡ true → (a < p) × (p ≤ b)
    at true is e = (after is, until e)
    at false is e = absurd (let bad : ⊥ = cc in bad)

of_span : (a p b : ℕ) → a < p → p ≤ b → (nat_lt a p && nat_le p b) ≡ true
of_span a p b h g = grind (arith, nat_tests, h, g)

-- ---- a place among those of ticks

place_of_tick : (clock : Clock) (n p : ℕ) → IsIn p (tick_places clock n) →
    (tick : ℤ) × IsIn tick (ticks clock n 600) × (tick_place clock n tick ≡ p)
unfolding tick_places
place_of_tick clock n p is = in_mapped (tick_place clock n) (ticks clock n 600) p is

tick_has_place : (clock : Clock) (n : ℕ) (tick : ℤ) → IsIn tick (ticks clock n 600) →
    IsIn (tick_place clock n tick) (tick_places clock n)
unfolding tick_places
tick_has_place clock n tick is = mapped_in (tick_place clock n) (ticks clock n 600) tick is

module _ (clock : Clock) (n : ℕ) (x y : Basic) (follows : Follows clock n x y) where
  -- a tick's place after the start of one and not after that of the next is a segment's beginning
  begins : (p : ℕ) → IsIn p (tick_places clock n) → x.part.start < p → p ≤ y.part.start → y.front ≡ true
  begins p is over until =
      let tick = place_of_tick clock n p is in
      follows.front.1 (
        tick.0,
        contained tick.0 (ticks clock n 600) tick.1,
        omega (arith, over, tick.2),
        omega (arith, until, tick.2),
      )

  told : y.front ≡ is_new (tick_places clock n) (Some x.part.start) y.part.start
  told =
      same_bool y.front (list_any (λ p. nat_lt x.part.start p && nat_le p y.part.start) (tick_places clock n))
      (λ front.
      let tick = follows.front.0 front in
      let place : ℕ = tick_place clock n tick.0 in
      in_any (λ p. nat_lt x.part.start p && nat_le p y.part.start) (tick_places clock n) place
      (tick_has_place clock n tick.0 (in_contained tick.0 (ticks clock n 600) tick.1))
      (of_span x.part.start place y.part.start tick.2 tick.3))
      (λ h.
      let found = any_in (λ p. nat_lt x.part.start p && nat_le p y.part.start) (tick_places clock n) h in
      let span = in_span x.part.start found.0 y.part.start found.2 in
      begins found.0 found.1 span.0 span.1)

  -- where a basic interval reaches a tick's place, the next one begins a segment
  over : (p : ℕ) → IsIn p (tick_places clock n) → x.part.start < p → p ≤ x.part.end → y.front ≡ true
  over p is past until = at y.front refl
    where
      at : (b : Bool) → y.front ≡ b → y.front ≡ true
      at true e = e
      at false e =
          let joined = follows.joined e in
          begins p is past (omega (arith, until, joined))

  pub succeeds : Succeeds (tick_places clock n) x y
  succeeds = (let rise = follows.ends in omega (arith, rise), told, over)

-- basic intervals in order are linked
pub order_linked : (clock : Clock) (n : ℕ) (bs : List Basic) → BeginsAtFront bs →
    Linked (Follows clock n) bs → AreLinked (tick_places clock n) bs
order_linked clock n [] first follow = tt
order_linked clock n (b ∷ bs) first follow = (first, at b bs follow)
  where
    at : (x : Basic) (ys : List Basic) → LinkedFrom (Follows clock n) x ys →
        LinkedFrom (Succeeds (tick_places clock n)) x ys
    at x [] l = tt
    at x (y ∷ ys) l = (succeeds clock n x y l.0, at y ys l.1)

-- so are those over runs from the fronts of the ticks on
pub basics_linked : (clock : Clock) (n m : ℕ) (cb : List ℕ) → AreBoundaries cb n → 1 ≤ m → (r : Recorded)
    (events : List Event) → AreLinked (tick_places clock n) (basics_over r events cb
    (fronts cb (tick_places clock n)) (runs (fronts cb (tick_places clock n)) m (length cb - 1)))
basics_linked clock n m cb are some r events =
    let order = runs_in_order clock n m cb are some r events in
    order_linked clock n _ order.0 order.1

-- and those of a recording
pub recorded_linked : (r : Recorded) (events : List Event) (cb : List ℕ) → AreBoundaries cb (sample_count r) →
    1 ≤ cycles_of r.lf → AreLinked (recorded_places r) (basics_of r events cb)
unfolding basic_runs
recorded_linked r events cb are some =
    basics_linked (clock_of r) (sample_count r) (cycles_of r.lf) cb are some r events
