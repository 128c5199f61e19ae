-- The lanes by their numbers, and what stands in an item.
use Rattle.std.proofs.Common.{◌≡◌, ℕ, ◌+◌, ◌*◌, ◌/◌, ◌%◌, ◌<◌, ◌≤◌, ◌==◌, Bool, true, false, cond, nat_lt, List, [], ◌∷◌, map, pos, refl, sym, ◌∙◌, ap, arith}
use Rattle.std.proofs.lemmas.Bool.Decides.{nat_tests}
use Rattle.event_detect.specs.declared.window.Window.{Window}
use Rattle.freq10s.specs.declared.reading.Reading.{Reading}
use Rattle.lanes.specs.declared.lane_item.LaneItem.{LaneItem}
use Rattle.lanes.specs.declared.lane_item.LaneItem.TheVariants as item
use Rattle.lanes.specs.Lane.{sampler_items, detector_items, frequency_items, lane_items}
use Rattle.pq_base.specs.Recorded.{Recorded}
use Rattle.pq_sequence.specs.MeasuredRecording.{channel_count}

-- ---- the lanes by number

lt_is : (a b : ℕ) → a < b → nat_lt a b ≡ true
lt_is a b h = grind (arith, nat_tests, h)

lt_not : (a b : ℕ) → b ≤ a → nat_lt a b ≡ false
lt_not a b h = grind (arith, nat_tests, h)

eq_is : (a b : ℕ) → a ≡ b → (a == b) ≡ true
eq_is a b h = grind (arith, nat_tests, h)

eq_not : (a b : ℕ) → b < a → (a == b) ≡ false
eq_not a b h = grind (arith, nat_tests, h)

module _ (r : Recorded) where
  -- a lane's items by three tests of its number
  abbrev by_tests : ℕ → Bool → Bool → Bool → List LaneItem
  by_tests position within even last =
      cond within (cond even (sampler_items r position) (detector_items r position))
      (cond last (frequency_items r) [])

  -- lane 2c is the sampler of channel c
  pub sampler_lane : (c : ℕ) → c < channel_count r → lane_items r (2 * c) ≡ sampler_items r c
  unfolding lane_items
  sampler_lane c inside =
      let even : 2 * c % 2 ≡ 0 = omega arith in
      let half : 2 * c / 2 ≡ c = omega arith in
      ap (λ p. by_tests (2 * c / 2) p (2 * c % 2 == 0) (2 * c == 2 * channel_count r))
      (lt_is (2 * c) (2 * channel_count r) (omega (arith, inside)))
      ∙ ap (λ p. cond p (sampler_items r (2 * c / 2)) (detector_items r (2 * c / 2)))
      (eq_is (2 * c % 2) 0 even)
      ∙ ap (sampler_items r) half

  -- lane 2c + 1 is its detector
  pub detector_lane : (c : ℕ) → c < channel_count r → lane_items r (2 * c + 1) ≡ detector_items r c
  unfolding lane_items
  detector_lane c inside =
      let lane = 2 * c + 1 in
      let odd : 0 < lane % 2 = omega arith in
      let half : lane / 2 ≡ c = omega arith in
      ap (λ p. by_tests (lane / 2) p (lane % 2 == 0) (lane == 2 * channel_count r))
      (lt_is lane (2 * channel_count r) (omega (arith, inside)))
      ∙ ap (λ p. cond p (sampler_items r (lane / 2)) (detector_items r (lane / 2)))
      (eq_not (lane % 2) 0 odd)
      ∙ ap (detector_items r) half

  -- the last lane is that of frequency
  pub frequency_lane : lane_items r (2 * channel_count r) ≡ frequency_items r
  unfolding lane_items
  frequency_lane =
      let n = 2 * channel_count r in
      ap (λ p. by_tests (n / 2) p (n % 2 == 0) (n == n)) (lt_not n n (omega arith))
      ∙ ap (λ p. cond p (frequency_items r) []) (eq_is n n refl)

  -- what holds of each sampler, each detector and the frequency lane holds of each lane
  pub each_lane : (P : List LaneItem → Type 0) →
      ((c : ℕ) → c < channel_count r → P (sampler_items r c)) →
      ((c : ℕ) → c < channel_count r → P (detector_items r c)) → P (frequency_items r) → P [] →
      (lane : ℕ) → P (lane_items r lane)
  unfolding lane_items
  each_lane P samplers detectors frequency none lane =
      at (nat_lt lane (2 * channel_count r)) (lane % 2 == 0) (lane == 2 * channel_count r) refl
    where
      position_in : nat_lt lane (2 * channel_count r) ≡ true → lane / 2 < channel_count r
      position_in is =
          let less : lane < 2 * channel_count r = grind (arith, nat_tests, is) in omega (arith, less)

      at : (within even last : Bool) → nat_lt lane (2 * channel_count r) ≡ within →
          P (by_tests (lane / 2) within even last)
      at true true last is = samplers (lane / 2) (position_in is)
      at true false last is = detectors (lane / 2) (position_in is)
      at false even true is = frequency
      at false even false is = none

-- ---- back from an item

undone : {X Y : Type 0} (f : X → Y) (g : Y → X) → ((x : X) → g (f x) ≡ x) → (xs : List X) →
    map g (map f xs) ≡ xs
undone f g back [] = refl
undone f g back (x ∷ xs) =
    ap (λ y. y ∷ map g (map f xs)) (back x) ∙ ap (λ ys. x ∷ ys) (undone f g back xs)

-- lists whose images are the same are the same, where there is a way back
pub one_to_one : {X Y : Type 0} (f : X → Y) (g : Y → X) → ((x : X) → g (f x) ≡ x) → (xs ys : List X) →
    map f xs ≡ map f ys → xs ≡ ys
one_to_one f g back xs ys e = sym (undone f g back xs) ∙ ap (map g) e ∙ undone f g back ys

window_in : LaneItem → Window
window_in (item.Value start end value) = record { start = 0; end = 0; value = 0 }
window_in (item.Window w) = w
window_in (item.Reading reading) = record { start = 0; end = 0; value = 0 }

abbrev no_reading : Reading
no_reading = record { tick = pos 0; start = 0; end = 0; cycles = 0; samples = 0; microhertz = 0 }

reading_in : LaneItem → Reading
reading_in (item.Value start end value) = no_reading
reading_in (item.Window w) = no_reading
reading_in (item.Reading reading) = reading

-- the windows and the readings that are posted
pub same_windows : (xs ys : List Window) → map item.Window xs ≡ map item.Window ys → xs ≡ ys
unfolding window_in
same_windows xs ys e = one_to_one item.Window window_in (λ w. refl) xs ys e

pub same_readings : (xs ys : List Reading) → map item.Reading xs ≡ map item.Reading ys → xs ≡ ys
unfolding reading_in
same_readings xs ys e = one_to_one item.Reading reading_in (λ w. refl) xs ys e
