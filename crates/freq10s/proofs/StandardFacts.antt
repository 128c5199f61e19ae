-- Worked values, so that a wrong rule in the specs does not check.
use Rattle.std.proofs.Common.{◌≡◌, ◌*◌, ◌^◌, ℕ, List, [], ◌∷◌, map, Some, None, refl, pos}
use Rattle.freq10s.specs.Frequency.{reading_of, readings}
use Rattle.pq_time.specs.Time.{time_of, place_of}
use Rattle.pq_time.specs.Tick.{ticks}
use Rattle.pq_words.specs.First.{first_of, first_between}
use Rattle.pq_words.specs.Steps.{numbers_from, steps_from}

-- cycle boundaries 24 samples apart from place 24 on
abbrev regular : ℕ → List ℕ
regular n = map (λ k. 24 * k) (numbers_from 1 n)

-- ten seconds at 1200 Hz have 500 boundaries, and so 499 cycles
pub ten_seconds_of_frequency : readings
    (record { t0 = pos (1_709_294_409_995 * 10 ^ 6); rate = 1_200_000_000 }) 12_006 (regular 500) ≡ record {
      tick = pos 1_709_294_410;
      start = 6;
      end = 12_006;
      cycles = 499;
      samples = 11_976;
      microhertz = 50_000_000;
    } ∷ []
unfolding readings reading_of ticks time_of place_of first_between first_of steps_from numbers_from
ten_seconds_of_frequency = refl

-- at 1199 Hz, from place 1199 to 13189: the cycles that lie over the ticks do not count
pub cycles_within : reading_of 1_199_000_000 (regular 551) (pos 0) 1199 13_189 ≡ Some (record {
  tick = pos 0;
  start = 1199;
  end = 13_189;
  cycles = 499;
  samples = 11_976;
  microhertz = 49_958_333;
})
unfolding reading_of numbers_from
cycles_within = refl

-- a boundary at either end counts, and one boundary gives no reading
pub boundaries_at_ends : (reading_of 1_200_000_000 (24 ∷ 48 ∷ []) (pos 0) 24 48 ≡ Some (record {
  tick = pos 0;
  start = 24;
  end = 48;
  cycles = 1;
  samples = 24;
  microhertz = 50_000_000;
})) × (reading_of 1_200_000_000 (24 ∷ 48 ∷ []) (pos 0) 25 48 ≡ None) ×
    (reading_of 1_200_000_000 (24 ∷ 48 ∷ []) (pos 0) 24 47 ≡ None)
unfolding reading_of
boundaries_at_ends = (refl, refl, refl)
