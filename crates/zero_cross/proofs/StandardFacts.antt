-- Worked values, so that a wrong rule in the specs does not check.
use Rattle.std.proofs.Common.{◌≡◌, [], ◌∷◌, ◌++◌, Some, None, true, false, replicate, refl, pos, negsuc}
use Rattle.zero_cross.specs.Boundary.{rule_of, first_boundary, next_boundary, boundaries, boundary_places, cycle_boundaries}
use Rattle.pq_words.specs.First.{first_of, first_between}
use Rattle.pq_words.specs.Successors.{successors}
use Rattle.pq_words.specs.Steps.{numbers_from}
use Rattle.pq_words.proofs.WorkedSignal.{sine_count, sampled}

-- at 1200 Hz and 50 Hz half a cycle is 12 samples, at 1199 Hz too; at 60 Hz it is 10 samples at 1200 Hz, 12
-- at 1440 Hz and 8 at 960 Hz, the least rate
pub known_rules : (rule_of 1_200_000_000 50 ≡ record { h = 12; lo = 10; hi = 15 })
    × (rule_of 1_199_000_000 50 ≡ record { h = 12; lo = 10; hi = 15 })
    × (rule_of 1_200_000_000 60 ≡ record { h = 10; lo = 8; hi = 12 })
    × (rule_of 1_440_000_000 60 ≡ record { h = 12; lo = 10; hi = 15 })
    × (rule_of 960_000_000 60 ≡ record { h = 8; lo = 7; hi = 10 })
unfolding rule_of
known_rules = (refl, refl, refl, refl, refl)

-- a sine that begins at zero has its first rising crossing at place 24; without that place boundary 0 is
-- place 0
pub sine_begins : (first_boundary (sampled sine_count 32_500 49) (rule_of 1_200_000_000 50) ≡ Some 24)
    × (first_boundary (sampled sine_count 32_500 24) (rule_of 1_200_000_000 50) ≡ Some 0) ×
    (first_boundary [] (rule_of 1_200_000_000 50) ≡ None)
unfolding first_boundary rule_of first_between first_of sampled sine_count numbers_from
sine_begins = (refl, refl, refl)

-- its boundaries in 100 samples; the crossing at place 96 is there, and that of place 100 has no sample
pub sine_boundaries : (boundary_places (sampled sine_count 32_500 100) (rule_of 1_200_000_000 50)
    ≡ 24 ∷ 36 ∷ 48 ∷ 60 ∷ 72 ∷ 84 ∷ 96 ∷ [])
    × (cycle_boundaries (sampled sine_count 32_500 100) (rule_of 1_200_000_000 50) ≡ 24 ∷ 48 ∷ 72 ∷ 96 ∷ [])
unfolding boundaries cycle_boundaries successors first_boundary next_boundary rule_of first_between first_of
    sampled sine_count numbers_from
sine_boundaries = (refl, refl)

-- where no crossing is found boundaries are half a cycle apart, while one more search range fits
pub silent_boundaries : boundary_places (replicate 50 (pos 0)) (rule_of 1_200_000_000 50)
    ≡ 0 ∷ 12 ∷ 24 ∷ 36 ∷ []
unfolding boundaries successors first_boundary next_boundary rule_of first_between first_of
silent_boundaries = refl

-- a rising crossing, which zero completes, is boundary 0 at place 30, twice the greatest distance, and no
-- longer at place 31
pub last_place_of_the_first_search : (first_boundary (replicate 30 (negsuc 0) ++ pos 0 ∷ [])
    (rule_of 1_200_000_000 50) ≡ Some 30)
    × (first_boundary (replicate 31 (negsuc 0) ++ pos 0 ∷ []) (rule_of 1_200_000_000 50) ≡ Some 0)
unfolding first_boundary rule_of first_between first_of
last_place_of_the_first_search = (refl, refl)

-- a falling crossing is boundary 1 at places 10 and 15; at 9 and 16 it is too near and too far, and half a
-- cycle stands in
pub places_of_the_next_search : (next_boundary (replicate 10 (pos 1) ++ replicate 9 (pos 0))
    (rule_of 1_200_000_000 50) 0 false ≡ Some 10)
    × (next_boundary (replicate 15 (pos 1) ++ pos 0 ∷ []) (rule_of 1_200_000_000 50) 0 false ≡ Some 15)
    × (next_boundary (replicate 9 (pos 1) ++ replicate 7 (pos 0)) (rule_of 1_200_000_000 50) 0 false
    ≡ Some 12)
    × (next_boundary (replicate 16 (pos 1) ++ pos 0 ∷ []) (rule_of 1_200_000_000 50) 0 false ≡ Some 12)
unfolding next_boundary rule_of first_between first_of
places_of_the_next_search = (refl, refl, refl, refl)

-- a crossing of the other direction is none, and without room for a whole search range the list ends
pub end_of_the_list : (next_boundary (replicate 10 (pos 1) ++ pos 0 ∷ []) (rule_of 1_200_000_000 50) 0 true
    ≡ None)
    × (next_boundary (replicate 15 (pos 1)) (rule_of 1_200_000_000 50) 0 false ≡ None) ×
    (next_boundary (replicate 16 (pos 1)) (rule_of 1_200_000_000 50) 0 false ≡ Some 12)
unfolding next_boundary rule_of first_between first_of
end_of_the_list = (refl, refl, refl)
