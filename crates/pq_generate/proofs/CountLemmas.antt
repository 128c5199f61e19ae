-- How large counts are.
use Rattle.std.proofs.Common.{◌≡◌, ℕ, ◌/◌, ◌%◌, ◌<◌, ◌≤◌, get_or, ℤ, pos, negsuc, unsigned_abs, to_z, of_z, nat_le, refl, subst, sym, arith, Bool, true, false, if◌then◌else◌, inl, inr}
use Rattle.std.proofs.lemmas.Bool.{cases_lt}
use Rattle.std.proofs.lemmas.Bool.Decides.{nat_tests}
use Rattle.std.proofs.lemmas.Int.{fits_signed_from_abs, ints, to_z-of_z}
use Rattle.std.proofs.lemmas.List.Sums.{AllPass-from_list_all}
use Rattle.std.specs.Int.{w16}
use Rattle.pq_generate.proofs.DisturbanceLemmas.{none_behind, only_one}
use Rattle.pq_generate.specs.GeneratedRecording.{changed, count_at, disturbance_of, disturbances, disturbed, lies_on, sine}
use Rattle.pq_generate.specs.declared.disturbance.Disturbance.{Disturbance}
use Rattle.pq_generate.specs.declared.disturbance.Manner.{Manner}
use Rattle.pq_generate.specs.declared.disturbance.Manner.TheVariants.{Zeroed, Halved, Raised}
use Rattle.pq_words.specs.Magnitude.{IsWithin}

-- the magnitude of each count of the sine
sizes : (place : ℕ) → place < 24 → unsigned_abs (get_or sine place (pos 0)) ≤ 10000
sizes place below =
    let passes : nat_le (unsigned_abs (get_or sine place (pos 0))) 10000 ≡ true =
    AllPass-from_list_all (λ z. nat_le (unsigned_abs z) 10000) sine refl place (pos 0) below in
    grind (arith, nat_tests)

-- a magnitude bounds a number on both sides
within : (z : ℤ) → unsigned_abs z ≤ 10000 → IsWithin 10000 z
within (pos n) small = (omega (arith, ints), omega (arith, ints))
within (negsuc n) small = (omega (arith, ints), omega (arith, ints))

sine_within : (place : ℕ) → place < 24 → IsWithin 10000 (get_or sine place (pos 0))
sine_within place below = within (get_or sine place (pos 0)) (sizes place below)

-- each count of the sine comes back from its 16 bits as it was
pub sine_back : (place : ℕ) → place < 24 →
    to_z w16 (of_z w16 (get_or sine place (pos 0))) ≡ get_or sine place (pos 0)
sine_back place below = to_z-of_z w16 (get_or sine place (pos 0))
    (fits_signed_from_abs w16 (get_or sine place (pos 0)) (omega (arith, sizes place below)))

-- what a manner makes of it
changed_within : (manner : Manner) (count : ℤ) → IsWithin 10000 count → IsWithin 12000 (changed manner count)
changed_within Zeroed count small = (omega (arith, ints), omega (arith, ints))
changed_within Halved (pos n) small = (omega (arith, ints), omega (arith, ints))
changed_within Halved (negsuc n) small = (omega (arith, ints), omega (arith, ints))
changed_within Raised (pos n) small = (omega (arith, ints), omega (arith, ints))
changed_within Raised (negsuc n) small = (omega (arith, ints), omega (arith, ints))

chosen_within : (b : Bool) (manner : Manner) (count : ℤ) → IsWithin 10000 count →
    IsWithin 12000 (if b then changed manner count else count)
chosen_within true manner count small = changed_within manner count small
chosen_within false manner count small = (omega (arith, ints), omega (arith, ints))

-- a count of the sine, disturbed by one at most
one_within : (d : Disturbance) (channel cycle : ℕ) (count : ℤ) → IsWithin 10000 count →
    IsWithin 12000 (disturbed channel cycle count d)
one_within d channel cycle count small = chosen_within (lies_on d channel cycle) d.manner count small

wider : (z : ℤ) → IsWithin 10000 z → IsWithin 12000 z
wider z small = (omega (arith, ints), omega (arith, ints))

pub counts_within : (seed channel i : ℕ) → IsWithin 12000 (count_at (disturbances seed) channel i)
unfolding count_at
counts_within seed channel i =
    let count : ℤ = get_or sine (i % 24) (pos 0) in
    let small : IsWithin 10000 count = sine_within (i % 24) (omega arith) in
    let cycle : ℕ = i / 24 in
    let index : ℕ = cycle / 3000 in
    elim (cases_lt index 10) [
      | inl below ↦ subst (IsWithin 12000) (sym (only_one seed channel cycle index count below (omega arith)
          (omega arith))) (one_within (disturbance_of seed index) channel cycle count small)
      | inr from ↦ subst (IsWithin 12000) (sym (none_behind seed channel cycle count (omega arith)))
          (wider count small)
    ]
