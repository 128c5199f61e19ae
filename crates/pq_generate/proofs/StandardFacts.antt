-- Worked values, so that a wrong rule in the specs does not check. They were computed apart from any program.
use Rattle.std.proofs.Common.{◌≡◌, ℕ, ◌-◌, ◌^◌, [], ◌∷◌, List, length, map, refl, ℤ, pos, neg_ℤ}
use Rattle.pq_generate.specs.GeneratedRecording.{cfg_text, changed, count_at, disturbance_by, disturbances, number_after, on_channels, record_at}
use Rattle.pq_generate.specs.declared.disturbance.Disturbance.{Disturbance}
use Rattle.pq_generate.specs.declared.disturbance.Manner.{Manner}
use Rattle.pq_generate.specs.declared.disturbance.Manner.TheVariants.{Zeroed, Halved, Raised}
use Rattle.pq_words.specs.Steps.{numbers_from}

-- ---- disturbances

-- the numbers after 1
pub numbers : map (number_after 1) (0 ∷ 1 ∷ 2 ∷ 3 ∷ [])
    ≡ 1 ∷ 7806831264735756412 ∷ 9396908728118811419 ∷ 11960119808228829710 ∷ []
unfolding number_after
numbers = refl

abbrev disturbance : ℕ → ℕ → ℕ → Manner → Disturbance
disturbance first_cycle cycles channel manner = record {
  first_cycle = first_cycle;
  cycles = cycles;
  channel = channel;
  manner = manner;
}

pub disturbances_of_nought : disturbances 0
    ≡ disturbance 1907 3 3 Raised
    ∷ disturbance 3524 28 2 Raised
    ∷ disturbance 8037 48 3 Zeroed
    ∷ disturbance 10336 43 3 Raised
    ∷ disturbance 12225 21 1 Zeroed
    ∷ disturbance 15991 14 2 Zeroed
    ∷ disturbance 18284 3 3 Halved
    ∷ disturbance 23075 19 2 Raised
    ∷ disturbance 25364 42 1 Zeroed
    ∷ disturbance 27239 49 2 Raised ∷ []
unfolding number_after disturbance_by numbers_from
disturbances_of_nought = refl

pub disturbances_of_one : disturbances 1
    ≡ disturbance 874 46 1 Zeroed
    ∷ disturbance 3253 21 3 Halved
    ∷ disturbance 7296 50 2 Zeroed
    ∷ disturbance 9970 18 1 Zeroed
    ∷ disturbance 13134 31 2 Raised
    ∷ disturbance 16895 10 1 Zeroed
    ∷ disturbance 19230 45 1 Raised
    ∷ disturbance 22002 49 2 Raised
    ∷ disturbance 24189 26 2 Raised
    ∷ disturbance 27846 49 1 Halved ∷ []
unfolding number_after disturbance_by numbers_from
disturbances_of_one = refl

pub disturbances_of_most : disturbances (2 ^ 64 - 1)
    ≡ disturbance 588 26 3 Zeroed
    ∷ disturbance 3443 1 1 Raised
    ∷ disturbance 6777 45 1 Halved
    ∷ disturbance 10702 17 1 Raised
    ∷ disturbance 12964 27 1 Zeroed
    ∷ disturbance 17087 18 3 Raised
    ∷ disturbance 18985 28 1 Zeroed
    ∷ disturbance 22147 39 2 Raised
    ∷ disturbance 24540 8 2 Raised
    ∷ disturbance 28632 49 3 Halved ∷ []
unfolding number_after disturbance_by numbers_from
disturbances_of_most = refl

-- ---- counts

-- toward zero, of either sign
pub changes : (map (changed Halved) (pos 7071 ∷ neg_ℤ (pos 7071) ∷ []) ≡ pos 3535 ∷ neg_ℤ (pos 3535) ∷ [])
    × (map (changed Raised) (pos 2588 ∷ neg_ℤ (pos 2588) ∷ pos 10000 ∷ [])
    ≡ pos 3105 ∷ neg_ℤ (pos 3105) ∷ pos 12000 ∷ [])
    × (changed Zeroed (pos 7071) ≡ pos 0)
changes = (refl, refl, refl)

-- the counts of the three channels at sample i, for seed 1
abbrev counts : ℕ → List ℤ
counts i = on_channels (λ channel. count_at (disturbances 1) channel i)

-- channel 1 in cycles 874 to 919: before, in the first and the last of them, and behind
pub zeroed : map counts (20975 ∷ 20982 ∷ 22079 ∷ 22081 ∷ [])
    ≡ (neg_ℤ (pos 2588) ∷ neg_ℤ (pos 2588) ∷ neg_ℤ (pos 2588) ∷ [])
    ∷ (pos 0 ∷ pos 10000 ∷ pos 10000 ∷ [])
    ∷ (pos 0 ∷ neg_ℤ (pos 2588) ∷ neg_ℤ (pos 2588) ∷ [])
    ∷ (pos 2588 ∷ pos 2588 ∷ pos 2588 ∷ []) ∷ []
unfolding count_at number_after disturbance_by numbers_from
zeroed = refl

-- channel 3 in cycles 3253 to 3273
pub halved : map counts (78075 ∷ 78087 ∷ 78575 ∷ 78577 ∷ [])
    ≡ (pos 7071 ∷ pos 7071 ∷ pos 3535 ∷ [])
    ∷ (neg_ℤ (pos 7071) ∷ neg_ℤ (pos 7071) ∷ neg_ℤ (pos 3535) ∷ [])
    ∷ (neg_ℤ (pos 2588) ∷ neg_ℤ (pos 2588) ∷ neg_ℤ (pos 1294) ∷ [])
    ∷ (pos 2588 ∷ pos 2588 ∷ pos 2588 ∷ []) ∷ []
unfolding count_at number_after disturbance_by numbers_from
halved = refl

-- channel 2 in cycle 13134 and on
pub raised : map counts (315217 ∷ 315229 ∷ [])
    ≡ (pos 2588 ∷ pos 3105 ∷ pos 2588 ∷ [])
    ∷ (neg_ℤ (pos 2588) ∷ neg_ℤ (pos 3105) ∷ neg_ℤ (pos 2588) ∷ []) ∷ []
unfolding count_at number_after disturbance_by numbers_from
raised = refl

-- ---- files

-- the record of the first sample, and one in which channel 1 has 0 and the others -2588
pub first_record : record_at (disturbances 1) 0 ≡ 1 ∷ 0 ∷ 0 ∷ 0 ∷ 0 ∷ 0 ∷ 0 ∷ 0 ∷ 0 ∷ 0 ∷ 0 ∷ 0 ∷ 0 ∷ 0 ∷ []
unfolding record_at count_at number_after disturbance_by numbers_from
first_record = refl

pub disturbed_record : record_at (disturbances 1) 22079
    ≡ 0x40 ∷ 0x56 ∷ 0 ∷ 0 ∷ 0 ∷ 0 ∷ 0 ∷ 0 ∷ 0 ∷ 0 ∷ 0xe4 ∷ 0xf5 ∷ 0xe4 ∷ 0xf5 ∷ []
unfolding record_at count_at number_after disturbance_by numbers_from
disturbed_record = refl

-- the cfg has 239 bytes, CR LF at the end of each of its 12 lines
pub cfg_length : length cfg_text ≡ 239
unfolding cfg_text
cfg_length = refl
