-- Counts of faults that rose.
use Rattle.std.proofs.Common.{◌≡◌, inl, inr, ℕ, ◌+◌, ◌<◌, ◌≤◌, ◌^◌, Bool, true, false, ltb, refl, arith}
use Rattle.std.proofs.lemmas.Bool.Decides.{nat_tests}
use Rattle.pq_base.specs.Causes.{Rose, next_count}

rose_by : (b : Bool) (before now : ℕ) → ltb (before + 1) (2 ^ 64) ≡ b → now ≡ next_count before →
    Rose before now
rose_by true before now room next =
    let below : before + 1 < 2 ^ 64 = grind (arith, nat_tests) in inl (omega arith)
rose_by false before now room next =
    let above : 2 ^ 64 ≤ before + 1 = grind (arith, nat_tests) in inr (omega arith)

-- the next count is one that rose
pub rose_next : (before now : ℕ) → now ≡ next_count before → Rose before now
rose_next before now next = rose_by (ltb (before + 1) (2 ^ 64)) before now refl next

-- what rose since a later count rose since an earlier one
pub rose_since : (before later now : ℕ) → before ≤ later → Rose later now → Rose before now
rose_since before later now order (inl above) = inl (omega arith)
rose_since before later now order (inr end) = inr end
