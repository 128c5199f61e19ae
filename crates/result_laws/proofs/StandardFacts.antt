-- Worked values, so that a wrong rule in the specs does not check.
use Rattle.std.proofs.Common.{◌≡◌, ℕ, zero, suc, ◌+◌, ◌≤◌, true, false, [], ◌∷◌, pos, Some, slice_get, refl, sym, ◌∙◌, ap, subst, arith}
use Rattle.std.proofs.lemmas.Option.{same_Some}
use Rattle.pq_items.specs.declared.item.Item.{Item}
use Rattle.pq_items.specs.declared.item.Item.TheVariants.{Basic, Dip, Swell, Ten}
use Rattle.pq_items.specs.ItemOrder.{Key}
use Rattle.pq_items.specs.ItemTable.{end_of, start_of}
use Rattle.result_laws.specs.DistinctKeys.{KeysDiffer}
use Rattle.result_laws.specs.TwelveTenMinutes.{HaveNoGap}

-- two dips over one span are told apart by their channels, not by their values; a dip and a swell by their
-- kinds
pub value_is_no_key : KeysDiffer (Dip 1 5 9 100 false) (Dip 1 5 9 200 true) → ⊥
value_is_no_key differ = differ refl

pub kind_is_in_key : KeysDiffer (Dip 1 5 9 100 false) (Swell 1 5 9 100 false)
kind_is_in_key same = let e : 5 ≡ 6 = ap (λ (k : Key). k.rank) same in omega (arith, e)

pub channel_is_in_key : KeysDiffer (Basic 1 24 264 10 100 false) (Basic 2 24 264 10 100 false)
channel_is_in_key same = let e : 1 ≡ 2 = ap (λ (k : Key). k.channel) same in omega (arith, e)

-- a 10-minute item over a span
abbrev pub ten : ℕ → ℕ → Item
ten start end = Ten 1 (pos 600) start end 3000 230_000_000 false

two_items : (a b : Item) → start_of b ≤ end_of a → HaveNoGap (a ∷ b ∷ [])
two_items a b soon zero item next at after =
    subst (λ i. start_of next ≤ end_of i) (same_Some a item at)
    (subst (λ i. start_of i ≤ end_of a) (same_Some b next after) soon)
two_items a b soon (suc k) item next at after =
    let step : suc k + 1 ≡ suc (suc k) = omega arith in
    let past : slice_get (a ∷ b ∷ []) (suc (suc k)) ≡ Some next =
    ap (slice_get (a ∷ b ∷ [])) (sym step) ∙ after in
    absurd (let bad : ⊥ = cc in bad)

-- items that meet, or that overlap, have no gap
pub meeting : HaveNoGap (ten 0 720_000 ∷ ten 720_000 1_440_000 ∷ [])
meeting = two_items (ten 0 720_000) (ten 720_000 1_440_000) (omega arith)

pub overlapping : HaveNoGap (ten 0 720_239 ∷ ten 720_000 1_440_000 ∷ [])
overlapping = two_items (ten 0 720_239) (ten 720_000 1_440_000) (omega arith)

-- one place between them is a gap
pub parted : HaveNoGap (ten 0 719_999 ∷ ten 720_000 1_440_000 ∷ []) → ⊥
parted h =
    let bad : 720_000 ≤ 719_999 = h 0 (ten 0 719_999) (ten 720_000 1_440_000) refl refl in
    omega (arith, bad)
