-- A cut grows by what ends between, in order; so what is pending, put in order, begins with what a later mark
-- releases.
use Rattle.std.proofs.Common.{◌≡◌, ℕ, ◌<◌, ◌≤◌, Bool, true, false, cond, not, nat_le, List, [], ◌∷◌, ◌++◌, filter, refl, sym, ◌∙◌, ap, arith}
use Rattle.std.specs.Ordering.{is_lt}
use Rattle.std.proofs.lemmas.Bool.Decides.{nat_tests}
use Rattle.event_detect.specs.declared.limits.Limits.{Limits}
use Rattle.interval_ledger.specs.Merged.{Merged, known, IsSettled, IsAtMark}
use Rattle.interval_ledger.proofs.ItemLaws.{ends_until}
use Rattle.interval_ledger.proofs.KnownLaws.{known_settled}
use Rattle.pq_base.specs.Recorded.{Recorded, IsRecording, sample_count}
use Rattle.pq_items.specs.declared.item.Item.{Item}
use Rattle.pq_items.specs.ItemOrder.{item_cmp}
use Rattle.pq_items.specs.ItemTable.{end_of}
use Rattle.pq_items.proofs.OrderLaws.{item_cmp_total, item_cmp_weak, item_cmp_same}
use Rattle.pq_sequence.specs.SequentialResult.{all_items, sequential, cut}
use Rattle.pq_words.specs.Sorted.{in_order}
use Rattle.pq_words.proofs.PrefixLaws.{FailsOn, fails_on_rising}
use Rattle.pq_words.proofs.SortedLaws.{in_order_rises}
use Rattle.settled_laws.proofs.CutLaws.{ends_above}
use Rattle.settled_laws.proofs.ListLaws.{clash, filter_splits, filter_ordered}
use Rattle.settled_laws.proofs.MovedLaws.{in_order_twice}

-- ---- two filters

-- the item ends after the mark
abbrev pub ends_after : ℕ → Item → Bool
ends_after mark i = not (nat_le (end_of i) mark)

pub filters_meet : {X : Type 0} (p q : X → Bool) → ((x : X) → p x ≡ true → q x ≡ true) → (xs : List X) →
    filter p (filter q xs) ≡ filter p xs
filters_meet p q sub [] = refl
filters_meet {X} p q sub (x ∷ xs) = at (q x) refl (p x) refl (filters_meet p q sub xs)
  where
    at : (b : Bool) → q x ≡ b → (c : Bool) → p x ≡ c → filter p (filter q xs) ≡ filter p xs →
        filter p (cond b (x ∷ filter q xs) (filter q xs)) ≡ cond c (x ∷ filter p xs) (filter p xs)
    at true passes c is rest =
        ap (λ b. cond b (x ∷ filter p (filter q xs)) (filter p (filter q xs))) is
        ∙ ap (λ ys. cond c (x ∷ ys) ys) rest
    at false passes true is rest = clash (q x) (sub x is) passes
    at false passes false is rest = rest

filters_swap : {X : Type 0} (p q : X → Bool) (xs : List X) → filter p (filter q xs) ≡ filter q (filter p xs)
filters_swap p q [] = refl
filters_swap {X} p q (x ∷ xs) = at (p x) refl (q x) refl (filters_swap p q xs)
  where
    at : (b : Bool) → p x ≡ b → (c : Bool) → q x ≡ c → filter p (filter q xs) ≡ filter q (filter p xs) →
        filter p (cond c (x ∷ filter q xs) (filter q xs)) ≡ filter q (cond b (x ∷ filter p xs) (filter p xs))
    at true is true passes rest =
        ap (λ b. cond b (x ∷ filter p (filter q xs)) (filter p (filter q xs))) is
        ∙ ap (λ ys. x ∷ ys) rest
        ∙ sym (ap (λ b. cond b (x ∷ filter q (filter p xs)) (filter q (filter p xs))) passes)
    at true is false passes rest =
        rest ∙ sym (ap (λ b. cond b (x ∷ filter q (filter p xs)) (filter q (filter p xs))) passes)
    at false is true passes rest =
        ap (λ b. cond b (x ∷ filter p (filter q xs)) (filter p (filter q xs))) is ∙ rest
    at false is false passes rest = rest

pub until_later : (e m w : ℕ) → m ≤ w → nat_le e m ≡ true → nat_le e w ≡ true
until_later e m w more h = grind (arith, nat_tests, more, h)

after_earlier : (e m w : ℕ) → m ≤ w → not (nat_le e w) ≡ true → not (nat_le e m) ≡ true
after_earlier e m w more h = grind (arith, nat_tests, more, h)

-- ---- the cut grows

cut_grows : (items : List Item) (m w : ℕ) → m ≤ w → cut w (in_order item_cmp items)
    ≡ cut m (in_order item_cmp items)
    ++ in_order item_cmp (filter (ends_after m) (filter (ends_until w) items))
unfolding cut
cut_grows items m w more =
    let low = filter (ends_until w) items in
    let fails : FailsOn (ends_until m) (in_order item_cmp low) =
    fails_on_rising (λ x y. is_lt (item_cmp x y)) (ends_until m) (ends_above m) (in_order item_cmp low)
    (in_order_rises item_cmp item_cmp_weak low) in
    let same = filter_ordered item_cmp (ends_until w) item_cmp_weak items in
    same
    ∙ filter_splits (ends_until m) (in_order item_cmp low) fails
    ∙ ap (λ xs. filter (ends_until m) xs ++ filter (ends_after m) (in_order item_cmp low)) (sym same)
    ∙ ap (λ xs. xs ++ filter (ends_after m) (in_order item_cmp low))
    (filters_meet (ends_until m) (ends_until w) (λ i h. until_later (end_of i) m w more h)
    (in_order item_cmp items))
    ∙ ap (λ xs. filter (ends_until m) (in_order item_cmp items) ++ xs)
    (filter_ordered item_cmp (ends_after m) item_cmp_weak low)

-- ---- what is released, and what stays

module _ (mark w : ℕ) (more : mark ≤ w) (items all_known pending : List Item)
    (same : in_order item_cmp pending ≡ in_order item_cmp (filter (ends_after mark) all_known)) where
  -- where what is known tells all that ends by w, the pending items that end by it are those by which the cut
  -- grows
  pub cut_released :
      in_order item_cmp (filter (ends_until w) items) ≡ in_order item_cmp (filter (ends_until w) all_known) →
      cut w (in_order item_cmp items)
      ≡ cut mark (in_order item_cmp items) ++ filter (ends_until w) (in_order item_cmp pending)
  cut_released told =
      let weak = item_cmp_weak in
      cut_grows items mark w more
      ∙ ap (λ xs. cut mark (in_order item_cmp items) ++ xs)
      (sym (filter_ordered item_cmp (ends_after mark) weak (filter (ends_until w) items))
      ∙ ap (filter (ends_after mark)) told
      ∙ filter_ordered item_cmp (ends_after mark) weak (filter (ends_until w) all_known)
      ∙ ap (in_order item_cmp) (filters_swap (ends_after mark) (ends_until w) all_known)
      ∙ sym (filter_ordered item_cmp (ends_until w) weak (filter (ends_after mark) all_known))
      ∙ sym (ap (filter (ends_until w)) same))

  -- the others are what is known and ends after w
  pub pending_left : in_order item_cmp (filter (ends_after w) (in_order item_cmp pending))
      ≡ in_order item_cmp (filter (ends_after w) all_known)
  pending_left =
      let weak = item_cmp_weak in
      sym (filter_ordered item_cmp (ends_after w) weak (in_order item_cmp pending))
      ∙ ap (filter (ends_after w)) (in_order_twice item_cmp item_cmp_total item_cmp_same pending)
      ∙ ap (filter (ends_after w)) same
      ∙ filter_ordered item_cmp (ends_after w) weak (filter (ends_after mark) all_known)
      ∙ ap (in_order item_cmp)
      (filters_meet (ends_after w) (ends_after mark) (λ i h. after_earlier (end_of i) mark w more h)
      all_known)

-- the step of the mark: what is pending is put in order, and what ends by w counts as released
pub mark_moves : (r : Recorded) (limits : Limits) (m : Merged) (near mark w : ℕ)
    (released pending : List Item) → IsRecording r → mark ≤ w → w < sample_count r →
    IsAtMark r limits m near mark released pending → IsSettled r limits m w →
    IsAtMark r limits m near w (released ++ filter (ends_until w) (in_order item_cmp pending))
    (filter (ends_after w) (in_order item_cmp pending))
unfolding sequential
mark_moves r limits m near mark w released pending given more less at settled =
    let all = known r limits m in
    record {
      settled = settled;
      abreast = at.abreast;
      is_cut =
          ap (λ xs. xs ++ filter (ends_until w) (in_order item_cmp pending)) at.is_cut
          ∙ sym (cut_released mark w more (all_items r limits) all pending at.is_pending
          (ap (in_order item_cmp) (known_settled r limits w given m less settled)));
      is_pending = pending_left mark w more (all_items r limits) all pending at.is_pending;
    }
