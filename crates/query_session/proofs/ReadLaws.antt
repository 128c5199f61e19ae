-- What is read of a ledger is of the result.
use Rattle.std.proofs.Common.{◌≡◌, ℕ, ◌+◌, ◌<◌, ◌≤◌, ◌⊎◌, inl, inr, Bool, true, false, List, [], ◌∷◌, ◌++◌, get_or, length, slice_get, Option, Some, None, option_and_then, refl, ap, sym, ◌∙◌, arith}
use Rattle.std.specs.Bool.{then_some}
use Rattle.std.specs.Option.{option_map_or}
use Rattle.std.proofs.lemmas.Bool.{cases_lt}
use Rattle.std.proofs.lemmas.List.{length-append}
use Rattle.std.proofs.lemmas.Option.{slice_get-get_or, slice_get_within}
use Rattle.event_detect.proofs.ExtentLaws.{get_last, get_left}
use Rattle.chain_core.proofs.CutLaws.{cut_item, ends_by, item_by, released_stands}
use Rattle.chain_core.proofs.OrderedItems.{ends_in_order}
use Rattle.event_detect.specs.declared.limits.Limits.{Limits}
use Rattle.interval_ledger.specs.declared.ledger.Ledger.{Ledger}
use Rattle.interval_ledger.specs.Ledger.{KeepsCounts, mark_of, released_of, view_of}
use Rattle.pq_base.specs.Recorded.{Recorded, sample_count}
use Rattle.pq_items.specs.declared.item.Item.{Item as ResultItem}
use Rattle.pq_items.specs.ItemTable.{end_of}
use Rattle.pq_sequence.specs.SequentialResult.{cut, end_at, sequential}
use Rattle.query_session.specs.declared.answer.Next.{Next}
use Rattle.query_session.specs.declared.answer.Next.TheVariants.{Item, Withheld, End, OutOfMemory, Busy, Halted}
use Rattle.query_session.specs.Bounds.{HasBounds}
use Rattle.query_session.specs.Reading.{Answers, AreNext, cursor_after, result_in}
use Rattle.query_session.specs.Session.{IsSettled}
use Rattle.query_session.proofs.ListLaws.{none_at}

module _ (r : Recorded) (limits : Limits) where
  released : (mark k : ℕ) → slice_get (cut mark (sequential r limits)) k
      ≡ option_and_then (item_by mark) (slice_get (sequential r limits) k)
  released mark k = cut_item mark (sequential r limits) k (ends_in_order r limits)

  pub given_item : (mark k : ℕ) (x : ResultItem) → slice_get (cut mark (sequential r limits)) k ≡ Some x →
      slice_get (sequential r limits) k ≡ Some x
  given_item mark k x e =
      released_stands (slice_get (sequential r limits) k) mark x (sym (released mark k) ∙ e)

  -- an item that a cut leaves out ends after its mark
  pub withheld_below : (mark word k : ℕ) → slice_get (cut mark (sequential r limits)) k ≡ None → word ≤ mark →
      word < sample_count r → word < end_at (sequential r limits) (sample_count r) k
  withheld_below mark word k e low less =
      later (slice_get (sequential r limits) k) (sym (released mark k) ∙ e)
    where
      later : (found : Option ResultItem) → option_and_then (item_by mark) found ≡ None →
          word < option_map_or end_of found (sample_count r)
      later None none = less
      later (Some x) none = at (ends_by mark x) refl none
        where
          at : (b : Bool) → ends_by mark x ≡ b → then_some b x ≡ None → word < end_of x
          at true is none = absurd (let bad : ⊥ = cc in bad)
          at false is none = let past : mark < end_of x = grind (arith, is) in omega (arith, past, low)

  pub all_given : (mark k : ℕ) → HasBounds r limits → slice_get (cut mark (sequential r limits)) k ≡ None →
      sample_count r ≤ mark → k ≤ length (sequential r limits) → k ≡ length (sequential r limits)
  all_given mark k bounds e done within =
      let out : length (sequential r limits) ≤ k = at (slice_get (sequential r limits) k) refl
      (sym (released mark k) ∙ e) in omega (arith, out, within)
    where
      at : (found : Option ResultItem) → slice_get (sequential r limits) k ≡ found →
          option_and_then (item_by mark) found ≡ None → length (sequential r limits) ≤ k
      at None is none = none_at (sequential r limits) k is
      at (Some x) is none = absurd (by (ends_by mark x) refl none)
        where
          by : (b : Bool) → ends_by mark x ≡ b → then_some b x ≡ None → ⊥
          by true ends none = cc
          by false ends none =
              let past : mark < end_of x = grind (arith, ends) in
              let by_end = bounds.ended k x is in omega (arith, past, by_end, done)

-- what is released is the cut of the result that the ledger was about before
pub same_released : (t u : Ledger) (k : ℕ) → KeepsCounts t u →
    slice_get (released_of u) k ≡ slice_get (cut (mark_of u) (result_in t)) k
same_released t u k keeps =
    λ i. slice_get
    (cut (mark_of u) (sequential (keeps.subject_same i).recording (keeps.subject_same i).limits)) k

-- an item that is given moves the cursor to the number of items at most
pub cursor_within : (old new : Ledger) (lane word k : ℕ) (next : Next) → k ≤ length (result_in old) →
    Answers old new lane word k next → cursor_after k next ≤ length (result_in old)
cursor_within old new lane word k (Item x) l h =
    let a = slice_get_within (result_in old) k x h.1 in omega (arith, a)
cursor_within old new lane word k (Withheld a b) l h = l
cursor_within old new lane word k End l h = l
cursor_within old new lane word k OutOfMemory l h = l
cursor_within old new lane word k (Busy a) l h = absurd h
cursor_within old new lane word k Halted l h = absurd h

pub settled : (next : Next) → ((a b : ℕ) → next ≡ Withheld a b → ⊥) → ((a : ℕ) → next ≡ Busy a → ⊥) →
    IsSettled next
settled (Item x) p q = tt
settled (Withheld a b) p q = p a b refl
settled End p q = tt
settled OutOfMemory p q = tt
settled (Busy a) p q = q a refl
settled Halted p q = tt

-- ---- several items

-- none is next to nothing
pub none_next : (all : List ResultItem) (k : ℕ) → AreNext all k []
none_next all k i x e = absurd (let bad : ⊥ = cc in bad)

-- one item more
pub one_more_next : (all items : List ResultItem) (k : ℕ) (x : ResultItem) → AreNext all k items →
    slice_get all (k + length items) ≡ Some x → AreNext all k (items ++ x ∷ [])
one_more_next all items k x next here i y e = at (cases_lt i (length items))
  where
    at : (i < length items) ⊎ (length items ≤ i) → slice_get all (k + i) ≡ Some y
    at (inl below) = next i y (sym (get_left items (x ∷ []) i below) ∙ e)
    at (inr beyond) =
        let within = slice_get_within (items ++ x ∷ []) i y e in
        let long = length-append items (x ∷ []) in
        let same : i ≡ length items = omega (arith, beyond, within, long) in
        let last : Some y ≡ Some x =
        sym e ∙ (ap (slice_get (items ++ x ∷ [])) same ∙ get_last items x) in
        ap (λ j. slice_get all (k + j)) same ∙ (here ∙ sym last)

-- released items that are next are next in the result
pub next_in_result : (u : Ledger) (k : ℕ) (items : List ResultItem) → AreNext (released_of u) k items →
    AreNext (result_in u) k items
next_in_result u k items next i x e =
    given_item (view_of u).recording (view_of u).limits (mark_of u) (k + i) x (next i x e)

-- items that are next end within all
pub next_within : (all items : List ResultItem) (k : ℕ) → k ≤ length all → AreNext all k items →
    k + length items ≤ length all
next_within all [] k l next = omega (arith, l)
next_within all (x ∷ rest) k l next =
    let n = length rest in
    let inside : n < length (x ∷ rest) = omega arith in
    let last = get_or (x ∷ rest) n x in
    let there = next n last (slice_get-get_or (x ∷ rest) n x inside) in
    let within = slice_get_within all (k + n) last there in omega (arith, within)
