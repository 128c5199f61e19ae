-- The subject: what a read of a ledger answers.
use Rattle.std.specs.Prelude.{◌≡◌, ℕ, ◌+◌, ◌<◌, ◌≤◌, max, List, length, slice_get, Some}
use Rattle.interval_ledger.specs.declared.ledger.Ledger.{Ledger}
use Rattle.interval_ledger.specs.Ledger.{mark_of, view_of}
use Rattle.pq_base.specs.Recorded.{sample_count}
use Rattle.pq_items.specs.declared.item.Item.{Item as ResultItem}
use Rattle.pq_sequence.specs.SequentialResult.{end_at, sequential}
use Rattle.query_session.specs.declared.answer.Next.{Next}
use Rattle.query_session.specs.declared.answer.Next.TheVariants.{Item, Withheld, End, OutOfMemory}

-- the result that a ledger is about
abbrev pub result_in : Ledger → List ResultItem
result_in u = sequential (view_of u).recording (view_of u).limits

-- the number of samples of its recording
abbrev pub samples_in : Ledger → ℕ
samples_in u = sample_count (view_of u).recording

-- the mark moved to the word, unless it was there
abbrev pub IsAdvanced : Ledger → Ledger → ℕ → Type 0
IsAdvanced old new word = mark_of new ≡ max (mark_of old) word

-- one ledger became the other, where the least word seen was this one, first of this lane, and k items were
-- given before: the item at k; withheld, where the word lies before that item's end; the end, where the word
-- is that of the end and every item was given; or no memory, with the mark as it was
abbrev pub Answers : Ledger → Ledger → ℕ → ℕ → ℕ → Next → Type 0
Answers old new lane word k (Item x) =
    IsAdvanced old new word × (slice_get (result_in old) k ≡ Some x)
Answers old new lane word k (Withheld first least) =
    IsAdvanced old new word × (first ≡ lane) × (least ≡ word)
    × (word < end_at (result_in old) (samples_in old) k)
Answers old new lane word k End =
    IsAdvanced old new word × (samples_in old ≤ word) × (k ≡ length (result_in old))
Answers old new lane word k OutOfMemory = mark_of new ≡ mark_of old
Answers old new lane word k _ = ⊥

-- what an answer does to the cursor
abbrev pub cursor_after : ℕ → Next → ℕ
cursor_after k (Item x) = k + 1
cursor_after k _ = k

-- these items are those of all from an index on, as many as they are
abbrev pub AreNext : List ResultItem → ℕ → List ResultItem → Type 0
AreNext all k items =
    (i : ℕ) (x : ResultItem) → slice_get items i ≡ Some x → slice_get all (k + i) ≡ Some x
