-- What contracts see of a session, and what each of its calls tells.
use Rattle.std.specs.Prelude.{◌≡◌, ◌≢◌, ℕ, ◌+◌, ◌<◌, ◌≤◌, List, length, slice_index, slice_get, Some, true, false}
use Rattle.interval_ledger.specs.declared.ledger.Ledger.{Ledger}
use Rattle.interval_ledger.specs.declared.subject.Subject.{Subject}
use Rattle.interval_ledger.specs.Ledger.{KeepsCounts}
use Rattle.pq_base.specs.Recorded.{sample_count}
use Rattle.pq_items.specs.declared.item.Item.{Item as ResultItem}
use Rattle.pq_sequence.specs.SequentialResult.{end_at, sequential}
use Rattle.progress_words.specs.declared.pass_view.PassView.{PassView}
use Rattle.progress_words.specs.declared.pass_view.ReaderView.{ReaderView}
use Rattle.progress_words.specs.declared.pass_view.Role.TheVariants.{Reads}
use Rattle.progress_words.specs.declared.answer.Take.TheVariants as take
use Rattle.progress_words.specs.declared.shared.Shared.{Ghosts}
use Rattle.progress_words.specs.PassView.{after_give, after_split, after_stop_load, after_try, reader_part, split_view}
use Rattle.progress_words.specs.Words.{IsReaderOf, read_view, reader_of}
use Rattle.query_session.specs.declared.answer.Grab.{Grab}
use Rattle.query_session.specs.declared.answer.Grab.TheVariants as grab
use Rattle.query_session.specs.declared.answer.Look.{Look}
use Rattle.query_session.specs.declared.answer.Look.TheVariants as look
use Rattle.query_session.specs.declared.answer.Next.{Next}
use Rattle.query_session.specs.declared.answer.Next.TheVariants as next
use Rattle.query_session.specs.declared.chain.ChainOf.{ChainOf}
use Rattle.query_session.specs.declared.session.SessionOf.{SessionOf}
use Rattle.query_session.specs.declared.stage.Stage.TheVariants as stage
use Rattle.query_session.specs.Least.{IsLeast}
use Rattle.query_session.specs.Reading.{Answers, AreNext, cursor_after}

-- ---- what a call does to what a pass knows

-- of the first n lanes each word was loaded once: the number of its loads rises by one, and no word is below
-- what was read before; nothing else of what a reader knows is different
pub record LoadedOnce (n : ℕ) (old new : ReaderView) : Type 0 where
  pub words : length new.words_read ≡ length old.words_read
  pub counts : length new.loads ≡ length old.loads
  pub made : new.lanes_made ≡ old.lanes_made
  pub splits : new.splits ≡ old.splits
  pub wrote : new.wrote_stop ≡ old.wrote_stop
  pub loads : (k : ℕ) → k < n → slice_index new.loads k ≡ slice_index old.loads k + 1
  pub rises : (k : ℕ) → k < n → slice_index old.words_read k ≤ slice_index new.words_read k
  pub later : (k : ℕ) → n ≤ k → (slice_index new.loads k ≡ slice_index old.loads k)
      × (slice_index new.words_read k ≡ slice_index old.words_read k)

abbrev pub View : Type 0
View = PassView Ledger Subject

-- what a reader has read
abbrev pub reads_of : View → ReaderView
reads_of v = reader_part v.role

-- every lane's word was loaded once
abbrev pub LoadedAll : View → View → Type 0
LoadedAll old new = LoadedOnce (length (reads_of old).words_read) (reads_of old) (reads_of new)

-- what a pass knows, with this for what it has read
abbrev pub with_reads : ReaderView → View → View
with_reads p v = record v { role = Reads p }

-- each of these words is that
abbrev pub AreWords : ReaderView → ℕ → Type 0
AreWords p word = (k : ℕ) → k < length p.words_read → slice_index p.words_read k ≡ word

-- each of these words is at least that
abbrev pub AreFrom : ReaderView → ℕ → Type 0
AreFrom p word = (k : ℕ) → k < length p.words_read → word ≤ slice_index p.words_read k

-- this lane is the first that has the least of the words read
abbrev pub IsLeastRead : ReaderView → ℕ → ℕ → Type 0
IsLeastRead p lane word = IsLeast (length p.words_read) p.words_read lane word

-- one call loaded 0 from the stop word and each lane's word once, and tried the turn once, which had this
-- word
pub record TriedTurn (word : ℕ) (old new : View) : Type 0 where
  pub name : new.name ≡ old.name
  pub loaded : LoadedAll old new
  pub running : (reads_of old).wrote_stop ≡ false
  pub stop_loads : new.stop_loads ≡ old.stop_loads + 1
  pub stop_found : new.stop_found ≡ 0
  pub tries : new.tries ≡ old.tries + 1
  pub turn_found : new.turn_found ≡ word

-- one call loaded 1 from the stop word and did nothing else; the session was split before or has written it
abbrev pub FoundStop : View → View → Type 0
FoundStop old new =
    (new ≡ after_stop_load 1 old)
    × ((reads_of old).splits ≡ 0 → (reads_of old).wrote_stop ≡ true)

-- an item, the end, or want of memory
abbrev pub IsServed : Next → Type 0
IsServed (next.Item x) = Unit {0}
IsServed next.End = Unit {0}
IsServed next.OutOfMemory = Unit {0}
IsServed _ = ⊥

-- an answer that is not to be asked for again
abbrev pub IsSettled : Next → Type 0
IsSettled (next.Withheld lane word) = ⊥
IsSettled (next.Busy word) = ⊥
IsSettled _ = Unit {0}

-- the result that a pass knows the name of
abbrev pub result_by : View → List ResultItem
result_by v = sequential v.name.recording v.name.limits

-- ---- the calls

module _ {g : Ghosts Ledger Subject} where
  -- what a session knows
  abbrev pub view_of : SessionOf Ledger g → View
  view_of s = read_view s.pass

  -- the session belongs to this chain
  abbrev pub IsSessionOf : ChainOf Ledger Subject → SessionOf Ledger g → Type 0
  IsSessionOf chain s = IsReaderOf chain.words s.pass

  -- it is idle; it has looked; it holds the ledger
  abbrev pub IsIdle : SessionOf Ledger g → Type 0
  IsIdle s = s.stage ≡ stage.Idle

  abbrev pub IsLooked : SessionOf Ledger g → Type 0
  IsLooked s = (lane : ℕ) × (word : ℕ) × (s.stage ≡ stage.Looked lane word)

  abbrev pub IsHolding : SessionOf Ledger g → Type 0
  IsHolding s = (lane : ℕ) × (word : ℕ) × (u : Ledger) × (s.stage ≡ stage.Holding lane word u)

  -- the number of samples of its recording; the result; and the end of its item at the cursor
  abbrev pub samples_of : SessionOf Ledger g → ℕ
  samples_of s = sample_count (view_of s).name.recording

  abbrev pub result_of : SessionOf Ledger g → List ResultItem
  result_of s = sequential (view_of s).name.recording (view_of s).name.limits

  abbrev pub end_of : SessionOf Ledger g → ℕ
  end_of s = end_at (result_of s) (samples_of s) s.cursor

  -- a look loads the stop word and, unless it found 1, each lane's word
  abbrev pub Looks : SessionOf Ledger g → SessionOf Ledger g → Look → Type 0
  Looks old new look.Halted =
      FoundStop (view_of old) (view_of new) × (new.cursor ≡ old.cursor) × IsIdle new
  Looks old new (look.Seen lane word) =
      (view_of new ≡ with_reads (reader_of new.pass) (after_stop_load 0 (view_of old)))
      × LoadedAll (view_of old) (view_of new)
      × ((reader_of old.pass).wrote_stop ≡ false)
      × IsLeastRead (reader_of new.pass) lane word
      × (new.cursor ≡ old.cursor) × (new.stage ≡ stage.Looked lane word)

  -- a grab tries the turn once
  abbrev pub Grabs : SessionOf Ledger g → SessionOf Ledger g → Grab → Type 0
  Grabs old new grab.Held =
      (u : Ledger) × (lane : ℕ) × (word : ℕ) × (old.stage ≡ stage.Looked lane word)
      × (new.stage ≡ stage.Holding lane word u)
      × (view_of new ≡ after_try (take.Held u) (view_of old)) × (new.cursor ≡ old.cursor)
  Grabs old new (grab.Busy word) =
      (word ≢ 0) × (view_of new ≡ after_try (take.Busy word) (view_of old))
      × (new.cursor ≡ old.cursor) × IsIdle new

  -- a read gives the ledger back that the session held, advanced to the word seen, and answers by it
  pub record ReadsOnce (old new : SessionOf Ledger g) (result : Next) : Type 0 where
    pub lane : ℕ
    pub word : ℕ
    pub held : Ledger
    pub left : Ledger
    pub was : old.stage ≡ stage.Holding lane word held
    pub keeps : KeepsCounts held left
    pub answers : Answers held left lane word old.cursor result
    pub view : view_of new ≡ after_give left (view_of old)
    pub idle : IsIdle new
    pub cursor : new.cursor ≡ cursor_after old.cursor result
    pub ended : result ≡ next.End → AreWords (reader_of new.pass) (samples_of old)

  -- what a session that knew this is given next, where k items were given before: the item at k; withheld, by
  -- the least word of this call's loads, which lies before that item's end; the end, where each load of this
  -- call gave that of the end, and every item was given; busy, with the word that this call's try found;
  -- halted, as this call's load found
  abbrev pub AnswersAt : View → ℕ → SessionOf Ledger g → Next → Type 0
  AnswersAt v k new (next.Item x) =
      TriedTurn 0 v (view_of new) × (slice_get (result_by v) k ≡ Some x)
  AnswersAt v k new (next.Withheld lane word) =
      TriedTurn 0 v (view_of new) × IsLeastRead (reader_of new.pass) lane word
      × (word < end_at (result_by v) (sample_count v.name.recording) k)
  AnswersAt v k new next.End =
      TriedTurn 0 v (view_of new) × AreWords (reader_of new.pass) (sample_count v.name.recording)
      × (k ≡ length (result_by v))
  AnswersAt v k new next.OutOfMemory = TriedTurn 0 v (view_of new)
  AnswersAt v k new (next.Busy word) = TriedTurn word v (view_of new) × (word ≢ 0)
  AnswersAt v k new next.Halted = FoundStop v (view_of new)

  -- the same at the cursor
  abbrev pub NextAnswers : SessionOf Ledger g → SessionOf Ledger g → Next → Type 0
  NextAnswers old new result = AnswersAt (view_of old) old.cursor new result

  -- items that were released before are taken at once, and the cursor is behind them; nothing else is
  -- different
  pub record TakesReleased (old new : SessionOf Ledger g) (items : List ResultItem) : Type 0 where
    pub pass : new.pass ≡ old.pass
    pub stage : new.stage ≡ old.stage
    pub next : AreNext (result_of old) old.cursor items
    pub cursor : new.cursor ≡ old.cursor + length items

  -- several at once: items, and then the answer at the cursor behind them
  pub record GivesSeveral (old new : SessionOf Ledger g) (items : List ResultItem) (result : Next) : Type 0
    where
      pub next : AreNext (result_of old) old.cursor items
      pub answers : AnswersAt (view_of old) (old.cursor + length items) new result
      pub cursor : new.cursor ≡ cursor_after (old.cursor + length items) result

  -- where this call loaded 0 from the stop word, took the turn, and loaded words that all are at least the
  -- end of the item at the cursor, the session is served
  abbrev pub IsComplete : SessionOf Ledger g → SessionOf Ledger g → Next → Type 0
  IsComplete old new result =
      (view_of new).stop_found ≡ 0 → (view_of new).turn_found ≡ 0
      → AreFrom (reader_of new.pass) (end_of old) → IsServed result

  -- a session that has only read more, not of the result
  pub record GoesOn (old new : SessionOf Ledger g) : Type 0 where
    pub name : (view_of new).name ≡ (view_of old).name
    pub cursor : new.cursor ≡ old.cursor
    pub splits : (reader_of new.pass).splits ≡ (reader_of old.pass).splits
    pub wrote : (reader_of new.pass).wrote_stop ≡ (reader_of old.pass).wrote_stop

  -- after some calls that were withheld or busy, the last one answered this
  pub record WaitAnswers (old new : SessionOf Ledger g) (result : Next) : Type 0 where
    pub last : SessionOf Ledger g
    pub before : GoesOn old last
    pub answers : NextAnswers last new result
    pub settled : IsSettled result

  -- one load of each lane's word gave these
  abbrev pub LoadsWords : SessionOf Ledger g → SessionOf Ledger g → List ℕ → Type 0
  LoadsWords old new words =
      (view_of new ≡ with_reads (reader_of new.pass) (view_of old))
      × LoadedAll (view_of old) (view_of new) × (words ≡ (reader_of new.pass).words_read)

  -- a session that goes on from the same cursor and has read the same words was split off
  abbrev pub SplitsOff : SessionOf Ledger g → SessionOf Ledger g → SessionOf Ledger g → Type 0
  SplitsOff old new split =
      (view_of new ≡ after_split (view_of old)) × (new.cursor ≡ old.cursor)
      × (view_of split ≡ split_view (view_of old)) × (split.cursor ≡ old.cursor) × IsIdle split
