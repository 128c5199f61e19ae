-- What each read answers.
use Rattle.std.proofs.Common.{◌≡◌, ℕ, zero, ◌+◌, ◌-◌, ◌<◌, ◌≤◌, ◌⊎◌, inl, inr, max, Bool, true, false, cond, eqb, nat_le, List, [], ◌∷◌, length, get_or, slice_get, Option, Some, None, option_and_then, arith, refl, sym, ap, ◌∙◌, subst}
use Rattle.std.specs.Bool.{then_some}
use Rattle.std.specs.Option.{option_map_or}
use Rattle.std.proofs.lemmas.Bool.{cases_lt, eqb-true, eqb-false}
use Rattle.chain_core.specs.declared.answer.Answer.{Answer}
use Rattle.chain_core.specs.declared.answer.Answer.TheVariants as answer
use Rattle.chain_core.specs.Core.{Measured, Core, Numbers, View, keys_of, least, least_lane, mark_after, raised, reach_of, read_answer, released, unreleased}
use Rattle.chain_core.specs.SoundCore.{IsMeasured, IsReached, IsSound, ReadsAreRight, ReadsRightly}
use Rattle.chain_core.proofs.ChangedLaws.{within_stands}
use Rattle.chain_core.proofs.CutLaws.{cut_item, ends_by, item_by, released_stands}
use Rattle.chain_core.proofs.LeastLaws.{least_at}
use Rattle.chain_core.proofs.SoundLaws.{cores_are_sound}
use Rattle.pq_items.specs.declared.item.Item.{Item}
use Rattle.pq_items.specs.ItemTable.{end_of}
use Rattle.pq_sequence.specs.SequentialResult.{end_at}

reach_low : (m : Measured) (lane k : ℕ) → IsMeasured m → reach_of m lane k ≤ m.samples
reach_low m lane k h = at (slice_get (keys_of m lane) k) refl
  where
    at : (key : Option ℕ) → slice_get (keys_of m lane) k ≡ key →
        option_map_or (λ a. a - 1) key m.samples ≤ m.samples
    at (Some a) is = let low = h.within lane k a is in omega (arith, low)
    at None is = omega arith

least_low : (words : List ℕ) (n : ℕ) → ((k : ℕ) → get_or words k 0 ≤ n) → least words ≤ n
least_low [] n h = omega arith
least_low (w ∷ words) n h =
    let low = least_at (w ∷ words) 0 (omega arith) in let first = h 0 in omega (arith, low, first)

-- the least word that a session read is at most the number of samples
word_low : (m : Measured) (n : Numbers) (sessions session : ℕ) (v : View) → IsMeasured m →
    IsSound m n sessions →
    slice_get n.views session ≡ Some v → least v.words ≤ m.samples
word_low m n sessions session v h s is =
    least_low v.words m.samples (λ lane.
    let read = s.read session lane v is in
    let word = s.words lane in
    let low = reach_low m lane (get_or n.counts lane 0) h in omega (arith, read, word, low))

not_by : (a w : ℕ) → nat_le a w ≡ false → w < a
not_by a w fails = grind (arith, fails)

is_by : (a w : ℕ) → a ≤ w → nat_le a w ≡ true
is_by a w le = grind (arith, le)

-- where nothing is released, the item at the cursor ends after the mark
unreleased_end : (mark : ℕ) (found : Option Item) (n : ℕ) → option_and_then (item_by mark) found ≡ None →
    (found ≡ None) ⊎ (mark < option_map_or end_of found n)
unreleased_end mark None n is = inl refl
unreleased_end mark (Some x) n is = inr (not_by (end_of x) mark (at (ends_by mark x) is))
  where
    at : (b : Bool) → then_some b x ≡ None → b ≡ false
    at true is = absurd (let bad : ⊥ = cc in bad)
    at false is = refl

before_end : (m : Measured) (u mark : ℕ) (found : Option Item) → u < m.samples → u ≤ mark →
    option_and_then (item_by mark) found ≡ None → u < option_map_or end_of found m.samples
before_end m u mark None less low is = less
before_end m u mark (Some x) less low is =
    elim (unreleased_end mark (Some x) m.samples is) [
      | inl none ↦ absurd (let bad : ⊥ = cc in bad)
      | inr after ↦ omega (arith, after)
    ]

not_item : (b : Bool) (lane word : ℕ) (x : Item) →
    cond b answer.End (answer.Withheld lane word) ≡ answer.Item x → ⊥
not_item true lane word x is = cc
not_item false lane word x is = cc

given_item : (m : Measured) (mark : ℕ) (v : View) (found : Option Item) (x : Item) →
    option_and_then (item_by mark) (slice_get m.items v.cursor) ≡ found →
    option_map_or answer.Item found (unreleased m v.words) ≡ answer.Item x →
    slice_get m.items v.cursor ≡ Some x
given_item m mark v None x was is = absurd (not_item (eqb (least v.words) m.samples) (least_lane v.words)
    (least v.words) x is)
given_item m mark v (Some y) x was is =
    let same : y ≡ x = cc in released_stands (slice_get m.items v.cursor) mark x (was ∙ ap (λ z. Some z) same)

-- a withheld answer
abbrev pub Holds : Measured → View → ℕ → ℕ → Type 0
Holds m v lane word =
    (word ≡ least v.words) × (lane ≡ least_lane v.words) × (word < end_at m.items m.samples v.cursor)

withheld_at : (m : Measured) (mark : ℕ) (v : View) (b : Bool) (lane word : ℕ) →
    least v.words ≤ m.samples → least v.words ≤ mark →
    option_and_then (item_by mark) (slice_get m.items v.cursor) ≡ None → eqb (least v.words) m.samples ≡ b →
    cond b answer.End (answer.Withheld (least_lane v.words) (least v.words)) ≡ answer.Withheld lane word →
    Holds m v lane word
withheld_at m mark v true lane word within low none is_end is = absurd (let bad : ⊥ = cc in bad)
withheld_at m mark v false lane word within low none is_end is =
    let same_word : word ≡ least v.words = cc in
    let same_lane : lane ≡ least_lane v.words = cc in
    let other = eqb-false (least v.words) m.samples is_end in
    let less : least v.words < m.samples = elim (cases_lt (least v.words) m.samples) [
      | inl less ↦ less
      | inr more ↦ absurd (other (omega arith))
    ] in (
      same_word,
      same_lane,
      subst (λ k. k < end_at m.items m.samples v.cursor) (sym same_word)
          (before_end m (least v.words) mark (slice_get m.items v.cursor) less low none),
    )

withheld_item : (m : Measured) (mark : ℕ) (v : View) (found : Option Item) (lane word : ℕ) →
    least v.words ≤ m.samples → least v.words ≤ mark →
    option_and_then (item_by mark) (slice_get m.items v.cursor) ≡ found →
    option_map_or answer.Item found (unreleased m v.words) ≡ answer.Withheld lane word → Holds m v lane word
withheld_item m mark v None lane word within low was is =
    withheld_at m mark v (eqb (least v.words) m.samples) lane word within low was refl is
withheld_item m mark v (Some y) lane word within low was is = absurd (let bad : ⊥ = cc in bad)

-- the end
past_end : (m : Measured) (mark : ℕ) (v : View) → IsMeasured m → v.cursor ≤ length m.items →
    m.samples ≤ mark →
    option_and_then (item_by mark) (slice_get m.items v.cursor) ≡ None → v.cursor ≡ length m.items
past_end m mark v h low reaches none =
    elim (cases_lt v.cursor (length m.items)) [
      | inl less ↦ absurd (
          let there = within_stands m.items v.cursor less in
          let ends = h.ended v.cursor there.0 there.1 in
          let by : ends_by mark there.0 ≡ true = is_by (end_of there.0) mark (omega (arith, ends)) in
          let found : option_and_then (item_by mark) (slice_get m.items v.cursor) ≡ Some there.0 =
          ap (option_and_then (item_by mark)) there.1 ∙ ap (λ b. then_some b there.0) by in
          let clash : None ≡ Some there.0 = sym none ∙ found in let bad : ⊥ = cc in bad)
      | inr more ↦ omega arith
    ]

abbrev pub Ends : Measured → View → Type 0
Ends m v = (v.cursor ≡ length m.items) × (least v.words ≡ m.samples)

ended_at : (m : Measured) (mark : ℕ) (v : View) (b : Bool) → IsMeasured m → v.cursor ≤ length m.items →
    least v.words ≤ mark →
    option_and_then (item_by mark) (slice_get m.items v.cursor) ≡ None → eqb (least v.words) m.samples ≡ b →
    cond b answer.End (answer.Withheld (least_lane v.words) (least v.words)) ≡ answer.End → Ends m v
ended_at m mark v true h low reaches none is_end is =
    let same = eqb-true (least v.words) m.samples is_end in
    (past_end m mark v h low (subst (λ k. k ≤ mark) same reaches) none, same)
ended_at m mark v false h low reaches none is_end is = absurd (let bad : ⊥ = cc in bad)

ended_item : (m : Measured) (mark : ℕ) (v : View) (found : Option Item) → IsMeasured m →
    v.cursor ≤ length m.items → least v.words ≤ mark →
    option_and_then (item_by mark) (slice_get m.items v.cursor) ≡ found →
    option_map_or answer.Item found (unreleased m v.words) ≡ answer.End → Ends m v
ended_item m mark v None h low reaches was is = ended_at m mark v (eqb
    (least v.words) m.samples) h low reaches was refl is
ended_item m mark v (Some y) h low reaches was is = absurd (let bad : ⊥ = cc in bad)

pub reads_are_right : ReadsAreRight
reads_are_right m c session v h reached is =
    let s = cores_are_sound m c h reached in
    let mark = mark_after c.numbers.mark v.words in
    let was = sym (cut_item mark m.items v.cursor h.in_order) in
    let found = released m mark v.cursor in
    let within = word_low m c.numbers (length c.phases.sessions) session v h s is in
    let low : least v.words ≤ mark = omega arith in
    record {
      given = λ x got. given_item m mark v found x was got;
      withheld = λ lane word got. withheld_item m mark v found lane word within low was got;
      ended = λ got. ended_item m mark v found h (s.cursors session v is) low was got;
    }
