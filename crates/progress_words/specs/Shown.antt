-- What a table shows that meets the rule of the words: a law.
use Rattle.std.specs.Prelude.{◌≡◌, ◌≢◌, ℕ, ◌<◌, ◌≤◌, ◌↔◌, slice_index, Option, Some, None, false}
use mathlib.Core.Option.{some}
use lib.ListN.{get_elem?}
use Rattle.atomic_table.specs.Table.{State}
use Rattle.progress_words.specs.declared.pass_view.PassView.{PassView}
use Rattle.progress_words.specs.Rule.{MeetsRule}
use Rattle.progress_words.specs.Seat.{EachPass, EachLane, EachReader, number_of, word_of, turn_word, stop_word}

module _ {V N : Type 0} (n : ℕ) (reach : V → ℕ → ℕ) (name : V → N) (s : State (Option V) (PassView V N)) where
  -- the value, at home or as the one holder took it, and what the words and the passes show of it; the turn
  -- word is 0 exactly where no pass holds, and the stop word exactly where no reader wrote it
  pub record Shows : Type 0 where
    pub value : V
    pub names : EachPass s.views (λ _ v. v.name ≡ name value)
    pub words : (lane : ℕ) → lane < n → word_of s lane ≤ reach value lane
    pub raised : EachLane s.views (λ _ p. (p.word ≡ word_of s p.lane) × (p.word ≤ p.reach_given))
    pub reads : EachReader s.views (λ _ p. (lane : ℕ) → lane < n
        → slice_index p.words_read lane ≤ word_of s lane)
    pub at_home : turn_word n s ≡ 0 → get_elem? s.homes 0 ≡ some (some (Some value))
    pub out : EachPass s.views (λ _ v. (u : V) → v.held_value ≡ Some u → u ≡ value)
    pub turn : EachPass s.views (λ _ v. (u : V) → v.held_value ≡ Some u
        → turn_word n s ≡ number_of n v.role)
    pub free : turn_word n s ≡ 0 ↔ EachPass s.views (λ _ v. v.held_value ≡ None)
    pub one : EachPass s.views (λ seat v. (u : V) → v.held_value ≡ Some u
        → EachPass s.views (λ other w. other ≢ seat → w.held_value ≡ None))
    pub bit : stop_word n s ≤ 1
    pub stop : stop_word n s ≡ 0 ↔ EachReader s.views (λ _ p. p.wrote_stop ≡ false)

-- whatever the number of lanes and the value at opening, a table that meets the rule shows this
abbrev pub ShowsWords : {V N : Type 0} → (V → ℕ → ℕ) → (V → N) → Type 0
ShowsWords {V} {N} reach name = (n : ℕ) (opening : V) (s : State (Option V) (PassView V N))
    → MeetsRule n reach name opening s → Shows n reach name s
