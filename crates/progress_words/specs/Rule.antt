-- The rule of the words. It holds between any two atomic steps, of all passes, of dropped ones too.
-- Of n lanes, word k is that of lane k, word n the turn word, word n + 1 the stop word; slot 0 has the value.
use Rattle.std.specs.Prelude.{◌≡◌, ℕ, ◌+◌, ◌<◌, ◌≤◌, length, slice_index, Option, Some, true}
use mathlib.Core.Option.{some}
use lib.ListN.{get_elem?}
use Rattle.atomic_table.specs.Table.{State}
use Rattle.progress_words.specs.declared.pass_view.PassView.{PassView}
use Rattle.progress_words.specs.Seat.{word_of, turn_word, stop_word, EachPass, EachLane, EachReader, IsSeatOfLane, IsSeatOfHolder, IsStopWritten, Standing}

module _ {V N : Type 0} (n : ℕ) (reach : V → ℕ → ℕ) (name : V → N) (opening : V)
    (s : State (Option V) (PassView V N)) (t : Standing V) where
  -- the table has n + 2 words and one slot, and each reader has an entry for each lane
  pub record HasShape : Type 0 where
    pub words : length s.words ≡ n + 2
    pub slots : length s.homes ≡ 1
    pub reads : EachReader s.views (λ _ p. length p.words_read ≡ n)
    pub loads : EachReader s.views (λ _ p. length p.loads ≡ n)

  -- one name: the value and all passes have that of opening
  pub record HasOneName : Type 0 where
    pub value : name t.value ≡ name opening
    pub passes : EachPass s.views (λ _ v. v.name ≡ name opening)
    pub openings : EachPass s.views (λ _ v. v.opening ≡ opening)

  -- lanes made: each reader knows their number, each has its one pass, whose word is the lane's;
  -- every other lane has word 0 and reaches as at opening
  pub record HasLanes : Type 0 where
    pub most : t.lanes_made ≤ n
    pub counted : EachReader s.views (λ _ p. p.lanes_made ≡ t.lanes_made)
    pub has_pass : (lane : ℕ) → lane < t.lanes_made → IsSeatOfLane s.views (t.seat_of lane) lane
    pub one_pass : EachLane s.views (λ seat p. (p.lane < t.lanes_made) × (t.seat_of p.lane ≡ seat))
    pub words : EachLane s.views (λ _ p. p.word ≡ word_of s p.lane)
    pub zero : (lane : ℕ) → t.lanes_made ≤ lane → lane < n → word_of s lane ≡ 0
    pub same : (lane : ℕ) → t.lanes_made ≤ lane → lane < n → reach t.value lane ≡ reach opening lane

  -- words, reaches and reads: what was last read of a lane is at most its word, and that at most the lane's
  -- reach in the value, which the lane's pass knows as it last gave it back, at first as at opening
  pub record HasReaches : Type 0 where
    pub reads : EachReader s.views (λ _ p. (lane : ℕ) → lane < n
        → slice_index p.words_read lane ≤ word_of s lane)
    pub words : (lane : ℕ) → lane < n → word_of s lane ≤ reach t.value lane
    pub given : EachLane s.views (λ _ p. p.reach_given ≡ reach t.value p.lane)

  -- turn: where a pass holds, the turn word isn't 0, and the pass is the one holder and took the value;
  -- where the turn word isn't 0, the holder holds the value, and the turn word is its number
  pub record HasTurn : Type 0 where
    pub taken : EachPass s.views (λ _ v. (u : V) → v.held_value ≡ Some u → 0 < turn_word n s)
    pub one : EachPass s.views (λ seat v. (u : V) → v.held_value ≡ Some u → seat ≡ t.holder)
    pub same : EachPass s.views (λ _ v. (u : V) → v.held_value ≡ Some u → u ≡ t.value)
    pub holder : 0 < turn_word n s → IsSeatOfHolder s.views n t.holder t.value (turn_word n s)

  -- stop word: it is 0 or 1, is 1 once a pass found 1 or a reader wrote it, and only if some reader wrote it
  pub record HasStop : Type 0 where
    pub bit : stop_word n s ≤ 1
    pub found : EachPass s.views (λ _ v. v.stop_found ≡ 1 → stop_word n s ≡ 1)
    pub wrote : EachReader s.views (λ _ p. p.wrote_stop ≡ true → stop_word n s ≡ 1)
    pub writer : 0 < stop_word n s → IsStopWritten s.views

  -- sole reader: a reader that was never split is the only one
  abbrev pub HasSoleReader : Type 0
  HasSoleReader = EachReader s.views (λ seat p. p.splits ≡ 0 → EachReader s.views (λ other _. other ≡ seat))

  -- value: while the turn is free it is at home; at home or out, all that its type says holds of it
  abbrev pub HasValue : Type 0
  HasValue = turn_word n s ≡ 0 → get_elem? s.homes 0 ≡ some (some (Some t.value))

module _ {V N : Type 0} (n : ℕ) (reach : V → ℕ → ℕ) (name : V → N) (opening : V) where
  -- the rule: the table has its shape, and something stands behind the words for which each part holds
  pub record MeetsRule (s : State (Option V) (PassView V N)) : Type 0 where
    pub standing : Standing V
    pub shape : HasShape n reach name opening s standing
    pub one_name : HasOneName n reach name opening s standing
    pub lanes : HasLanes n reach name opening s standing
    pub reaches : HasReaches n reach name opening s standing
    pub turn : HasTurn n reach name opening s standing
    pub stop : HasStop n reach name opening s standing
    pub sole_reader : HasSoleReader n reach name opening s standing
    pub value : HasValue n reach name opening s standing
