-- The subject: the steps of calls of `advance` on a ledger, one after another, as a law. Profile.
use Rattle.std.specs.Prelude.{◌≡◌, ℕ, ◌+◌, ◌≤◌, List, [], ◌∷◌, length, sum}
use Rattle.interval_ledger.specs.declared.ledger.Ledger.{Ledger}
use Rattle.interval_ledger.specs.Ledger.{TicksAtMost, merged_of, released_of, view_of}

-- one call: the ledger before it and after it, and the steps taken by then
pub record Call : Type 0 where
  pub old : Ledger
  pub new : Ledger
  pub before : ℕ
  pub after : ℕ

-- of a ledger nothing but the counts is another: items are posted
abbrev pub OnlyPosts : Ledger → Ledger → Type 0
OnlyPosts old new = view_of new ≡ record (view_of old) { counts = (view_of new).counts }

-- calls one after another, from a ledger on after so many steps; between two of them items are posted
abbrev pub AreCalls : Ledger → ℕ → List Call → Type 0
AreCalls ledger steps [] = Unit {0}
AreCalls ledger steps (call ∷ later) =
    OnlyPosts ledger call.old × (call.before ≡ steps)
    × TicksAtMost call.before call.after call.old call.new × AreCalls call.new call.after later

-- the ledger and the steps after the last of them
abbrev pub last_ledger : Ledger → List Call → Ledger
last_ledger ledger [] = ledger
last_ledger ledger (call ∷ later) = last_ledger call.new later

abbrev pub last_steps : ℕ → List Call → ℕ
last_steps steps [] = steps
last_steps steps (call ∷ later) = last_steps call.after later

-- how many items of all lanes are posted
abbrev pub posted_items : Ledger → ℕ
posted_items l = sum (view_of l).counts

-- from a ledger of which nothing is merged on, the steps are at most the posted items, the released items and
-- the calls
abbrev pub TicksAreFew : Type 0
TicksAreFew = (opened : Ledger) (calls : List Call) → merged_of opened ≡ 0 → AreCalls opened 0 calls →
    last_steps 0 calls
    ≤ posted_items (last_ledger opened calls) + length (released_of (last_ledger opened calls)) + length calls
