-- Where the lines of a text stand: what a reading finds at a place, and where it goes on.
use Rattle.std.proofs.Common.{◌≡◌, ℕ, zero, suc, ◌+◌, ◌-◌, ◌≤◌, Bool, true, false, cond, Option, Some, None, List, [], ◌∷◌, length, drop, Result, Ok, Err, refl, sym, ap, ◌∙◌, arith}
use Rattle.std.specs.Prelude.{slice_get, IsTrue}
use Rattle.std.specs.Option.{option_map_or}
use Rattle.pq_words.specs.Text.{Text, is_all_blank}
use Rattle.cfg_fields.specs.declared.fault.CfgFault.{CfgFault}
use Rattle.cfg_fields.specs.declared.fault.CfgFault.TheVariants as fault
use Rattle.cfg_fields.specs.Fields.{Ahead, LineRule, line_of, next_line, on_line, fields_line, fields_of, only_blank_lines}
use Rattle.comtrade_cfg.specs.CfgText.{channel_lines}
use Rattle.comtrade_cfg.specs.Grammar.{fields_at}
use Rattle.cfg_fields.proofs.ReadingLaws.{line_read, from_bind, same_ok, goes}

-- these lines, of which the next one has this number
abbrev pub with_lines : ℕ → List Text → Ahead
with_lines number lines = record { number = number; lines = lines }

-- the lines behind the first i, where the next one has this number
abbrev pub numbered : List Text → ℕ → ℕ → Ahead
numbered text number i = with_lines number (drop i text)

-- what lies ahead behind the first i lines
abbrev pub place : List Text → ℕ → Ahead
place text i = numbered text (i + 1) i

-- ---- one line

-- a line that lies ahead stands in the text, and then the others
line_at : (text : List Text) (i : ℕ) (line : Text) (more : List Text) → drop i text ≡ line ∷ more →
    (slice_get text i ≡ Some line) × (more ≡ drop (suc i) text)
line_at [] zero line more e = absurd cc
line_at [] (suc i) line more e = absurd cc
line_at (x ∷ xs) zero line more e = (cc, cc)
line_at (x ∷ xs) (suc i) line more e = line_at xs i line more e

-- a line that stands in the text lies ahead, and then the others
line_ahead : (text : List Text) (i : ℕ) (line : Text) → slice_get text i ≡ Some line → drop i text
    ≡ line ∷ drop (suc i) text
line_ahead [] i line e = absurd cc
line_ahead (x ∷ xs) zero line e = cc
line_ahead (x ∷ xs) (suc i) line e = line_ahead xs i line e

-- the fields of line k are those of what stands at k - 1
fields_from : (text : List Text) (i k : ℕ) (o : Option Text) → k ≡ i + 1 → slice_get text i ≡ o →
    fields_at text k ≡ option_map_or fields_of o []
fields_from text i k o n e =
    let j : k - 1 ≡ i = omega (arith, n) in
    ap (λ j. option_map_or fields_of (slice_get text j) []) j ∙ ap (λ o. option_map_or fields_of o []) e

-- the place behind a line
behind : (text : List Text) (i k : ℕ) → k ≡ i + 1 → numbered text (i + 1 + 1) (suc i) ≡ place text k
behind text i k n =
    let m : i + 1 + 1 ≡ k + 1 = omega (arith, n) in
    let l : suc i ≡ k = omega (arith, n) in
    ap (λ (m : ℕ). numbered text m (suc i)) m ∙ ap (λ (l : ℕ). numbered text (k + 1) l) l

-- what a rule gave for line k, and that the reading goes on behind it
pub line_found : {A : Type 0} (rule : LineRule A) (text : List Text) (i k : ℕ) (start : Ahead) (y : A × Ahead)
    → k ≡ i + 1 → start ≡ place text i → on_line rule start ≡ Ok y
    → (rule k (fields_at text k) ≡ Ok y.0) × (y.1 ≡ place text k)
line_found {A} rule text i k start y n s e =
    let r = line_read rule (place text i) y (ap (on_line rule) (sym s) ∙ e) in
    at (drop i text) refl r.line r.there r.value
  where
    at : (d : List Text) → drop i text ≡ d → (line : Text) → line_of (i + 1) d ≡ Ok (line, y.1) →
        rule (i + 1) (fields_of line) ≡ Ok y.0
        → (rule k (fields_at text k) ≡ Ok y.0) × (y.1 ≡ place text k)
    at [] is line there value = absurd cc
    at (l ∷ ls) is line there value =
        let same = same_ok there in
        let here = line_at text i l ls is in
        let of_line : l ≡ line = ap (λ (p : Text × Ahead). p.0) same in
        let after : with_lines (i + 1 + 1) ls ≡ y.1 = ap (λ (p : Text × Ahead). p.1) same in
        let fields : fields_at text k ≡ fields_of line = fields_from text i k (Some l) n here.0
        ∙ ap fields_of of_line in
        let next : numbered text (i + 1 + 1) (suc i) ≡ y.1 =
        ap (λ (ls : List Text). with_lines (i + 1 + 1) ls) (sym here.1) ∙ after in
        (ap (rule k) fields ∙ ap (λ m. rule m (fields_of line)) n ∙ value, sym next ∙ behind text i k n)

-- what a rule gives for line k is what the reading gives there
pub line_again : {A : Type 0} (rule : LineRule A) (text : List Text) (i k : ℕ) (x : A) → k ≡ i + 1 → rule k []
    ≡ Err (fault.Line k) → rule k (fields_at text k) ≡ Ok x
    → on_line rule (place text i) ≡ Ok (x, place text k)
line_again {A} rule text i k x n none e = at (slice_get text i) refl
  where
    at : (o : Option Text) → slice_get text i ≡ o → on_line rule (place text i) ≡ Ok (x, place text k)
    at None is = absurd (let h : ◌≡◌ {A = Result A CfgFault} (Err (fault.Line k)) (Ok x) = sym none
        ∙ ap (rule k) (sym (fields_from text i k None n is)) ∙ e in cc)
    at (Some line) is =
        let ahead : next_line (place text i) ≡ Ok (line, place text k) =
        ap (line_of (i + 1)) (line_ahead text i line is)
        ∙ ap (λ (a : Ahead). Ok (line, a)) (behind text i k n) in
        let value : rule (i + 1) (fields_of line) ≡ Ok x = ap (λ m. rule m (fields_of line)) (sym n)
        ∙ ap (rule k) (sym (fields_from text i k (Some line) n is)) ∙ e in
        goes (fields_line (place text i)) _
        (record { number = i + 1; fields = fields_of line }, place text k)
        (goes (next_line (place text i)) _ (line, place text k) ahead)
        ∙ goes (rule (i + 1) (fields_of line)) _ x value

-- ---- the lines of channels

-- the rule gives each of these for its line, from behind the first i lines on
abbrev pub Each : {A : Type 0} → (ℕ → LineRule A) → List Text → ℕ → ℕ → List A → Type 0
Each {A} rule text position i xs = (k p l : ℕ) (x : A) → slice_get xs k ≡ Some x → p ≡ position + k → l
    ≡ i + k + 1 → rule p l (fields_at text l) ≡ Ok x

-- what a rule gave for the lines of channels, and where the reading goes on
pub channels_found : {A : Type 0} (rule : ℕ → LineRule A) (text : List Text) (position n i j : ℕ)
    (start : Ahead) (y : List A × Ahead) → j ≡ i + n → start ≡ place text i
    → channel_lines rule position n start ≡ Ok y → Each rule text position i y.0 × (y.1 ≡ place text j)
unfolding channel_lines
channels_found {A} rule text position zero i j start y m s e =
    let same = same_ok e in
    let none : [] ≡ y.0 = ap (λ (z : List A × Ahead). z.0) same in
    let same_j : i ≡ j = omega (arith, m) in (
      λ k p l x there at_p at_l. absurd (let h : slice_get {X = A} [] k ≡ Some x =
          ap (λ xs. slice_get xs k) none ∙ there in cc),
      sym (ap (λ (z : List A × Ahead). z.1) same) ∙ s ∙ ap (place text) same_j,
    )
channels_found {A} rule text position (suc n) i j start y m s e =
    from_bind (on_line (rule position) start) _ y e (λ first first_is e. from_bind
    (channel_lines rule (position + 1) n first.1) _ y e (λ others others_is e.
    let same = same_ok e in
    let all : first.0 ∷ others.0 ≡ y.0 = ap (λ (z : List A × Ahead). z.0) same in
    let one = line_found (rule position) text i (i + 1) start first refl s first_is in
    let more = channels_found rule text (position + 1) n (i + 1) j first.1 others (omega (arith, m)) one.1
    others_is in (
      λ k p l x there at_p at_l. each first.0 others.0 one.0 more.0 k p l x
          (ap (λ xs. slice_get xs k) all ∙ there) at_p at_l,
      sym (ap (λ (z : List A × Ahead). z.1) same) ∙ more.1,
    )))
  where
    each : (x : A) (xs : List A) → rule position (i + 1) (fields_at text (i + 1)) ≡ Ok x →
        Each rule text (position + 1) (i + 1) xs → Each rule text position i (x ∷ xs)
    each x xs first others zero p l y there at_p at_l =
        let same : x ≡ y = cc in
        let same_p : p ≡ position = omega (arith, at_p) in
        let same_l : l ≡ i + 1 = omega (arith, at_l) in
        ap (λ p. rule p l (fields_at text l)) same_p ∙ ap (λ l. rule position l (fields_at text l)) same_l
        ∙ first ∙ ap Ok same
    each x xs first others (suc k) p l y there at_p at_l =
        others k p l y there (omega (arith, at_p)) (omega (arith, at_l))

-- what a rule gives for the lines of channels is what the reading gives there
pub channels_again : {A : Type 0} (rule : ℕ → LineRule A) (text : List Text) (position i j : ℕ) (xs : List A)
    → ((p l : ℕ) → rule p l [] ≡ Err (fault.Line l)) → j ≡ i + length xs
    → Each rule text position i xs → channel_lines rule position (length xs) (place text i)
    ≡ Ok (xs, place text j)
unfolding channel_lines
channels_again {A} rule text position i j [] none m each =
    let same_j : i ≡ j = omega (arith, m) in
    ap (λ (j : ℕ). Ok ([], place text j)) same_j
channels_again {A} rule text position i j (x ∷ xs) none m each =
    let first = line_again (rule position) text i (i + 1) x refl (none position (i + 1))
    (each zero position (i + 1) x refl (omega arith) (omega arith)) in
    let others = channels_again rule text (position + 1) (i + 1) j xs none (omega (arith, m))
    (λ k p l y there at_p at_l. each (suc k) p l y there (omega (arith, at_p)) (omega (arith, at_l))) in
    goes (on_line (rule position) (place text i)) _ (x, place text (i + 1)) first
    ∙ goes (channel_lines rule (position + 1) (length xs) (place text (i + 1))) _ (xs, place text j)
    others

-- ---- the lines after the last

-- what stands behind the first i lines
behind_get : (text : List Text) (i j k : ℕ) → k ≡ i + j → slice_get (drop i text) j ≡ slice_get text k
behind_get [] zero j k n = refl
behind_get [] (suc i) j k n = refl
behind_get (x ∷ xs) zero j k n = let same : j ≡ k = omega (arith, n) in ap (slice_get (x ∷ xs)) same
behind_get (x ∷ xs) (suc i) j zero n = absurd (omega (arith, n))
behind_get (x ∷ xs) (suc i) j (suc k) n = behind_get xs i j k (omega (arith, n))

-- each of these lines holds nothing but blanks
abbrev AreBlank : List Text → Type 0
AreBlank lines = (k : ℕ) (line : Text) → slice_get lines k ≡ Some line → IsTrue (is_all_blank line)

-- the lines that were read over are blank
blank_in : (number : ℕ) (lines : List Text) (u : Unit {0}) → only_blank_lines number lines ≡ Ok u →
    AreBlank lines
blank_in number [] u e = λ k line there. absurd cc
blank_in number (l ∷ ls) u e = at (is_all_blank l) refl e (λ e. blank_in (number + 1) ls u e)
  where
    at : (b : Bool) → is_all_blank l ≡ b → cond b (only_blank_lines (number + 1) ls) (Err (fault.Line number))
        ≡ Ok u → (only_blank_lines (number + 1) ls ≡ Ok u → AreBlank ls) → AreBlank (l ∷ ls)
    at true is e others zero line there = let same : l ≡ line = cc in ap is_all_blank (sym same) ∙ is
    at true is e others (suc k) line there = others e k line there
    at false is e others k line there = absurd cc

-- the lines behind the first i were found blank
pub blank_found : (text : List Text) (i : ℕ) (a : Ahead) (u : Unit {0}) → a ≡ place text i →
    only_blank_lines a.number a.lines ≡ Ok u
    → (k : ℕ) (line : Text) → i ≤ k → slice_get text k ≡ Some line → IsTrue (is_all_blank line)
blank_found text i a u s e k line le there =
    let read : only_blank_lines (i + 1) (drop i text) ≡ Ok u =
    ap (λ (a : Ahead). only_blank_lines a.number a.lines) (sym s) ∙ e in
    blank_in (i + 1) (drop i text) u read (k - i) line
    (behind_get text i (k - i) k (omega (arith, le)) ∙ there)

-- blank lines are read over
blank_out : (number : ℕ) (lines : List Text) → AreBlank lines → only_blank_lines number lines ≡ Ok tt
blank_out number [] h = refl
blank_out number (l ∷ ls) h =
    ap (λ b. cond b (only_blank_lines (number + 1) ls) (Err (fault.Line number))) (h zero l refl)
    ∙ blank_out (number + 1) ls (λ k line there. h (suc k) line there)

-- blank lines behind the first i are read
pub blank_again : (text : List Text) (i : ℕ) → ((k : ℕ) (line : Text) → i ≤ k → slice_get text k ≡ Some line →
    IsTrue (is_all_blank line)) → only_blank_lines (i + 1) (drop i text) ≡ Ok tt
blank_again text i h = blank_out (i + 1) (drop i text)
    (λ k line there. h (i + k) line (omega arith) (sym (behind_get text i k (i + k) refl) ∙ there))
