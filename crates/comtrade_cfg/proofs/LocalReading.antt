-- Readings that take lines from the front: a value stands whatever follows, and a fault depends on the lines
-- up to its own alone.
use Rattle.std.proofs.Common.{◌≡◌, ℕ, zero, suc, ◌+◌, ◌-◌, ◌<◌, ◌≤◌, ◌⊎◌, inl, inr, Bool, true, false, cond, List, [], ◌∷◌, ◌++◌, length, take, append_assoc, length-append, Result, Ok, Err, refl, sym, ap, ◌∙◌, arith}
use Rattle.std.proofs.lemmas.Bool.{cases_lt}
use Rattle.pq_words.specs.Text.{Text, is_all_blank}
use Rattle.pq_words.specs.FirstFault.{◌>>=◌}
use Rattle.cfg_fields.specs.declared.fault.CfgFault.{CfgFault}
use Rattle.cfg_fields.specs.declared.fault.CfgFault.TheVariants as fault
use Rattle.cfg_fields.specs.Fields.{Ahead, LineRule, Reading, fields_of, line_of_fault, on_line, only_blank_lines}
use Rattle.cfg_fields.proofs.FaultLines.{IsAtLine}
use Rattle.cfg_fields.proofs.ReadingLaws.{same_ok}
use Rattle.comtrade_cfg.proofs.GrammarPlaces.{with_lines}

-- ---- lists

-- what agrees with a front and some lines behind it
take_front : (front rest more : List Text) (k : ℕ) → take (length front + k) more ≡ front ++ take k rest →
    (behind : List Text) × (more ≡ front ++ behind) × (take k behind ≡ take k rest)
take_front [] rest more k e = (more, refl, ap (λ n. take n more) (omega arith) ∙ e)
take_front (x ∷ front) rest [] k e =
    absurd (let n : length (x ∷ front) + k ≡ suc (length front + k) = omega arith in
    let none : ◌≡◌ {A = List Text} [] (x ∷ (front ++ take k rest)) = sym (ap (λ
    (m : ℕ). take {A = Text} m []) n) ∙ e
    in cc)
take_front (x ∷ front) rest (y ∷ more) k e =
    let n : length (x ∷ front) + k ≡ suc (length front + k) = omega arith in
    let cut : y ∷ take (length front + k) more ≡ x ∷ (front ++ take k rest) =
    sym (ap (λ n. take n (y ∷ more)) n) ∙ e in
    let same : y ≡ x = cc in
    let tail : take (length front + k) more ≡ front ++ take k rest = cc in
    let found = take_front front rest more k tail in
    (found.0, ap (λ z. z ∷ more) same ∙ ap (λ ls. x ∷ ls) found.1, found.2)

-- a front is taken whole
take_whole : (front rest : List Text) (k : ℕ) → take (length front + k) (front ++ rest) ≡ front ++ take k rest
take_whole [] rest k = ap (λ n. take n rest) (omega arith)
take_whole (x ∷ front) rest k =
    let n : length (x ∷ front) + k ≡ suc (length front + k) = omega arith in
    ap (λ n. take n (x ∷ (front ++ rest))) n ∙ ap (λ ls. x ∷ ls) (take_whole front rest k)

-- no lines, and one line in front
take_none : (more : List Text) → take 1 more ≡ [] → more ≡ []
take_none [] e = refl
take_none (x ∷ more) e = absurd cc

take_first : (line : Text) (more : List Text) → take 1 more ≡ line ∷ [] → (rest : List Text) ×
    (more ≡ line ∷ rest)
take_first line [] e = absurd cc
take_first line (x ∷ more) e = let same : x ≡ line = cc in (more, ap (λ x. x ∷ more) same)

-- ---- what readings do

-- a fault at a line of a reading: it stands whatever lies behind the line, and fewer lines miss the next one
pub record StopsAt {A : Type 0} (R : Ahead → Reading A) (n : ℕ) (lines : List Text)
    (e : CfgFault) : Type 0 where
  pub before : ℕ
  pub line : line_of_fault e ≡ n + before
  pub same : (more : List Text) → take (before + 1) more ≡ take (before + 1) lines →
      R (with_lines n more) ≡ Err e
  pub first : (j : ℕ) → j ≤ before → R (with_lines n (take j lines)) ≡ Err (fault.Line (n + j))

-- a value of a reading: it stands whatever lies behind its lines, and fewer lines miss the next one
pub record TakesFront {A : Type 0} (R : Ahead → Reading A) (n : ℕ) (lines : List Text) (x : A)
    (after : Ahead) :
    Type 0 where
  pub front : List Text
  pub rest : List Text
  pub is : lines ≡ front ++ rest
  pub after_is : after ≡ with_lines (n + length front) rest
  pub same : (more : List Text) →
      R (with_lines n (front ++ more)) ≡ Ok (x, with_lines (n + length front) more)
  pub first : (j : ℕ) → j < length front → R (with_lines n (take j lines)) ≡ Err (fault.Line (n + j))

-- a reading that goes by the lines from the front
pub record IsLocal {A : Type 0} (R : Ahead → Reading A) : Type 0 where
  pub value : (n : ℕ) (lines : List Text) (x : A) (after : Ahead) → R (with_lines n lines) ≡ Ok (x, after) →
      TakesFront R n lines x after
  pub stops : (n : ℕ) (lines : List Text) (e : CfgFault) → R (with_lines n lines) ≡ Err e →
      StopsAt R n lines e

-- the same of a fault of what ends with a value: no line before it is at fault
pub record EndsAt {B : Type 0} (F : Ahead → Result B CfgFault) (n : ℕ) (lines : List Text) (e : CfgFault) :
    Type 0 where
  pub before : ℕ
  pub line : line_of_fault e ≡ n + before
  pub same : (more : List Text) → take (before + 1) more ≡ take (before + 1) lines →
      F (with_lines n more) ≡ Err e
  pub first : (j : ℕ) → j ≤ before → (d : CfgFault) → F (with_lines n (take j lines)) ≡ Err d →
      d ≡ fault.Line (n + j)

pub record IsLocalEnd {B : Type 0} (F : Ahead → Result B CfgFault) : Type 0 where
  pub ends : (n : ℕ) (lines : List Text) (e : CfgFault) → F (with_lines n lines) ≡ Err e → EndsAt F n lines e

-- ---- one line

read_line : {A : Type 0} (rule : LineRule A) (n : ℕ) (line : Text) (lines : List Text)
    (r : Result A CfgFault) →
    rule n (fields_of line) ≡ r → on_line rule (with_lines n (line ∷ lines))
    ≡ (r >>= λ x. Ok (x, with_lines (n + 1) lines))
read_line {A} rule n line lines r is = ap (λ r. r >>= λ (x : A). Ok (x, with_lines (n + 1) lines)) is

line_value : {A : Type 0} (rule : LineRule A) (n : ℕ) (line : Text) (lines : List Text) (x : A)
    (after : Ahead)
    (r : Result A CfgFault) → rule n (fields_of line) ≡ r →
    on_line rule (with_lines n (line ∷ lines)) ≡ Ok (x, after) →
    TakesFront (on_line rule) n (line ∷ lines) x after
line_value rule n line lines x after (Err d) is e =
    absurd (let none : Err d ≡ Ok (x, after) = sym (read_line rule n line lines (Err d) is) ∙ e in cc)
line_value {A} rule n line lines x after (Ok y) is e =
    let same : (y, with_lines (n + 1) lines) ≡ (x, after) =
    same_ok (sym (read_line rule n line lines (Ok y) is) ∙ e) in
    let same_x : y ≡ x = ap (λ (z : A × Ahead). z.0) same in
    let left : after ≡ with_lines (n + 1) lines = sym (ap (λ (z : A × Ahead). z.1) same) in
    record {
      front = line ∷ [];
      rest = lines;
      is = refl;
      after_is = left;
      same = λ more. read_line rule n line more (Ok y) is
          ∙ ap (λ (y : A). Ok (y, with_lines (n + 1) more)) same_x;
      first = first;
    }
  where
    first : (j : ℕ) → j < 1 → on_line rule (with_lines n (take j (line ∷ lines))) ≡ Err (fault.Line (n + j))
    first zero less = let k : n ≡ n + 0 = omega arith in ap (λ n. Err (fault.Line n)) k
    first (suc j) less = absurd (omega (arith, less))

line_stops : {A : Type 0} (rule : LineRule A) → ((n : ℕ) (fields : List Text) → IsAtLine n (rule n fields)) →
    (n : ℕ) (line : Text) (lines : List Text) (e : CfgFault) (r : Result A CfgFault) →
    rule n (fields_of line) ≡ r → on_line rule (with_lines n (line ∷ lines)) ≡ Err e →
    StopsAt (on_line rule) n (line ∷ lines) e
line_stops {A} rule at_line n line lines e (Ok y) is fails =
    absurd (let none : Ok (y, with_lines (n + 1) lines) ≡ Err e =
    sym (read_line rule n line lines (Ok y) is) ∙ fails in cc)
line_stops {A} rule at_line n line lines e (Err d) is fails =
    let same : ◌≡◌ {A = Reading A} (Err d) (Err e) = sym (read_line rule n line lines (Err d) is) ∙ fails in
    let same_d : d ≡ e = cc in
    record {
      before = 0;
      line = (at_line n (fields_of line)).at e (is ∙ ap Err same_d) ∙ plus_zero;
      same = λ more agree. let found = take_first line more agree in
          ap (λ ls. on_line rule (with_lines n ls)) found.1 ∙ read_line rule n line found.0 (Err d) is
          ∙ ap Err same_d;
      first = first;
    }
  where
    plus_zero : n ≡ n + 0
    plus_zero = omega arith

    first : (j : ℕ) → j ≤ 0 → on_line rule (with_lines n (take j (line ∷ lines))) ≡ Err (fault.Line (n + j))
    first zero less = let k : n ≡ n + 0 = omega arith in ap (λ n. Err (fault.Line n)) k
    first (suc j) less = absurd (omega (arith, less))

none_stops : {A : Type 0} (rule : LineRule A) (n : ℕ) (e : CfgFault) → on_line rule (with_lines n [])
    ≡ Err e →
    StopsAt (on_line rule) n [] e
none_stops {A} rule n e fails =
    let same : fault.Line n ≡ e = cc in
    record {
      before = 0;
      line = ap line_of_fault (sym same) ∙ plus_zero;
      same = λ more agree. ap (λ ls. on_line rule (with_lines n ls)) (take_none more agree) ∙ ap Err same;
      first = first;
    }
  where
    plus_zero : n ≡ n + 0
    plus_zero = omega arith

    first : (j : ℕ) → j ≤ 0 → on_line rule (with_lines n (take j [])) ≡ Err (fault.Line (n + j))
    first zero less = let k : n ≡ n + 0 = omega arith in ap (λ n. Err (fault.Line n)) k
    first (suc j) less = absurd (omega (arith, less))

-- the next line by a rule that tells faults of its line
pub line_local : {A : Type 0} (rule : LineRule A) → ((n : ℕ) (fields : List Text) → IsAtLine n
    (rule n fields)) →
    IsLocal (on_line rule)
line_local {A} rule at_line = record { value = value; stops = stops }
  where
    value : (n : ℕ) (lines : List Text) (x : A) (after : Ahead) → on_line rule (with_lines n lines)
        ≡ Ok (x, after) → TakesFront (on_line rule) n lines x after
    value n [] x after e = absurd cc
    value n (line ∷ lines) x after e = line_value rule n line lines x after (rule n (fields_of line)) refl e

    stops : (n : ℕ) (lines : List Text) (e : CfgFault) → on_line rule (with_lines n lines) ≡ Err e →
        StopsAt (on_line rule) n lines e
    stops n [] e fails = none_stops rule n e fails
    stops n (line ∷ lines) e fails = line_stops rule at_line n line lines e (rule n
        (fields_of line)) refl fails

-- no line at all
pub nothing_local : {A : Type 0} (x : A) → IsLocal (λ ahead. Ok (x, ahead))
nothing_local {A} x = record {
  value = λ n lines y after e.
      let both : (x, with_lines n lines) ≡ (y, after) = same_ok e in
      let same : x ≡ y = ap (λ (z : A × Ahead). z.0) both in
      let k : n ≡ n + 0 = omega arith in
      let left : after ≡ with_lines (n + 0) lines = sym (ap (λ (z : A × Ahead). z.1) both)
      ∙ ap (λ (n : ℕ). with_lines n lines) k in
      record {
        front = [];
        rest = lines;
        is = refl;
        after_is = left;
        same = λ more. ap (λ (n : ℕ). Ok (x, with_lines n more)) k
            ∙ ap (λ (x : A). Ok (x, with_lines (n + 0) more)) same;
        first = λ j less. absurd (omega (arith, less));
      };
  stops = λ n lines e fails. absurd (let h : ◌≡◌ {A = Reading A} (Ok (x, with_lines n lines))
      (Err e) = fails in cc);
}

-- ---- one reading after another

-- a place before, or behind, the lines of the first
cases_place : (j k : ℕ) → (j < k) ⊎ ((i : ℕ) × (j ≡ k + i))
cases_place j k = elim (cases_lt j k) [ inl less ↦ inl less | inr more ↦ inr (j - k, omega (arith, more)) ]

-- what comes after a value that was found
pub after_value : {A B : Type 0} (R : Ahead → Reading A) (f : A → Ahead → Result B CfgFault) (n : ℕ)
    (lines : List Text) (x : A) (after : Ahead) (t : TakesFront R n lines x after) (more : List Text) →
    (R (with_lines n (t.front ++ more)) >>= λ y. f y.0 y.1) ≡ f x (with_lines (n + length t.front) more)
after_value R f n lines x after t more = ap (λ r. r >>= λ y. f y.0 y.1) (t.same more)

-- and after a line that is missing
pub after_missing : {A B : Type 0} (R : Ahead → Reading A) (f : A → Ahead → Result B CfgFault) (a : Ahead)
    (d : CfgFault) → R a ≡ Err d → (R a >>= λ y. f y.0 y.1) ≡ Err d
after_missing R f a d is = ap (λ r. r >>= λ y. f y.0 y.1) is

more_lines : (n i j : ℕ) → n + i + j ≡ n + (i + j)
more_lines n i j = omega arith

-- a fault of the second, where the first gave a value
second_stops : {A B : Type 0} (R : Ahead → Reading A) (f : A → Ahead → Reading B) (n : ℕ) (lines : List Text)
    (x : A) (after : Ahead) (e : CfgFault) (t : TakesFront R n lines x after) →
    StopsAt (f x) (n + length t.front) t.rest e → StopsAt (λ a. R a >>= λ y. f y.0 y.1) n lines e
second_stops R f n lines x after e t s =
    let size : ℕ = length t.front in
    record {
      before = size + s.before;
      line = s.line ∙ more_lines n size s.before;
      same = λ more agree.
          let k : size + s.before + 1 ≡ size + (s.before + 1) = omega arith in
          let e1 : take (size + (s.before + 1)) more ≡ t.front ++ take (s.before + 1) t.rest =
          ap (λ k. take k more) (sym k) ∙ agree ∙ ap (λ k. take k lines) k
          ∙ ap (take (size + (s.before + 1))) t.is ∙ take_whole t.front t.rest (s.before + 1) in
          let found = take_front t.front t.rest more (s.before + 1) e1 in
          ap (λ ls. R (with_lines n ls) >>= λ y. f y.0 y.1) found.1
          ∙ after_value R f n lines x after t found.0 ∙ s.same found.0 found.2;
      first = λ j within. elim (cases_place j size) [
        | inl less ↦ after_missing R f (with_lines n (take j lines)) (fault.Line (n + j)) (t.first j less)
        | inr place ↦ behind j within place.0 place.1
      ];
    }
  where
    behind : (j : ℕ) → j ≤ length t.front + s.before → (i : ℕ) → j ≡ length t.front + i →
        (R (with_lines n (take j lines)) >>= λ y. f y.0 y.1) ≡ Err (fault.Line (n + j))
    behind j within i is =
        let size : ℕ = length t.front in
        let cut : take j lines ≡ t.front ++ take i t.rest =
        ap (λ j. take j lines) is ∙ ap (take (size + i)) t.is ∙ take_whole t.front t.rest i in
        ap (λ ls. R (with_lines n ls) >>= λ y. f y.0 y.1) cut
        ∙ after_value R f n lines x after t (take i t.rest) ∙ s.first i (omega (arith, within, is))
        ∙ ap (λ k. Err (fault.Line k)) (more_lines n size i ∙ ap (λ j. n + j) (sym is))

-- a fault of the first
first_stops : {A B : Type 0} (R : Ahead → Reading A) (f : A → Ahead → Reading B) (n : ℕ) (lines : List Text)
    (e : CfgFault) → StopsAt R n lines e → StopsAt (λ a. R a >>= λ y. f y.0 y.1) n lines e
first_stops R f n lines e s = record {
  before = s.before;
  line = s.line;
  same = λ more agree. after_missing R f (with_lines n more) e (s.same more agree);
  first = λ j within. after_missing R f (with_lines n (take j lines)) (fault.Line (n + j)) (s.first j within);
}

-- a value of both
second_takes : {A B : Type 0} (R : Ahead → Reading A) (f : A → Ahead → Reading B) (n : ℕ) (lines : List Text)
    (x : A) (after : Ahead) (z : B) (end : Ahead) (t : TakesFront R n lines x after) →
    TakesFront (f x) (n + length t.front) t.rest z end → TakesFront
    (λ a. R a >>= λ y. f y.0 y.1) n lines z end
second_takes {A} {B} R f n lines x after z end t s =
    let size : ℕ = length t.front in
    let both : n + size + length s.front ≡ n + length (t.front ++ s.front) =
    omega (arith, length-append t.front s.front) in
    record {
      front = t.front ++ s.front;
      rest = s.rest;
      is = t.is ∙ ap (λ ls. t.front ++ ls) s.is ∙ sym (append_assoc t.front s.front s.rest);
      after_is = s.after_is ∙ ap (λ k. with_lines k s.rest) both;
      same = λ more. ap (λ ls. R (with_lines n ls) >>= λ y. f y.0 y.1) (append_assoc t.front s.front more)
          ∙ after_value R f n lines x after t (s.front ++ more) ∙ s.same more
          ∙ ap (λ k. Ok (z, with_lines k more)) both;
      first = λ j within. elim (cases_place j size) [
        | inl less ↦ after_missing R f (with_lines n (take j lines)) (fault.Line (n + j)) (t.first j less)
        | inr place ↦ behind j within place.0 place.1
      ];
    }
  where
    behind : (j : ℕ) → j < length (t.front ++ s.front) → (i : ℕ) → j ≡ length t.front + i →
        (R (with_lines n (take j lines)) >>= λ y. f y.0 y.1) ≡ Err (fault.Line (n + j))
    behind j within i is =
        let size : ℕ = length t.front in
        let cut : take j lines ≡ t.front ++ take i t.rest =
        ap (λ j. take j lines) is ∙ ap (take (size + i)) t.is ∙ take_whole t.front t.rest i in
        ap (λ ls. R (with_lines n ls) >>= λ y. f y.0 y.1) cut
        ∙ after_value R f n lines x after t (take i t.rest)
        ∙ s.first i (omega (arith, within, is, length-append t.front s.front))
        ∙ ap (λ k. Err (fault.Line k)) (more_lines n size i ∙ ap (λ j. n + j) (sym is))

-- two readings, one after the other
pub both_local : {A B : Type 0} (R : Ahead → Reading A) (f : A → Ahead → Reading B) → IsLocal R →
    ((x : A) → IsLocal (f x)) → IsLocal (λ a. R a >>= λ y. f y.0 y.1)
both_local {A} {B} R f first second = record { value = value; stops = stops }
  where
    found : (n : ℕ) (lines : List Text) (z : B) (end : Ahead) (r : Reading A) → R (with_lines n lines) ≡ r →
        (r >>= λ y. f y.0 y.1) ≡ Ok (z, end) → TakesFront (λ a. R a >>= λ y. f y.0 y.1) n lines z end
    found n lines z end (Ok y) is e =
        let t = first.value n lines y.0 y.1 is in
        second_takes R f n lines y.0 y.1 z end t
        ((second y.0).value (n + length t.front) t.rest z end (ap (f y.0) (sym t.after_is) ∙ e))
    found n lines z end (Err d) is e = absurd cc

    value : (n : ℕ) (lines : List Text) (z : B) (end : Ahead) →
        (R (with_lines n lines) >>= λ y. f y.0 y.1) ≡ Ok (z, end) →
        TakesFront (λ a. R a >>= λ y. f y.0 y.1) n lines z end
    value n lines z end e = found n lines z end (R (with_lines n lines)) refl e

    failed : (n : ℕ) (lines : List Text) (e : CfgFault) (r : Reading A) → R (with_lines n lines) ≡ r →
        (r >>= λ y. f y.0 y.1) ≡ Err e → StopsAt (λ a. R a >>= λ y. f y.0 y.1) n lines e
    failed n lines e (Ok y) is fails =
        let t = first.value n lines y.0 y.1 is in
        second_stops R f n lines y.0 y.1 e t
        ((second y.0).stops (n + length t.front) t.rest e (ap (f y.0) (sym t.after_is) ∙ fails))
    failed n lines e (Err d) is fails =
        let same : d ≡ e = cc in
        first_stops R f n lines e (first.stops n lines e (is ∙ ap Err same))

    stops : (n : ℕ) (lines : List Text) (e : CfgFault) → (R (with_lines n lines) >>= λ y. f y.0 y.1) ≡ Err e →
        StopsAt (λ a. R a >>= λ y. f y.0 y.1) n lines e
    stops n lines e fails = failed n lines e (R (with_lines n lines)) refl fails

-- ---- a reading, and what ends after it

second_ends : {A B : Type 0} (R : Ahead → Reading A) (f : A → Ahead → Result B CfgFault) (n : ℕ)
    (lines : List Text) (x : A) (after : Ahead) (e : CfgFault) (t : TakesFront R n lines x after) →
    EndsAt (f x) (n + length t.front) t.rest e → EndsAt (λ a. R a >>= λ y. f y.0 y.1) n lines e
second_ends {A} {B} R f n lines x after e t s =
    let size : ℕ = length t.front in
    record {
      before = size + s.before;
      line = s.line ∙ more_lines n size s.before;
      same = λ more agree.
          let k : size + s.before + 1 ≡ size + (s.before + 1) = omega arith in
          let e1 : take (size + (s.before + 1)) more ≡ t.front ++ take (s.before + 1) t.rest =
          ap (λ k. take k more) (sym k) ∙ agree ∙ ap (λ k. take k lines) k
          ∙ ap (take (size + (s.before + 1))) t.is ∙ take_whole t.front t.rest (s.before + 1) in
          let found = take_front t.front t.rest more (s.before + 1) e1 in
          ap (λ ls. R (with_lines n ls) >>= λ y. f y.0 y.1) found.1
          ∙ after_value R f n lines x after t found.0 ∙ s.same found.0 found.2;
      first = λ j within d is. elim (cases_place j size) [
        | inl less ↦ missing d (sym (after_missing R f (with_lines n (take j lines)) (fault.Line (n + j))
            (t.first j less)) ∙ is)
        | inr place ↦ behind j within place.0 place.1 d is
      ];
    }
  where
    missing : {m : CfgFault} (d : CfgFault) → ◌≡◌ {A = Result B CfgFault} (Err m) (Err d) → d ≡ m
    missing d is = cc

    behind : (j : ℕ) → j ≤ length t.front + s.before → (i : ℕ) → j ≡ length t.front + i → (d : CfgFault) →
        (R (with_lines n (take j lines)) >>= λ y. f y.0 y.1) ≡ Err d → d ≡ fault.Line (n + j)
    behind j within i at_j d is =
        let size : ℕ = length t.front in
        let cut : take j lines ≡ t.front ++ take i t.rest =
        ap (λ j. take j lines) at_j ∙ ap (take (size + i)) t.is ∙ take_whole t.front t.rest i in
        let inner : f x (with_lines (n + size) (take i t.rest)) ≡ Err d =
        sym (ap (λ ls. R (with_lines n ls) >>= λ y. f y.0 y.1) cut
        ∙ after_value R f n lines x after t (take i t.rest)) ∙ is in
        s.first i (omega (arith, within, at_j)) d inner
        ∙ ap fault.Line (more_lines n size i ∙ ap (λ j. n + j) (sym at_j))

first_ends : {A B : Type 0} (R : Ahead → Reading A) (f : A → Ahead → Result B CfgFault) (n : ℕ)
    (lines : List Text) (e : CfgFault) → StopsAt R n lines e → EndsAt (λ a. R a >>= λ y. f y.0 y.1) n lines e
first_ends {A} {B} R f n lines e s = record {
  before = s.before;
  line = s.line;
  same = λ more agree. after_missing R f (with_lines n more) e (s.same more agree);
  first = λ j within d is. missing d (sym (after_missing R f (with_lines n (take j lines)) (fault.Line
      (n + j))
      (s.first j within)) ∙ is);
}
  where
    missing : {m : CfgFault} (d : CfgFault) → ◌≡◌ {A = Result B CfgFault} (Err m) (Err d) → d ≡ m
    missing d is = cc

pub then_local : {A B : Type 0} (R : Ahead → Reading A) (f : A → Ahead → Result B CfgFault) → IsLocal R →
    ((x : A) → IsLocalEnd (f x)) → IsLocalEnd (λ a. R a >>= λ y. f y.0 y.1)
then_local {A} {B} R f first second = record { ends = ends }
  where
    failed : (n : ℕ) (lines : List Text) (e : CfgFault) (r : Reading A) → R (with_lines n lines) ≡ r →
        (r >>= λ y. f y.0 y.1) ≡ Err e → EndsAt (λ a. R a >>= λ y. f y.0 y.1) n lines e
    failed n lines e (Ok y) is fails =
        let t = first.value n lines y.0 y.1 is in
        second_ends R f n lines y.0 y.1 e t
        ((second y.0).ends (n + length t.front) t.rest e (ap (f y.0) (sym t.after_is) ∙ fails))
    failed n lines e (Err d) is fails =
        let same : d ≡ e = cc in
        first_ends R f n lines e (first.stops n lines e (is ∙ ap Err same))

    ends : (n : ℕ) (lines : List Text) (e : CfgFault) → (R (with_lines n lines) >>= λ y. f y.0 y.1) ≡ Err e →
        EndsAt (λ a. R a >>= λ y. f y.0 y.1) n lines e
    ends n lines e fails = failed n lines e (R (with_lines n lines)) refl fails

-- ---- the lines after the last

-- lines that hold nothing but blanks, and then a value
abbrev pub blank_end : {B : Type 0} → B → Ahead → Result B CfgFault
blank_end x ahead = only_blank_lines ahead.number ahead.lines >>= λ ended. Ok x

plus_zero : (n : ℕ) → n ≡ n + 0
plus_zero n = omega arith

blank_step : {B : Type 0} (x : B) (n : ℕ) (line : Text) (more : List Text) (b : Bool) → is_all_blank line
    ≡ b →
    blank_end x (with_lines n (line ∷ more))
    ≡ (cond b (only_blank_lines (n + 1) more) (Err (fault.Line n)) >>= λ ended. Ok x)
blank_step x n line more b is =
    ap (λ b. cond b (only_blank_lines (n + 1) more) (Err (fault.Line n)) >>= λ ended. Ok x) is

-- a line behind a blank one
blank_later : {B : Type 0} (x : B) (n : ℕ) (line : Text) (lines : List Text) (e : CfgFault) →
    is_all_blank line ≡ true → EndsAt (blank_end x) (n + 1) lines e → EndsAt (blank_end x) n (line ∷ lines) e
blank_later {B} x n line lines e blank s = record {
  before = s.before + 1;
  line = s.line ∙ omega arith;
  same = same;
  first = first;
}
  where
    same : (more : List Text) → take (s.before + 1 + 1) more ≡ take (s.before + 1 + 1) (line ∷ lines) →
        blank_end x (with_lines n more) ≡ Err e
    same [] agree =
        absurd (let k : s.before + 1 + 1 ≡ suc (s.before + 1) = omega arith in
        let none : ◌≡◌ {A = List Text} [] (line ∷ take (s.before + 1) lines) =
        sym (ap (λ (k : ℕ). take {A = Text} k []) k) ∙ agree ∙ ap (λ k. take k (line ∷ lines)) k in cc)
    same (y ∷ more) agree =
        let k : s.before + 1 + 1 ≡ suc (s.before + 1) = omega arith in
        let both : y ∷ take (s.before + 1) more ≡ line ∷ take (s.before + 1) lines =
        sym (ap (λ k. take k (y ∷ more)) k) ∙ agree ∙ ap (λ k. take k (line ∷ lines)) k in
        let same_line : y ≡ line = cc in
        let others : take (s.before + 1) more ≡ take (s.before + 1) lines = cc in
        blank_step x n y more true (ap is_all_blank same_line ∙ blank) ∙ s.same more others

    first : (j : ℕ) → j ≤ s.before + 1 → (d : CfgFault) → blank_end x (with_lines n (take j (line ∷ lines)))
        ≡ Err d → d ≡ fault.Line (n + j)
    first zero within d h = absurd (let none : ◌≡◌ {A = Result B CfgFault} (Ok x) (Err d) = h in cc)
    first (suc j) within d h =
        let k : n + 1 + j ≡ n + suc j = omega arith in
        s.first j (omega (arith, within)) d (sym (blank_step x n line (take j lines) true blank) ∙ h)
        ∙ ap fault.Line k

-- a line that isn't blank
blank_stops : {B : Type 0} (x : B) (n : ℕ) (line : Text) (lines : List Text) (e : CfgFault) →
    is_all_blank line ≡ false → blank_end x (with_lines n (line ∷ lines)) ≡ Err e →
    EndsAt (blank_end x) n (line ∷ lines) e
blank_stops {B} x n line lines e full fails =
    let stops : ◌≡◌ {A = Result B CfgFault} (Err (fault.Line n)) (Err e) =
    sym (blank_step x n line lines false full) ∙ fails in
    let same_e : fault.Line n ≡ e = cc in
    record {
      before = 0;
      line = ap line_of_fault (sym same_e) ∙ plus_zero n;
      same = λ more agree. let found = take_first line more agree in
          ap (λ ls. blank_end x (with_lines n ls)) found.1 ∙ blank_step x n line found.0 false full
          ∙ ap Err same_e;
      first = first;
    }
  where
    first : (j : ℕ) → j ≤ 0 → (d : CfgFault) → blank_end x (with_lines n (take j (line ∷ lines))) ≡ Err d →
        d ≡ fault.Line (n + j)
    first zero within d h = absurd (let none : ◌≡◌ {A = Result B CfgFault} (Ok x) (Err d) = h in cc)
    first (suc j) within d h = absurd (omega (arith, within))

blank_ends : {B : Type 0} (x : B) (n : ℕ) (lines : List Text) (e : CfgFault) →
    blank_end x (with_lines n lines) ≡ Err e → EndsAt (blank_end x) n lines e
blank_ends {B} x n [] e fails =
    absurd (let none : ◌≡◌ {A = Result B CfgFault} (Ok x) (Err e) = fails in cc)
blank_ends x n (line ∷ lines) e fails =
    at (is_all_blank line) refl (λ later. blank_ends x (n + 1) lines e later)
  where
    at : (b : Bool) → is_all_blank line ≡ b →
        (blank_end x (with_lines (n + 1) lines) ≡ Err e → EndsAt (blank_end x) (n + 1) lines e) →
        EndsAt (blank_end x) n (line ∷ lines) e
    at true is later =
        blank_later x n line lines e is (later (sym (blank_step x n line lines true is) ∙ fails))
    at false is later = blank_stops x n line lines e is fails

pub blank_local : {B : Type 0} (x : B) → IsLocalEnd (blank_end x)
blank_local x = record { ends = blank_ends x }
