-- What a reading that found no fault went through, step by step.
use Rattle.std.proofs.Common.{◌≡◌, Result, Ok, ap, ◌∙◌}
use Rattle.pq_words.specs.Text.{Text}
use Rattle.pq_words.specs.FirstFault.{◌>>=◌}
use Rattle.pq_words.proofs.ReadingLemmas.{bind_ok}
use Rattle.cfg_fields.specs.Fields.{Ahead, LineRule, NumberedFields, fields_line, fields_of, next_line, on_line}

-- two values that were given are one
pub same_ok : {A E : Type 0} {x y : A} → ◌≡◌ {A = Result A E} (Ok x) (Ok y) → x ≡ y
same_ok e = cc

-- a step that found no fault, for what is shown of its value and of what came after it
pub from_bind : {A B E : Type 0} (r : Result A E) (f : A → Result B E) (y : B) → (r >>= f) ≡ Ok y →
    {P : Type 0} → ((x : A) → r ≡ Ok x → f x ≡ Ok y → P) → P
from_bind r f y e g = let b = bind_ok r f y e in g b.0 b.1 b.2

-- a step that finds no fault
pub goes : {A B E : Type 0} (r : Result A E) (f : A → Result B E) (x : A) → r ≡ Ok x → (r >>= f) ≡ f x
goes r f x e = ap (λ r. r >>= f) e

-- ---- one line

-- a line was there, and its rule gave the value
pub record LineRead {A : Type 0} (rule : LineRule A) (start : Ahead) (y : A × Ahead) : Type 0 where
  pub line : Text
  pub there : next_line start ≡ Ok (line, y.1)
  pub value : rule start.number (fields_of line) ≡ Ok y.0

pub line_read : {A : Type 0} (rule : LineRule A) (start : Ahead) (y : A × Ahead) → on_line rule start ≡ Ok y →
    LineRead rule start y
line_read rule start y e =
    let fields = bind_ok (fields_line start) _ y e in
    let line = bind_ok (next_line start) _ fields.0 fields.1 in
    let value = bind_ok (rule fields.0.0.number fields.0.0.fields) _ y fields.2 in
    let cut : record { number = start.number; fields = fields_of line.0.0 } ≡ fields.0.0 =
    ap (λ (z : NumberedFields × Ahead). z.0) (same_ok line.2) in
    let left : line.0.1 ≡ fields.0.1 = ap (λ (z : NumberedFields × Ahead). z.1) (same_ok line.2) in
    let same = same_ok value.2 in
    record {
      line = line.0.0;
      there = line.1 ∙ ap (λ a. Ok (line.0.0, a)) left ∙ ap (λ (z : _ × Ahead). Ok (line.0.0, z.1)) same;
      value = ap (λ (l : NumberedFields). rule l.number l.fields) cut ∙ value.1
          ∙ ap (λ (z : _ × Ahead). Ok z.0) same;
    }

-- and the other way round
pub line_by : {A : Type 0} (rule : LineRule A) (start after : Ahead) (line : NumberedFields) (x : A) →
    fields_line start ≡ Ok (line, after) → rule line.number line.fields ≡ Ok x →
    on_line rule start ≡ Ok (x, after)
line_by {A} rule start after line x there value =
    goes (fields_line start) _ (line, after) there ∙ ap (λ r. r >>= λ (x : A). Ok (x, after)) value
