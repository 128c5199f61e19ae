-- Channel lines read one after another, as a loop does.
use Rattle.std.proofs.Common.{◌≡◌, ℕ, suc, ◌-◌, ◌+◌, ◌≤◌, ◌<◌, ◌⊎◌, List, [], ◌∷◌, ◌++◌, Ok, Err, refl, sym, ap, ◌∙◌, inl, inr, append_assoc, arith}
use Rattle.std.proofs.lemmas.List.{append-nil}
use Rattle.pq_words.specs.FirstFault.{◌>>=◌}
use Rattle.cfg_fields.specs.declared.fault.CfgFault.{CfgFault}
use Rattle.cfg_fields.specs.declared.fault.CfgFault.TheVariants as fault
use Rattle.cfg_fields.specs.Fields.{Ahead, Reading, LineRule, on_line}
use Rattle.comtrade_cfg.specs.CfgText.{channel_lines}

-- what was read before, and what is still read
abbrev pub with_front : {A : Type 0} → List A → Reading (List A) → Reading (List A)
with_front front read = read >>= λ x. Ok (front ++ x.0, x.1)

regroup : {A : Type 0} (front : List A) (x : A) (read : Reading (List A)) →
    with_front front (read >>= λ others. Ok (x ∷ others.0, others.1)) ≡ with_front (front ++ x ∷ []) read
regroup {A} front x (Ok y) = ap (λ (xs : List A). Ok (xs, y.1)) (simp append_assoc)
regroup front x (Err e) = refl

-- one line more
pub goes_on : {A : Type 0} (rule : ℕ → LineRule A) (front : List A) (count i : ℕ) (ahead after : Ahead)
    (x : A) (total : Reading (List A)) → i < count → on_line (rule (i + 1)) ahead ≡ Ok (x, after)
    → with_front front (channel_lines rule (i + 1) (count - i) ahead) ≡ total →
    with_front (front ++ x ∷ []) (channel_lines rule (i + 1 + 1) (count - (i + 1)) after) ≡ total
unfolding channel_lines
goes_on rule front count i ahead after x total lt h so_far =
    let k : count - i ≡ suc (count - (i + 1)) = omega arith in
    let one : with_front front (channel_lines rule (i + 1) (count - i) ahead)
    ≡ with_front (front ++ x ∷ []) (channel_lines rule (i + 1 + 1) (count - (i + 1)) after) =
    rw (k, h) (regroup front x (channel_lines rule (i + 1 + 1) (count - (i + 1)) after)) in
    sym one ∙ so_far

-- a line at fault
pub ends : {A : Type 0} (rule : ℕ → LineRule A) (front : List A) (count i : ℕ) (ahead : Ahead) (e : CfgFault)
    (total : Reading (List A)) → i < count → (e ≡ fault.OutOfMemory) ⊎ (on_line (rule (i + 1)) ahead ≡ Err e)
    → with_front front (channel_lines rule (i + 1) (count - i) ahead) ≡ total →
    (e ≡ fault.OutOfMemory) ⊎ (total ≡ Err e)
unfolding channel_lines
ends rule front count i ahead e total lt (inl memory) so_far = inl memory
ends rule front count i ahead e total lt (inr h) so_far =
    let k : count - i ≡ suc (count - (i + 1)) = omega arith in
    let one : with_front front (channel_lines rule (i + 1) (count - i) ahead) ≡ Err e = rw (k, h) refl in
    inr (sym so_far ∙ one)

-- no line is left
pub is_done : {A : Type 0} (rule : ℕ → LineRule A) (front : List A) (count i : ℕ) (ahead : Ahead)
    (total : Reading (List A)) → count ≤ i → with_front front (channel_lines rule (i + 1) (count - i) ahead)
    ≡ total → total ≡ Ok (front, ahead)
unfolding channel_lines
is_done {A} rule front count i ahead total le so_far =
    let k : count - i ≡ 0 = omega arith in
    let one : with_front front (channel_lines rule (i + 1) (count - i) ahead) ≡ Ok (front, ahead) =
    rw k (ap (λ (xs : List A). Ok (xs, ahead)) (append-nil front)) in
    sym so_far ∙ one
