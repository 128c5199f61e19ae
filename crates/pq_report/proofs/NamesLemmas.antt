-- The first name that differs, name by name.
use Rattle.std.proofs.Common.{◌≡◌, ℕ, ◌+◌, ◌<◌, Bool, true, false, not, if◌then◌else◌, List, [], map, drop, get_or, length, bytes_eq, refl, sym, ap, ◌∙◌, Err, Bor, arith}
use Rattle.std.proofs.lemmas.List.{drop_more, get_or-map, length-map}
use Rattle.pq_report.specs.ReportReading.{names_read}
use Rattle.pq_words.specs.Text.{Text}

-- what the texts that are lent say
abbrev pub all_now : List (Bor Text) → List Text
all_now texts = map (λ f. f.now) texts

names_step : (n i : ℕ) (names fields : List Text) → i < length names → i < length fields →
    names_read n (drop i names) (drop i fields) ≡ (if bytes_eq (get_or fields i []) (get_or names i [])
    then names_read (n + 1) (drop (i + 1) names) (drop (i + 1) fields) else Err n)
names_step n i names fields a b = rw (drop_more names i [] a, drop_more fields i [] b) refl

choice : {A : Type 0} (b v : Bool) (x y : A) → b ≡ v → (if b then x else y) ≡ (if v then x else y)
choice b v x y is = rw is refl

-- a test whose opposite was answered
pub not_is : (b r v : Bool) → r ≡ v → r ≡ not b → b ≡ not v
not_is true r v is same = sym (ap not (sym is ∙ same))
not_is false r v is same = sym (ap not (sym is ∙ same))

-- one step over texts that are lent
lent_step : (names fields : List (Bor Text)) (i : ℕ) (d e : Bor Text) (v : Bool) → i < length names →
    length names ≡ length fields → bytes_eq (get_or fields i d).now (get_or names i e).now ≡ v →
    names_read (i + 1) (drop i (all_now names)) (drop i (all_now fields))
    ≡ (if v then names_read (i + 1 + 1) (drop (i + 1) (all_now names)) (drop (i + 1)
    (all_now fields)) else Err (i + 1))
lent_step names fields i d e v inside both is =
    let more : i < length fields = omega (arith, inside, both) in
    let a : i < length (all_now names) = omega (arith, inside, length-map names (λ (f : Bor Text). f.now)) in
    let b : i < length (all_now fields) = omega (arith, more, length-map fields (λ (f : Bor Text). f.now)) in
    let field : get_or (all_now fields) i [] ≡ (get_or fields i d).now =
    get_or-map (λ (f : Bor Text). f.now) fields i d [] more in
    let name : get_or (all_now names) i [] ≡ (get_or names i e).now =
    get_or-map (λ (f : Bor Text). f.now) names i e [] inside in
    let test : bytes_eq (get_or (all_now fields) i []) (get_or (all_now names) i []) ≡ v =
    ap (λ x. bytes_eq x (get_or (all_now names) i [])) field ∙ ap (bytes_eq (get_or fields i d).now) name
    ∙ is in
    names_step (i + 1) i (all_now names) (all_now fields) a b
    ∙ choice (bytes_eq (get_or (all_now fields) i []) (get_or (all_now names) i [])) v
    (names_read (i + 1 + 1) (drop (i + 1) (all_now names)) (drop (i + 1) (all_now fields))) (Err (i + 1)) test

-- a name that differs
pub names_differ : (names fields : List (Bor Text)) (i : ℕ) (d e : Bor Text) (r : Bool) → i < length names →
    length names ≡ length fields → r ≡ true
    → r ≡ not (bytes_eq (get_or fields i d).now (get_or names i e).now)
    → names_read 1 (all_now names) (all_now fields)
    ≡ names_read (i + 1) (drop i (all_now names)) (drop i (all_now fields))
    → Err (i + 1) ≡ names_read 1 (all_now names) (all_now fields)
names_differ names fields i d e r inside both is test so_far =
    sym (so_far ∙ lent_step names fields i d e false inside both
    (not_is (bytes_eq (get_or fields i d).now (get_or names i e).now) r true is test))

-- one that does not
pub names_agree : (names fields : List (Bor Text)) (i : ℕ) (d e : Bor Text) (r : Bool) → i < length names →
    length names ≡ length fields → r ≡ false
    → r ≡ not (bytes_eq (get_or fields i d).now (get_or names i e).now)
    → names_read 1 (all_now names) (all_now fields)
    ≡ names_read (i + 1) (drop i (all_now names)) (drop i (all_now fields))
    → names_read 1 (all_now names) (all_now fields)
    ≡ names_read (i + 1 + 1) (drop (i + 1) (all_now names)) (drop (i + 1) (all_now fields))
names_agree names fields i d e r inside both is test so_far =
    so_far ∙ lent_step names fields i d e true inside both
    (not_is (bytes_eq (get_or fields i d).now (get_or names i e).now) r false is test)
