-- A date, a time and a time code, by the parts that were found in them.
use Rattle.std.proofs.Common.{◌≡◌, ◌≢◌, ℕ, ◌+◌, ◌-◌, ◌*◌, ◌^◌, ◌<◌, ◌≤◌, List, [], ◌∷◌, length, None, refl, sym, ◌∙◌, ap, arith, lit<}
use Rattle.std.proofs.Math.Nat.{mul-lt-mul_of_pos_right, one-le-pow}
use Rattle.std.proofs.lemmas.Nat.{pow-add}
use Rattle.pq_time.specs.Written.{date_of, date_of_parts, clock_time_of, time_of_parts, second_of, minutes_of_parts}
use Rattle.pq_words.specs.Text.{Text, parted_at}

no_date_parts : (parts : List Text) → length parts ≢ 3 → date_of_parts parts ≡ None
no_date_parts [] h = refl
no_date_parts (a ∷ []) h = refl
no_date_parts (a ∷ b ∷ []) h = refl
no_date_parts (a ∷ b ∷ c ∷ []) h = absurd (h refl)
no_date_parts (a ∷ b ∷ c ∷ d ∷ parts) h = refl

-- a text that has not three parts is no date
pub no_date : (text : Text) → length (parted_at 47 text) ≢ 3 → date_of text ≡ None
unfolding date_of
no_date text h = no_date_parts (parted_at 47 text) h

no_time_parts : (parts : List Text) → length parts ≢ 3 → time_of_parts parts ≡ None
no_time_parts [] h = refl
no_time_parts (a ∷ []) h = refl
no_time_parts (a ∷ b ∷ []) h = refl
no_time_parts (a ∷ b ∷ c ∷ []) h = absurd (h refl)
no_time_parts (a ∷ b ∷ c ∷ d ∷ parts) h = refl

-- nor a time
pub no_time : (text : Text) → length (parted_at 58 text) ≢ 3 → clock_time_of text ≡ None
unfolding clock_time_of
no_time text h = no_time_parts (parted_at 58 text) h

-- three parts or more are no seconds
pub no_second : (parts : List Text) → 3 ≤ length parts → second_of parts ≡ None
no_second [] h = refl
no_second (a ∷ []) h = absurd (omega (arith, h))
no_second (a ∷ b ∷ []) h = absurd (omega (arith, h))
no_second (a ∷ b ∷ c ∷ parts) h = refl

-- nor hours and minutes
pub no_minutes : (parts : List Text) → 3 ≤ length parts → minutes_of_parts parts ≡ None
no_minutes [] h = refl
no_minutes (a ∷ []) h = absurd (omega (arith, h))
no_minutes (a ∷ b ∷ []) h = absurd (omega (arith, h))
no_minutes (a ∷ b ∷ c ∷ parts) h = refl

-- k digits after the point are less than a second
pub scaled_small : (n k scale : ℕ) → k ≤ 9 → n < 10 ^ k → scale ≡ 10 ^ (9 - k) → n * scale < 10 ^ 9
scaled_small n k scale within small is =
    let some : 0 < 10 ^ (9 - k) = one-le-pow (9 - k) 10 (lit< tt) in
    let sum : k + (9 - k) ≡ 9 = omega arith in
    let whole : 10 ^ k * 10 ^ (9 - k) ≡ 10 ^ 9 = sym (pow-add 10 k (9 - k)) ∙ ap (λ m. 10 ^ m) sum in
    let less : n * 10 ^ (9 - k) < 10 ^ k * 10 ^ (9 - k) = mul-lt-mul_of_pos_right small some in
    let same : n * scale ≡ n * 10 ^ (9 - k) = ap (λ m. n * m) is in
    omega (arith, less, whole, same)
