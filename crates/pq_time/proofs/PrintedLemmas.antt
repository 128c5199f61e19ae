-- A text that is put together, and the date that a moment shows.
use Rattle.std.proofs.Common.{◌≡◌, ℕ, ◌+◌, ◌-◌, ◌≤◌, ◌<◌, ◌/◌, ◌%◌, ◌^◌, ℤ, pos, ◌+ℤ◌, ◌*ℤ◌, unsigned_abs, List, [], ◌∷◌, ◌++◌, length, take, drop, sym, ◌∙◌, ap, subst, arith, append_assoc}
use Rattle.std.proofs.Math.Seq.{take-append-add, drop-append-add}
use Rattle.std.specs.Int.{int_rem_euclid}
use Rattle.jiff_core.specs.Calendar.{IsCivilDate}
use Rattle.jiff_core.proofs.CalendarLemmas.{days_from_civil-day_count}
use Rattle.jiff_core.proofs.SignedLemmas.{signed_arith, int_rem_euclid-parts, unsigned_abs-parts}
use borrow.Author.Differences.{up, down}
use Rattle.pq_time.specs.Moment.{day_number, nanoseconds_in_day}
use Rattle.pq_time.specs.Printed.{IsShown, ShowsMoments, date_at, date_shown, day_of, since_midnight, time_at, time_shown}
use Rattle.pq_time.specs.Written.{CivilDate, TimeOfDay}
use Rattle.pq_words.specs.Magnitude.{IsWithin}
use Rattle.pq_time.proofs.DayLemmas.{on_day, one_date}
use borrow.Rule.Slice.PartMut.{put_mid}

-- a date of ten bytes put before a `T`, and a time of day put between it and the last byte
pub put_together : (date time written written_time : List ℕ) (middle : List ℕ) → written ≡ date → written_time
    ≡ time → length date ≡ 10 → drop 18 middle ≡ 90 ∷ []
    → put_mid 11 18 (written ++ 84 ∷ middle) written_time ≡ date ++ 84 ∷ time ++ 90 ∷ []
put_together date time written written_time middle e f ten last =
    let n : length date + 1 ≡ 11 = omega (arith, ten) in
    let front : take 11 (date ++ 84 ∷ middle) ≡ date ++ 84 ∷ [] =
    sym (ap (λ k. take k (date ++ 84 ∷ middle)) n) ∙ take-append-add date (84 ∷ middle) 1 in
    let back : drop 11 (date ++ 84 ∷ middle) ≡ middle = sym (ap (λ k. drop k (date ++ 84 ∷ middle)) n)
    ∙ drop-append-add date (84 ∷ middle) 1 in
    ap (λ d. put_mid 11 18 (d ++ 84 ∷ middle) written_time) e
    ∙ ap (put_mid 11 18 (date ++ 84 ∷ middle)) f
    ∙ ap (λ a. a ++ (time ++ drop 18 (drop 11 (date ++ 84 ∷ middle)))) front
    ∙ ap (λ b. (date ++ 84 ∷ []) ++ (time ++ drop 18 b)) back
    ∙ ap (λ b. (date ++ 84 ∷ []) ++ (time ++ b)) last
    ∙ regroup
  where
    regroup : (date ++ 84 ∷ []) ++ (time ++ 90 ∷ []) ≡ date ++ 84 ∷ time ++ 90 ∷ []
    regroup = append_assoc date (84 ∷ []) (time ++ 90 ∷ []) ∙ sym (append_assoc date (84 ∷ time) (90 ∷ []))

-- ---- what a clock shows

-- a moment by its day number and the nanoseconds since midnight
pub parts_of : (t : ℤ) → ((day_of t *ℤ pos 86_400_000_000_000) +ℤ pos (since_midnight t) ≡ t) ×
    (since_midnight t < 86_400_000_000_000)
parts_of t =
    let r = int_rem_euclid-parts t 86_400_000_000_000 (omega arith) in
    let abs = unsigned_abs-parts (int_rem_euclid t (pos 86_400_000_000_000)) in
    (omega (arith, signed_arith, r, abs), omega (arith, r, abs))

-- and only by these
pub parts_only : (t day : ℤ) (n : ℕ) → n < 86_400_000_000_000 → (day *ℤ pos 86_400_000_000_000) +ℤ pos n ≡ t
    → (day_of t ≡ day) × (since_midnight t ≡ n)
parts_only t day n less is =
    let parts = parts_of t in
    (omega (arith, signed_arith, parts, less, is), omega (arith, signed_arith, parts, less, is))

-- the days since the year 1 of a moment of 64 bits
pub days_within : (t : ℤ) → IsWithin (2 ^ 63) t → (n : ℕ) × (unsigned_abs (day_of t +ℤ pos 719_162) ≡ n) ×
    ((day_of t +ℤ pos 719_162) ≡ pos n) × (584_022 ≤ n) × (n < 876_216)
days_within t within =
    let parts = parts_of t in
    let n : ℕ = up (day_of t) + 719_162 - down (day_of t) in
    let some : down (day_of t) ≤ up (day_of t) + 719_162 = omega (arith, signed_arith, within, parts) in
    let is : (day_of t +ℤ pos 719_162) ≡ pos n = omega (arith, signed_arith, some) in (
      n,
      ap unsigned_abs is,
      is,
      omega (arith, signed_arith, within, parts),
      omega (arith, signed_arith, within, parts),
    )

-- the date that is shown is of the calendar, and has the day number of the moment
pub date_is : (t : ℤ) → IsWithin (2 ^ 63) t → (IsCivilDate (pos (date_shown t).year) (date_shown t).month
    (date_shown t).day) × (day_number (date_shown t) ≡ day_of t)
unfolding date_shown
date_is t within =
    let days = days_within t within in
    let day = on_day days.0 days.3 days.4 in
    subst (λ n. (IsCivilDate (pos (date_at n).year) (date_at n).month (date_at n).day) ×
    (day_number (date_at n) ≡ day_of t)) (sym days.1) (
      day.civil_date,
      omega (
        arith,
        signed_arith,
        day.counted,
        days.2,
        days_from_civil-day_count (pos (date_at days.0).year) (date_at days.0).month (date_at days.0).day,
      ),
    )

-- the time that is shown makes so many nanoseconds
time_is : (n : ℕ) → n < 86_400_000_000_000 → (nanoseconds_in_day (time_at n) ≡ n) × ((time_at n).hour < 24)
time_is n less = (omega arith, omega (arith, less))

-- and it is the only one
time_only : (t : TimeOfDay) → t.minute < 60 → t.second < 60 → t.nanosecond < 10 ^ 9 →
    time_at (nanoseconds_in_day t) ≡ t
time_only t m s n =
    let hour : nanoseconds_in_day t / 3_600_000_000_000 ≡ t.hour = omega (arith, m, s, n) in
    let minute : nanoseconds_in_day t / 60_000_000_000 % 60 ≡ t.minute = omega (arith, m, s, n) in
    let second : nanoseconds_in_day t / 1_000_000_000 % 60 ≡ t.second = omega (arith, s, n) in
    let nanosecond : nanoseconds_in_day t % 1_000_000_000 ≡ t.nanosecond = omega (arith, n) in
    λ i. record { hour = hour i; minute = minute i; second = second i; nanosecond = nanosecond i }

-- a clock shows this at a moment
pub shown_is : (t : ℤ) → IsWithin (2 ^ 63) t → IsShown t (date_shown t) (time_shown t)
shown_is t within =
    let date = date_is t within in
    let parts = parts_of t in
    let time = time_is (since_midnight t) parts.1 in
    record {
      date = date.0;
      hour = time.1;
      minute = omega arith;
      second = omega arith;
      nanosecond = omega arith;
      both = ap (λ day. (day *ℤ pos 86_400_000_000_000) +ℤ pos (nanoseconds_in_day (time_shown t))) date.1
          ∙ ap (λ n. (day_of t *ℤ pos 86_400_000_000_000) +ℤ pos n) time.0 ∙ parts.0;
    }

-- and nothing else
shown_only : (t : ℤ) (d : CivilDate) (time : TimeOfDay) → IsWithin (2 ^ 63) t → IsShown t d time →
    (d ≡ date_shown t) × (time ≡ time_shown t)
shown_only t d time within h =
    let date = date_is t within in
    let less : nanoseconds_in_day time < 86_400_000_000_000 =
    omega (arith, h.hour, h.minute, h.second, h.nanosecond) in
    let parts = parts_only t (day_number d) (nanoseconds_in_day time) less h.both in (
      one_date d (date_shown t) h.date date.0 (sym parts.0 ∙ sym date.1),
      sym (ap time_at parts.1 ∙ time_only time h.minute h.second h.nanosecond),
    )

pub shows_moments : ShowsMoments
shows_moments t d time within = (
  shown_only t d time within,
  λ same. subst (λ d. IsShown t d time) (sym same.0)
      (subst (λ time. IsShown t (date_shown t) time) (sym same.1) (shown_is t within)),
)
