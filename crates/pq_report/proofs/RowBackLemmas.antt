-- The fields of a row are told by its item, and the item by its fields.
use Rattle.std.proofs.Common.{◌≡◌, ℕ, ◌^◌, ◌<◌, ◌≤◌, Bool, true, ◌&&◌, ◌==◌, nat_le, if◌then◌else◌, [], ◌∷◌, ℤ, Option, Some, None, bytes_eq, decimal, ok_or, Ok, refl, ap, ◌∙◌, subst, arith, ◌⊎◌, inl, inr}
use Rattle.std.proofs.lemmas.Bool.Decides.{nat_tests}
use Rattle.std.proofs.lemmas.Slice.Eq.{bytes_eq-Decides}
use Rattle.pq_items.specs.declared.item.Item.{Item}
use Rattle.pq_items.specs.declared.item.Item.TheVariants as item
use Rattle.pq_report.specs.ReportReading.{fields_read, is_channel_of, is_count_of, is_place, item_read, item_with, kind_read, number_read, passing, span_read, tick_read}
use Rattle.pq_report.specs.ReportText.{IsReportable, kind_word, mark_word, place_text, row_fields, tick_text}
use Rattle.pq_report.specs.declared.kind.ItemKind.{ItemKind}
use Rattle.pq_report.specs.declared.kind.ItemKind.TheVariants as kind
use Rattle.pq_report.specs.declared.row_items.RowSpan.{RowSpan}
use Rattle.pq_report.proofs.DigitLemmas.{both}
use Rattle.pq_report.proofs.FieldBackLemmas.{kind_back, kind_is, mark_back, number_back, number_is, passing_back, passing_is, tick_back}
use Rattle.pq_time.specs.declared.clock.Clock.{Clock}
use Rattle.pq_words.specs.FirstFault.{provided}
use Rattle.pq_words.specs.Text.{Text}
use Rattle.pq_words.specs.declared.limits.TheConstants.{MOST_SAMPLES}
use Rattle.pq_words.proofs.ReadingLemmas.{bind_ok, provided_ok, some_ok}

-- ---- from the item to its fields' values

-- what the first six fields give
pub span_back : (clock : Clock) (k : ItemKind) (channel start end : ℕ) → channel < 2 ^ 64 →
    is_channel_of k channel ≡ true → start ≤ MOST_SAMPLES → end ≤ MOST_SAMPLES →
    span_read clock (kind_word k) (decimal channel) (decimal start) (decimal end) (place_text clock start)
    (place_text clock end) ≡ Ok (record { kind = k; channel = channel; start = start; end = end })
unfolding span_read
span_back clock k channel start end small of_kind first last =
    let word = kind_back k in
    let c = passing_back (is_channel_of k) (number_read (decimal channel)) channel
    (number_back channel small) of_kind in
    let s = passing_back is_place (number_read (decimal start)) start
    (number_back start (omega (arith, first))) (grind (arith, nat_tests, first)) in
    let e = passing_back is_place (number_read (decimal end)) end
    (number_back end (omega (arith, last))) (grind (arith, nat_tests, last)) in
    let from = (bytes_eq-Decides (place_text clock start) (place_text clock start)).1 refl in
    let to = (bytes_eq-Decides (place_text clock end) (place_text clock end)).1 refl in
    rw (word, c, s, e, from, to) refl

-- what the last four give
pub item_back : (span : RowSpan) (tick : Option ℤ) (value count : ℕ) (mark : Bool) → value < 2 ^ 64 →
    count < 2 ^ 64 → tick_read span.kind (tick_text tick) ≡ Some tick → is_count_of span.kind count ≡ true →
    item_read span (tick_text tick) (decimal value) (decimal count) (mark_word span.kind mark)
    ≡ Ok (item_with span tick value count mark)
unfolding item_read
item_back span tick value count mark small few ticks of_kind =
    let v = number_back value small in
    let c = passing_back (is_count_of span.kind) (number_read (decimal count)) count
    (number_back count few) of_kind in
    let m = mark_back span.kind mark in
    rw (ticks, v, c, m) refl

-- an item by its parts
row_back : (clock : Clock) (k : ItemKind) (channel start end : ℕ) (tick : Option ℤ) (value count : ℕ)
    (mark : Bool) →
    channel < 2 ^ 64 → is_channel_of k channel ≡ true → start ≤ MOST_SAMPLES → end ≤ MOST_SAMPLES →
    value < 2 ^ 64 → count < 2 ^ 64 → tick_read k (tick_text tick) ≡ Some tick → is_count_of k count ≡ true →
    fields_read clock (kind_word k ∷ decimal channel ∷ decimal start ∷ decimal end ∷ place_text clock start
    ∷ place_text clock end ∷ tick_text tick ∷ decimal value ∷ decimal count ∷ mark_word k mark ∷ [])
    ≡ Ok (item_with (record { kind = k; channel = channel; start = start; end = end }) tick value count mark)
unfolding fields_read
row_back clock k channel start end tick value count mark c of_channel s e v n ticks of_count =
    rw (span_back clock k channel start end c of_channel s e)
    (item_back (record {
      kind = k;
      channel = channel;
      start = start;
      end =
          end;
    }) tick value count mark v n ticks of_count)

number_tests : (c : ℕ) → (0 < c) × (c ≤ 999) → (nat_le 1 c && nat_le c 999) ≡ true
number_tests c h = both (nat_le 1 c) (nat_le c 999) (grind (arith, nat_tests, h)) (grind
    (arith, nat_tests, h))

basic_count : (n : ℕ) → (n ≡ 10) ⊎ (n ≡ 12) → (if n == 10 then true else n == 12) ≡ true
basic_count n (inl ten) = rw ten refl
basic_count n (inr twelve) = rw twelve refl

-- the fields of an item that can be reported give it
pub fields_back : (clock : Clock) (i : Item) → IsReportable i → fields_read clock (row_fields clock i) ≡ Ok i
fields_back clock (item.Frequency tick start end cycles microhertz flagged) h =
    row_back clock kind.Frequency 0 start end (Some tick) microhertz cycles flagged
    (omega arith) refl h.range.start
    h.range.end h.value h.count (tick_back kind.Frequency tick refl h.range.tick) refl
fields_back clock (item.Basic channel start end cycles value flagged) h =
    let c = h.range.others (omega arith) in
    row_back clock kind.Basic channel start end None value cycles flagged (omega (arith, c))
    (number_tests channel c)
    h.range.start h.range.end h.value h.count refl (basic_count cycles (h.range.basic refl))
fields_back clock (item.Short channel start end value flagged) h =
    let c = h.range.others (omega arith) in
    row_back clock kind.Short channel start end None value 15 flagged (omega (arith, c))
    (number_tests channel c)
    h.range.start h.range.end h.value h.count refl refl
fields_back clock (item.Ten channel tick start end basics value flagged) h =
    let c = h.range.others (omega arith) in
    row_back clock kind.Ten channel start end (Some tick) value basics flagged (omega (arith, c))
    (number_tests channel c) h.range.start h.range.end h.value h.count
    (tick_back kind.Ten tick refl h.range.tick) refl
fields_back clock (item.TwoHour channel tick start end value flagged) h =
    let c = h.range.others (omega arith) in
    row_back clock kind.TwoHour channel start end (Some tick) value 12 flagged (omega (arith, c))
    (number_tests channel c) h.range.start h.range.end h.value h.count
    (tick_back kind.TwoHour tick refl h.range.tick) refl
fields_back clock (item.Dip channel start end value is_open) h =
    let c = h.range.others (omega arith) in
    row_back clock kind.Dip channel start end None value 0 is_open (omega (arith, c)) (number_tests channel c)
    h.range.start h.range.end h.value h.count refl refl
fields_back clock (item.Swell channel start end value is_open) h =
    let c = h.range.others (omega arith) in
    row_back clock kind.Swell channel start end None value 0 is_open (omega (arith, c))
    (number_tests channel c)
    h.range.start h.range.end h.value h.count refl refl
fields_back clock (item.Interruption channel start end value is_open) h =
    let c = h.range.others (omega arith) in
    row_back clock kind.Interruption channel start end None value 0 is_open (omega (arith, c))
    (number_tests channel c)
    h.range.start h.range.end h.value h.count refl refl

-- ---- from the fields to the item

-- what was read of the first six
pub record IsSpanRead (clock : Clock) (word channel start end from to : Text) (span : RowSpan) : Type 0 where
  pub word_is : word ≡ kind_word span.kind
  pub channel_is : channel ≡ decimal span.channel
  pub start_is : start ≡ decimal span.start
  pub end_is : end ≡ decimal span.end
  pub from_is : from ≡ place_text clock span.start
  pub to_is : to ≡ place_text clock span.end
  pub of_kind : is_channel_of span.kind span.channel ≡ true
  pub first : span.start ≤ MOST_SAMPLES
  pub last : span.end ≤ MOST_SAMPLES

-- from the fields to what they say
pub span_is : (clock : Clock) (word channel start end from to : Text) (span : RowSpan) →
    span_read clock word channel start end from to ≡ Ok span →
    IsSpanRead clock word channel start end from to span
unfolding span_read
span_is clock word channel start end from to span is =
    let (k, word_ok, after_word) = bind_ok (ok_or (kind_read word) 1) _ span is in
    let (c, channel_ok, after_channel) = bind_ok (ok_or (passing (is_channel_of k)
    (number_read channel)) 2) _ span after_word in
    let (s, start_ok, after_start) = bind_ok (ok_or (passing is_place
    (number_read start)) 3) _ span after_channel in
    let (e, end_ok, after_end) = bind_ok (ok_or (passing is_place (number_read end)) 4) _ span after_start in
    let (f, from_ok, after_from) = bind_ok (provided (bytes_eq from
    (place_text clock s)) 5 s) _ span after_end in
    let (t, to_ok, done) = bind_ok (provided (bytes_eq to (place_text clock e)) 6 e) _ span after_from in
    let c_is = passing_is (is_channel_of k) (number_read channel) c (some_ok (passing (is_channel_of k)
    (number_read channel)) 2 c channel_ok) in
    let s_is = passing_is is_place (number_read start) s (some_ok (passing is_place
    (number_read start)) 3 s start_ok) in
    let e_is = passing_is is_place (number_read end) e (some_ok (passing is_place
    (number_read end)) 4 e end_ok) in
    let f_is = provided_ok (bytes_eq from (place_text clock s)) 5 s f from_ok in
    let t_is = provided_ok (bytes_eq to (place_text clock e)) 6 e t to_ok in
    let made : record { kind = k; channel = c; start = f; end = t } ≡ span = cc in
    let read : IsSpanRead clock word channel start end from to (record {
      kind = k;
      channel = c;
      start =
          f;
      end = t;
    }) =
    record {
      word_is = kind_is word k (some_ok (kind_read word) 1 k word_ok);
      channel_is = (number_is channel c c_is.0).0;
      start_is = (number_is start s s_is.0).0 ∙ ap decimal f_is.1;
      end_is = (number_is end e e_is.0).0 ∙ ap decimal t_is.1;
      from_is = (bytes_eq-Decides from (place_text clock s)).0 f_is.0 ∙ ap (place_text clock) f_is.1;
      to_is = (bytes_eq-Decides to (place_text clock e)).0 t_is.0 ∙ ap (place_text clock) t_is.1;
      of_kind = c_is.1;
      first = subst (λ n. n ≤ MOST_SAMPLES) f_is.1 (grind (arith, nat_tests, s_is.1));
      last = subst (λ n. n ≤ MOST_SAMPLES) t_is.1 (grind (arith, nat_tests, e_is.1));
    } in
    subst (IsSpanRead clock word channel start end from to) made read
