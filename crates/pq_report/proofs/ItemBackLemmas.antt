-- The item that was read has the fields that were read.
use Rattle.std.proofs.Common.{◌≡◌, ℕ, ◌^◌, ◌<◌, ◌≤◌, Bool, true, false, ◌&&◌, ◌==◌, nat_le, if◌then◌else◌, List, [], ◌∷◌, ℤ, pos, Option, Some, None, unwrap_or, decimal, ok_or, Ok, refl, sym, ap, ◌∙◌, subst, arith, ◌⊎◌, inl, inr}
use Rattle.std.proofs.lemmas.Bool.Decides.{nat_tests}
use Rattle.pq_items.specs.ItemRange.{IsTickInRange}
use Rattle.pq_items.specs.declared.item.Item.{Item}
use Rattle.pq_report.specs.ReportReading.{fields_read, has_ticks, is_channel_of, is_count_of, item_of, item_read, item_with, mark_read, number_read, passing, span_read, tick_read}
use Rattle.pq_report.specs.ReportText.{IsReportable, kind_word, mark_word, place_text, row_fields, tick_text}
use Rattle.pq_report.specs.declared.kind.ItemKind.{ItemKind}
use Rattle.pq_report.specs.declared.kind.ItemKind.TheVariants as kind
use Rattle.pq_report.specs.declared.row_items.RowSpan.{RowSpan}
use Rattle.pq_report.proofs.FieldBackLemmas.{front_true, mark_is, number_is, passing_is, tick_is}
use Rattle.pq_report.proofs.QuoteLemmas.{ten_fields}
use Rattle.pq_report.proofs.RowBackLemmas.{IsSpanRead, span_is}
use Rattle.pq_time.specs.declared.clock.Clock.{Clock}
use Rattle.pq_words.specs.Text.{Text}
use Rattle.pq_words.specs.declared.limits.TheConstants.{MOST_SAMPLES}
use Rattle.pq_words.proofs.ReadingLemmas.{bind_ok, some_ok}

-- what an item of a kind can say
record IsSayable (k : ItemKind) (channel start end : ℕ) (tick : Option ℤ) (value count : ℕ) : Type 0 where
  of_channel : is_channel_of k channel ≡ true
  first : start ≤ MOST_SAMPLES
  last : end ≤ MOST_SAMPLES
  ticks : has_ticks k ≡ true → (second : ℤ) × (tick ≡ Some second) × IsTickInRange second
  none : has_ticks k ≡ false → tick ≡ None
  of_count : is_count_of k count ≡ true
  value_small : value < 2 ^ 64
  count_small : count < 2 ^ 64

-- the ten fields of its values
abbrev value_fields : Clock → ItemKind → ℕ → ℕ → ℕ → Option ℤ → ℕ → ℕ → Bool → List Text
value_fields clock k channel start end tick value count mark = kind_word k ∷ decimal channel ∷ decimal start
    ∷ decimal end ∷ place_text clock start ∷ place_text clock end ∷ tick_text tick ∷ decimal value
    ∷ decimal count ∷ mark_word k mark ∷ []

some_whole : (t : Option ℤ) (s : ℤ) → t ≡ Some s → Some (unwrap_or t (pos 0)) ≡ t
some_whole t s is = rw is refl

whole_is : (t : Option ℤ) (s : ℤ) → t ≡ Some s → IsTickInRange s → IsTickInRange (unwrap_or t (pos 0))
whole_is t s is range = rw is range

equal_is : (n m : ℕ) → (n == m) ≡ true → n ≡ m
equal_is n m test = grind (arith, nat_tests, test)

number_in : (c : ℕ) → (nat_le 1 c && nat_le c 999) ≡ true → (0 < c) × (c ≤ 999)
number_in c test =
    let h = front_true (nat_le 1 c) (nat_le c 999) test in
    (grind (arith, nat_tests, h.0), grind (arith, nat_tests, h.1))

count_in : (n : ℕ) (b : Bool) → (n == 10) ≡ b → (if b then true else n == 12) ≡ true → (n ≡ 10) ⊎ (n ≡ 12)
count_in n true is test = inl (equal_is n 10 is)
count_in n false is test = inr (equal_is n 12 test)

-- its item has these fields, and can be reported
item_fields : (clock : Clock) (k : ItemKind) (channel start end : ℕ) (tick : Option ℤ) (value count : ℕ)
    (mark : Bool)
    → IsSayable k channel start end tick value count →
    (value_fields clock k channel start end tick value count mark
    ≡ row_fields clock (item_of k channel start end (unwrap_or tick (pos 0)) value count mark))
    × IsReportable (item_of k channel start end (unwrap_or tick (pos 0)) value count mark)
item_fields clock kind.Frequency channel start end tick value count mark h =
    let (second, is, range) = h.ticks refl in
    let none : channel ≡ 0 = equal_is channel 0 h.of_channel in (
      ten_fields refl (ap decimal none) refl refl refl refl (sym (ap tick_text
          (some_whole tick second is))) refl refl refl,
      record {
        range = record {
          start = h.first;
          end = h.last;
          frequency = λ _. refl;
          others = λ bad. absurd (omega (arith, bad));
          tick = whole_is tick second is range;
          basic = λ bad. absurd (omega (arith, bad));
        };
        value = h.value_small;
        count = h.count_small;
      },
    )
item_fields clock kind.Basic channel start end tick value count mark h = (
  ten_fields refl refl refl refl refl refl (ap tick_text (h.none refl)) refl refl refl,
  record {
    range = record {
      start = h.first;
      end = h.last;
      frequency = λ bad. absurd (omega (arith, bad));
      others = λ _. number_in channel h.of_channel;
      tick = tt;
      basic = λ _. count_in count (count == 10) refl h.of_count;
    };
    value = h.value_small;
    count = h.count_small;
  },
)
item_fields clock kind.Short channel start end tick value count mark h =
    let all : count ≡ 15 = equal_is count 15 h.of_count in (
      ten_fields refl refl refl refl refl refl (ap tick_text (h.none refl)) refl (ap decimal all) refl,
      record {
        range = record {
          start = h.first;
          end = h.last;
          frequency = λ bad. absurd (omega (arith, bad));
          others = λ _. number_in channel h.of_channel;
          tick = tt;
          basic = λ bad. absurd (omega (arith, bad));
        };
        value = h.value_small;
        count = omega arith;
      },
    )
item_fields clock kind.Ten channel start end tick value count mark h =
    let (second, is, range) = h.ticks refl in (
      ten_fields refl refl refl refl refl refl (sym (ap tick_text
          (some_whole tick second is))) refl refl refl,
      record {
        range = record {
          start = h.first;
          end = h.last;
          frequency = λ bad. absurd (omega (arith, bad));
          others = λ _. number_in channel h.of_channel;
          tick = whole_is tick second is range;
          basic = λ bad. absurd (omega (arith, bad));
        };
        value = h.value_small;
        count = h.count_small;
      },
    )
item_fields clock kind.TwoHour channel start end tick value count mark h =
    let (second, is, range) = h.ticks refl in
    let all : count ≡ 12 = equal_is count 12 h.of_count in (
      ten_fields refl refl refl refl refl refl (sym (ap tick_text (some_whole tick second is))) refl
          (ap decimal all) refl,
      record {
        range = record {
          start = h.first;
          end = h.last;
          frequency = λ bad. absurd (omega (arith, bad));
          others = λ _. number_in channel h.of_channel;
          tick = whole_is tick second is range;
          basic = λ bad. absurd (omega (arith, bad));
        };
        value = h.value_small;
        count = omega arith;
      },
    )
item_fields clock kind.Dip channel start end tick value count mark h =
    let all : count ≡ 0 = equal_is count 0 h.of_count in (
      ten_fields refl refl refl refl refl refl (ap tick_text (h.none refl)) refl (ap decimal all) refl,
      record {
        range = record {
          start = h.first;
          end = h.last;
          frequency = λ bad. absurd (omega (arith, bad));
          others = λ _. number_in channel h.of_channel;
          tick = tt;
          basic = λ bad. absurd (omega (arith, bad));
        };
        value = h.value_small;
        count = omega arith;
      },
    )
item_fields clock kind.Swell channel start end tick value count mark h =
    let all : count ≡ 0 = equal_is count 0 h.of_count in (
      ten_fields refl refl refl refl refl refl (ap tick_text (h.none refl)) refl (ap decimal all) refl,
      record {
        range = record {
          start = h.first;
          end = h.last;
          frequency = λ bad. absurd (omega (arith, bad));
          others = λ _. number_in channel h.of_channel;
          tick = tt;
          basic = λ bad. absurd (omega (arith, bad));
        };
        value = h.value_small;
        count = omega arith;
      },
    )
item_fields clock kind.Interruption channel start end tick value count mark h =
    let all : count ≡ 0 = equal_is count 0 h.of_count in (
      ten_fields refl refl refl refl refl refl (ap tick_text (h.none refl)) refl (ap decimal all) refl,
      record {
        range = record {
          start = h.first;
          end = h.last;
          frequency = λ bad. absurd (omega (arith, bad));
          others = λ _. number_in channel h.of_channel;
          tick = tt;
          basic = λ bad. absurd (omega (arith, bad));
        };
        value = h.value_small;
        count = omega arith;
      },
    )

-- an item that was read, from its span and the last four fields
item_is : (clock : Clock) (word channel start end from to tick value count mark : Text) (span : RowSpan)
    (i : Item) →
    IsSpanRead clock word channel start end from to span → item_read span tick value count mark ≡ Ok i →
    ((word ∷ channel ∷ start ∷ end ∷ from ∷ to ∷ tick ∷ value ∷ count ∷ mark ∷ []) ≡ row_fields clock i)
    × IsReportable i
unfolding item_read
item_is clock word channel start end from to tick value count mark span i s is =
    let (t, tick_ok, after_tick) = bind_ok (ok_or (tick_read span.kind tick) 7) _ i is in
    let (v, value_ok, after_value) = bind_ok (ok_or (number_read value) 8) _ i after_tick in
    let (c, count_ok, after_count) = bind_ok (ok_or (passing (is_count_of span.kind)
    (number_read count)) 9) _ i after_value in
    let (m, mark_ok, done) = bind_ok (ok_or (mark_read span.kind mark) 10) _ i after_count in
    let t_is = tick_is span.kind tick t (some_ok (tick_read span.kind tick) 7 t tick_ok) in
    let v_is = number_is value v (some_ok (number_read value) 8 v value_ok) in
    let c_passes = passing_is (is_count_of span.kind) (number_read count) c (some_ok (passing
    (is_count_of span.kind) (number_read count)) 9 c count_ok) in
    let c_is = number_is count c c_passes.0 in
    let m_is = mark_is span.kind mark m (some_ok (mark_read span.kind mark) 10 m mark_ok) in
    let made : item_with span t v c m ≡ i = cc in
    let says : IsSayable span.kind span.channel span.start span.end t v c = record {
      of_channel = s.of_kind;
      first = s.first;
      last = s.last;
      ticks = t_is.1;
      none = t_is.2;
      of_count = c_passes.1;
      value_small = v_is.1;
      count_small = c_is.1;
    } in
    let whole = item_fields clock span.kind span.channel span.start span.end t v c m says in (
      ten_fields s.word_is s.channel_is s.start_is s.end_is s.from_is s.to_is t_is.0 v_is.0 c_is.0 m_is
          ∙ whole.0 ∙ ap (row_fields clock) made,
      subst IsReportable made whole.1,
    )

-- a row that was read has the fields of its item, which can be reported
pub fields_are : (clock : Clock) (fields : List Text) (i : Item) → fields_read clock fields ≡ Ok i →
    (fields ≡ row_fields clock i) × IsReportable i
unfolding fields_read
fields_are clock [] i is = absurd cc
fields_are clock (a ∷ []) i is = absurd cc
fields_are clock (a ∷ b ∷ []) i is = absurd cc
fields_are clock (a ∷ b ∷ c ∷ []) i is = absurd cc
fields_are clock (a ∷ b ∷ c ∷ d ∷ []) i is = absurd cc
fields_are clock (a ∷ b ∷ c ∷ d ∷ e ∷ []) i is = absurd cc
fields_are clock (a ∷ b ∷ c ∷ d ∷ e ∷ f ∷ []) i is = absurd cc
fields_are clock (a ∷ b ∷ c ∷ d ∷ e ∷ f ∷ g ∷ []) i is = absurd cc
fields_are clock (a ∷ b ∷ c ∷ d ∷ e ∷ f ∷ g ∷ h ∷ []) i is = absurd cc
fields_are clock (a ∷ b ∷ c ∷ d ∷ e ∷ f ∷ g ∷ h ∷ j ∷ []) i is = absurd cc
fields_are clock (a ∷ b ∷ c ∷ d ∷ e ∷ f ∷ g ∷ h ∷ j ∷ k ∷ []) i is =
    let (span, span_ok, done) = bind_ok (span_read clock a b c d e f) _ i is in
    item_is clock a b c d e f g h j k span i (span_is clock a b c d e f span span_ok) done
fields_are clock (a ∷ b ∷ c ∷ d ∷ e ∷ f ∷ g ∷ h ∷ j ∷ k ∷ l ∷ fields) i is = absurd cc
