-- What lanes that agree up to a place have in common: the basic values, windows and readings up to it.
use Rattle.std.proofs.Common.{◌≡◌, ℕ, zero, suc, ◌+◌, ◌*◌, ◌<◌, ◌≤◌, Bool, true, false, nat_le, nat_lt, List, [], ◌∷◌, map, filter, drop, get_or, slice_index, slice_range, refl, sym, ◌∙◌, ap, subst, arith}
use Rattle.std.proofs.lemmas.Bool.Decides.{nat_tests}
use Rattle.std.proofs.lemmas.List.Elements.{filter_agree}
use Rattle.aggregate.specs.Aggregation.{Part}
use Rattle.fixed_rms.specs.Root.{rms}
use Rattle.lanes.specs.declared.lane_item.LaneItem.{LaneItem}
use Rattle.lanes.specs.declared.lane_item.LaneItem.TheVariants as item
use Rattle.lanes.specs.Lane.{is_up_to, recorded_readings, recorded_runs, settled, value_of, windows_at}
use Rattle.lanes.proofs.LaneLaws.{detector_lane, frequency_lane, same_readings, same_windows, sampler_lane}
use Rattle.locality_law.specs.Locality.{AgreeUpTo}
use Rattle.pq_base.specs.Recorded.{Recorded, samples_at}
use Rattle.pq_sequence.specs.BasicInterval.{basic_span}
use Rattle.pq_sequence.specs.MeasuredRecording.{channel_count, reference_cycles, roots_over}
use Rattle.pq_words.specs.Steps.{numbers_below, numbers_from}
use Rattle.settled_laws.specs.SettledEvents.{begins_before}
use Rattle.settled_laws.proofs.BuildLaws.{bare_of}
use Rattle.settled_laws.proofs.ListLaws.{filter_mapped}
use Rattle.ten_twelve.specs.declared.span.Span.{Span}

start_in : LaneItem → ℕ
start_in (item.Value start end value) = start
start_in (item.Window w) = 0
start_in (item.Reading reading) = 0

end_in : LaneItem → ℕ
end_in (item.Value start end value) = end
end_in (item.Window w) = 0
end_in (item.Reading reading) = 0

value_in : LaneItem → ℕ
value_in (item.Value start end value) = value
value_in (item.Window w) = 0
value_in (item.Reading reading) = 0

-- the runs of cycles whose basic intervals end by place w
abbrev pub early_runs : ℕ → Recorded → List Span
early_runs w r = filter (λ run. nat_le (slice_index (reference_cycles r) run.end) w) (recorded_runs r)

before_is : (a w : ℕ) → nat_le (a + 1) w ≡ nat_lt a w
before_is a w = at (nat_lt a w) refl
  where
    at : (b : Bool) → nat_lt a w ≡ b → nat_le (a + 1) w ≡ b
    at true h = grind (arith, nat_tests, h)
    at false h = grind (arith, nat_tests, h)

-- ---- one recording: what a lane has up to w

module _ (w : ℕ) (r : Recorded) where
  sampler_settled : (c : ℕ) → c < channel_count r →
      settled r (2 * c) w ≡ map (value_of r c) (early_runs w r)
  sampler_settled c inside =
      ap (filter (is_up_to w)) (sampler_lane r c inside)
      ∙ filter_mapped (is_up_to w) (value_of r c) (recorded_runs r)

  detector_settled : (c : ℕ) → c < channel_count r →
      settled r (2 * c + 1) w ≡ map item.Window (filter (begins_before w) (windows_at r c))
  detector_settled c inside =
      ap (filter (is_up_to w)) (detector_lane r c inside)
      ∙ filter_mapped (is_up_to w) item.Window (windows_at r c)
      ∙ ap (map item.Window) (filter_agree (λ v. nat_le (v.start + 1) w) (begins_before w)
      (λ v. before_is v.start w) (windows_at r c))

  frequency_settled : settled r (2 * channel_count r) w
      ≡ map item.Reading (filter (λ g. nat_le g.end w) (recorded_readings r))
  frequency_settled =
      ap (filter (is_up_to w)) (frequency_lane r)
      ∙ filter_mapped (is_up_to w) item.Reading (recorded_readings r)

-- ---- two recordings

module _ (w : ℕ) (a b : Recorded) (same_channels : channel_count a ≡ channel_count b)
    (agree : AgreeUpTo w a b) where
  inside_b : (c : ℕ) → c < channel_count a → c < channel_count b
  inside_b c inside = subst (λ n. c < n) same_channels inside

  values_agree : (c : ℕ) → c < channel_count a →
      map (value_of a c) (early_runs w a) ≡ map (value_of b c) (early_runs w b)
  values_agree c inside =
      sym (sampler_settled w a c inside) ∙ agree (2 * c) (omega (arith, inside))
      ∙ sampler_settled w b c (inside_b c inside)

  -- the windows of a channel that begin before w
  pub windows_agree : (c : ℕ) → c < channel_count a →
      filter (begins_before w) (windows_at a c) ≡ filter (begins_before w) (windows_at b c)
  windows_agree c inside =
      same_windows (filter (begins_before w) (windows_at a c)) (filter (begins_before w) (windows_at b c))
      (sym (detector_settled w a c inside) ∙ agree (2 * c + 1) (omega (arith, inside))
      ∙ detector_settled w b c (inside_b c inside))

  -- the readings that end by w
  pub readings_agree : filter (λ g. nat_le g.end w) (recorded_readings a)
      ≡ filter (λ g. nat_le g.end w) (recorded_readings b)
  readings_agree =
      same_readings (filter (λ g. nat_le g.end w) (recorded_readings a))
      (filter (λ g. nat_le g.end w) (recorded_readings b))
      (sym (frequency_settled w a) ∙ agree (2 * channel_count a) (omega arith)
      ∙ ap (λ n. settled b (2 * n) w) same_channels ∙ frequency_settled w b)

-- ---- the spans and values of the samplers

first_of_two : {X : Type 0} (d x y : X) (xs ys : List X) → x ∷ xs ≡ y ∷ ys → x ≡ y
first_of_two d x y xs ys e = ap (λ zs. get_or zs 0 d) e

rest_of_two : {X : Type 0} (x y : X) (xs ys : List X) → x ∷ xs ≡ y ∷ ys → xs ≡ ys
rest_of_two x y xs ys e = ap (drop 1) e

mapped_same : (f g : ℕ → ℕ) (low n : ℕ) → ((c : ℕ) → low ≤ c → c < low + n → f c ≡ g c) →
    map f (numbers_from low n) ≡ map g (numbers_from low n)
unfolding numbers_from
mapped_same f g low zero same = refl
mapped_same f g low (suc n) same =
    ap (λ x. x ∷ map f (numbers_from (low + 1) n)) (same low (omega arith) (omega arith))
    ∙ ap (λ xs. g low ∷ xs) (mapped_same f g (low + 1) n
    (λ c from below. same c (omega (arith, from)) (omega (arith, below))))

length_clash : (x : LaneItem) (xs : List LaneItem) → [] ≡ x ∷ xs → ⊥
length_clash x xs e = cc

-- two values that are the same have the same span and root
record IsSameValue (a b : Recorded) (c : ℕ) (x y : Span) : Type 0 where
  start : start_in (value_of a c x) ≡ start_in (value_of b c y)
  end : end_in (value_of a c x) ≡ end_in (value_of b c y)
  value : value_in (value_of a c x) ≡ value_in (value_of b c y)

value_same : (a b : Recorded) (c : ℕ) (x y : Span) → value_of a c x ≡ value_of b c y → IsSameValue a b c x y
value_same a b c x y e = record { start = ap start_in e; end = ap end_in e; value = ap value_in e }

module _ (n : ℕ) (a b : Recorded) (some : 0 < n) (count_a : channel_count a ≡ n)
    (count_b : channel_count b ≡ n) where
  abbrev bare_a : Span → Part
  bare_a x = bare_of a (reference_cycles a) x

  abbrev bare_b : Span → Part
  bare_b x = bare_of b (reference_cycles b) x

  bare_same : (x y : Span) → ((c : ℕ) → c < n → value_of a c x ≡ value_of b c y) → bare_a x ≡ bare_b y
  unfolding start_in end_in value_in
  bare_same x y same =
      let made : ℕ → ℕ → List ℕ → Part = λ s e vs.
      record { start = s; end = e; values = vs; flagged = false } in
      let first = value_same a b 0 x y (same 0 some) in
      let span_a = basic_span (reference_cycles a) x in
      let span_b = basic_span (reference_cycles b) y in
      let at : Recorded → Span → ℕ → ℕ = λ r span position.
      rms (slice_range (samples_at r position) span.start span.end) in
      let values : roots_over a span_a ≡ roots_over b span_b =
      ap (λ k. map (at a span_a) (numbers_below k)) count_a
      ∙ mapped_same (at a span_a) (at b span_b) 0 n
      (λ c from below. (value_same a b c x y (same c (omega (arith, below)))).value)
      ∙ sym (ap (λ k. map (at b span_b) (numbers_below k)) count_b) in
      ap (λ s. made s span_a.end (roots_over a span_a)) first.start
      ∙ ap (λ e. made span_b.start e (roots_over a span_a)) first.end
      ∙ ap (made span_b.start span_b.end) values

  bares_same : (xs ys : List Span) → ((c : ℕ) → c < n → map (value_of a c) xs ≡ map (value_of b c) ys) →
      map bare_a xs ≡ map bare_b ys
  bares_same [] [] same = refl
  bares_same [] (y ∷ ys) same =
      absurd (length_clash (value_of b 0 y) (map (value_of b 0) ys) (same 0 some))
  bares_same (x ∷ xs) [] same =
      absurd (length_clash (value_of a 0 x) (map (value_of a 0) xs) (sym (same 0 some)))
  bares_same (x ∷ xs) (y ∷ ys) same =
      let first : (c : ℕ) → c < n → value_of a c x ≡ value_of b c y = λ c inside.
      first_of_two (value_of a c x) (value_of a c x) (value_of b c y) (map (value_of a c) xs)
      (map (value_of b c) ys) (same c inside) in
      let rest : (c : ℕ) → c < n → map (value_of a c) xs ≡ map (value_of b c) ys = λ c inside.
      rest_of_two (value_of a c x) (value_of b c y) (map (value_of a c) xs) (map (value_of b c) ys)
      (same c inside) in
      ap (λ p. p ∷ map bare_a xs) (bare_same x y first)
      ∙ ap (λ ps. bare_b y ∷ ps) (bares_same xs ys rest)

-- the spans and values of the basic intervals that end by w
pub bares_agree : (w : ℕ) (a b : Recorded) → channel_count a ≡ channel_count b → 0 < channel_count a →
    AgreeUpTo w a b
    → map (bare_of a (reference_cycles a)) (early_runs w a)
    ≡ map (bare_of b (reference_cycles b)) (early_runs w b)
bares_agree w a b same some agree =
    bares_same (channel_count a) a b some refl (sym same) (early_runs w a) (early_runs w b)
    (λ c inside. values_agree w a b same agree c inside)
