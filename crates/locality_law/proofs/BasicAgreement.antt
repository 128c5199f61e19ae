-- Recordings whose lanes agree up to a place: their basic intervals that end by it are the same, flags
-- included, and so are the intervals that these make.
use Rattle.std.proofs.Common.{◌≡◌, ℕ, ◌-◌, ◌≤◌, Bool, true, false, cond, nat_le, List, [], ◌∷◌, length, map, filter, ℤ, Option, Some, None, refl, sym, ◌∙◌, ap, subst, arith}
use Rattle.std.specs.List.{AllByRecursion}
use Rattle.std.proofs.lemmas.Bool.Decides.{nat_tests}
use Rattle.aggregate.specs.Aggregation.{Basic, Part, short_groups, ten_groups, two_hour_groups}
use Rattle.event_detect.specs.declared.event.Event.{Event}
use Rattle.event_detect.specs.declared.limits.Limits.{Limits}
use Rattle.event_detect.specs.Flag.{is_touched}
use Rattle.lanes.specs.Lane.{recorded_runs}
use Rattle.lanes.proofs.KeyLaws.{recorded_cycles}
use Rattle.locality_law.specs.Locality.{AgreeUpTo, IsSameFrame}
use Rattle.locality_law.proofs.EventAgreement.{same_channels, touch_agrees}
use Rattle.locality_law.proofs.LaneAgreement.{bares_agree, early_runs}
use Rattle.pq_base.specs.Recorded.{Recorded, IsRecording, sample_count}
use Rattle.pq_sequence.specs.BasicInterval.{basic_runs, basic_span, begins_segment, cycles_of, fronts}
use Rattle.pq_sequence.specs.MeasuredRecording.{basic_over, basics_of, channel_count, clock_of, recorded_events, recorded_places, reference_cycles, shorts_of, tens_of, tick_places, two_hours_of}
use Rattle.pq_sequence.proofs.BasicLemmas.{some_cycles}
use Rattle.pq_time.specs.declared.clock.Clock.{Clock}
use Rattle.pq_words.proofs.PrefixLaws.{FailsOn}
use Rattle.settled_laws.specs.SettledIntervals.{basics_by, groups_by}
use Rattle.settled_laws.proofs.BuildLaws.{bare_of, bare_ordered, basics_built, built, built_same, dressed, linked_fail}
use Rattle.settled_laws.proofs.IntervalLaws.{basics_are_linked, intervals_settled}
use Rattle.settled_laws.proofs.ListLaws.{all_both, all_kept, all_mapped, all_pass, all_unmapped, filter_mapped, filter_none}
use Rattle.settled_laws.proofs.PrefixRuns.{runs_inside}
use Rattle.ten_twelve.specs.declared.span.Span.{Span}

-- ---- one recording

by_is : (e w : ℕ) → nat_le e w ≡ true → e ≤ w
by_is e w h = grind (arith, nat_tests, h)

fails_mapped : {X Y : Type 0} (p : Y → Bool) (f : X → Y) (xs : List X) → FailsOn (λ x. p (f x)) xs →
    FailsOn p (map f xs)
fails_mapped p f [] h = tt
fails_mapped p f (x ∷ xs) h =
    ((λ fails. all_mapped (λ y. p y ≡ false) f xs (h.0 fails)), fails_mapped p f xs h.1)

fails_unmapped : {X Y : Type 0} (p : Y → Bool) (f : X → Y) (xs : List X) → FailsOn p (map f xs) →
    FailsOn (λ x. p (f x)) xs
fails_unmapped p f [] h = tt
fails_unmapped p f (x ∷ xs) h =
    ((λ fails. all_unmapped (λ y. p y ≡ false) f xs (h.0 fails)), fails_unmapped p f xs h.1)

-- the part ends by w
abbrev ends_so : ℕ → Part → Bool
ends_so w p = nat_le p.end w

built_late : (w : ℕ) (places : List ℕ) (touched : ℕ → ℕ → Bool) (before : Option ℕ) (ps : List Part) →
    AllByRecursion (λ p. ends_so w p ≡ false) ps →
    AllByRecursion (λ b. nat_le b.part.end w ≡ false) (built places touched before ps)
built_late w places touched before [] h = tt
built_late w places touched before (p ∷ ps) h = (h.0, built_late w places touched (Some p.start) ps h.1)

-- those that end by w are built from the parts that do
built_early : (w : ℕ) (places : List ℕ) (touched : ℕ → ℕ → Bool) (before : Option ℕ) (ps : List Part) →
    FailsOn (ends_so w) ps →
    basics_by w (built places touched before ps) ≡ built places touched before (filter (ends_so w) ps)
built_early w places touched before [] h = refl
built_early w places touched before (p ∷ ps) h =
    at (ends_so w p) h.0 (built_early w places touched (Some p.start) ps h.1)
  where
    at : (b : Bool) → (b ≡ false → AllByRecursion (λ q. ends_so w q ≡ false) ps) →
        basics_by w (built places touched (Some p.start) ps)
        ≡ built places touched (Some p.start) (filter (ends_so w) ps) →
        cond b (dressed places touched before p ∷ basics_by w (built places touched (Some p.start) ps))
        (basics_by w (built places touched (Some p.start) ps))
        ≡ built places touched before (cond b (p ∷ filter (ends_so w) ps) (filter (ends_so w) ps))
    at true fails rest = ap (λ bs. dressed places touched before p ∷ bs) rest
    at false fails rest =
        filter_none (λ b. nat_le b.part.end w) (built places touched (Some p.start) ps)
        (built_late w places touched (Some p.start) ps (fails refl))
        ∙ sym (ap (built places touched before) (filter_none (ends_so w) ps (fails refl)))

module _ (r : Recorded) (given : IsRecording r) (events : List Event) (w : ℕ) where
  -- all basic intervals of the recording under some events
  abbrev pub all_basics : List Basic
  all_basics = basics_of r events (reference_cycles r)

  -- the spans and values of all, and of those that end by w
  abbrev pub bares : List Part
  bares = map (bare_of r (reference_cycles r)) (recorded_runs r)

  abbrev pub early_bares : List Part
  early_bares = map (bare_of r (reference_cycles r)) (early_runs w r)

  abbrev basic_at : Span → Basic
  basic_at run = basic_over r events (basic_span (reference_cycles r) run)
      (begins_segment (fronts (reference_cycles r) (recorded_places r)) run)

  bares_fail : FailsOn (ends_so w) bares
  bares_fail =
      fails_mapped (ends_so w) (bare_of r (reference_cycles r)) (recorded_runs r)
      (fails_unmapped (λ b. nat_le b.part.end w) basic_at (recorded_runs r)
      (linked_fail (recorded_places r) w all_basics (basics_are_linked r events given)))

  -- those that end by w are built from their spans and values, the ticks' places and what is touched
  pub basics_told : basics_by w all_basics ≡ built (recorded_places r) (is_touched events) None early_bares
  basics_told =
      ap (basics_by w) (basics_built r (reference_cycles r) (fronts (reference_cycles r) (recorded_places r))
      (recorded_places r) events (recorded_runs r) (basics_are_linked r events given))
      ∙ built_early w (recorded_places r) (is_touched events) None bares bares_fail
      ∙ ap (built (recorded_places r) (is_touched events) None)
      (filter_mapped (ends_so w) (bare_of r (reference_cycles r)) (recorded_runs r))

  -- their spans begin no later than they end, by w
  pub early_spans : AllByRecursion (λ p. (p.start ≤ p.end) × (p.end ≤ w)) early_bares
  unfolding basic_runs
  early_spans =
      let boundaries = reference_cycles r in
      let cycles : ℕ = cycles_of r.lf in
      let some = some_cycles r.lf cycles refl in
      subst (AllByRecursion (λ p. (p.start ≤ p.end) × (p.end ≤ w)))
      (filter_mapped (ends_so w) (bare_of r boundaries) (recorded_runs r))
      (all_both (λ p. p.start ≤ p.end) (λ p. ends_so w p ≡ true) (λ p. (p.start ≤ p.end) × (p.end ≤ w))
      (λ p order by. (order, by_is p.end w by)) (filter (ends_so w) bares)
      (all_kept (λ p. p.start ≤ p.end) (ends_so w) bares
      (bare_ordered r (sample_count r) cycles boundaries (recorded_runs r) (omega (arith, some))
      (recorded_cycles r given)
      (runs_inside (fronts boundaries (recorded_places r)) cycles (length boundaries - 1))))
      (all_pass (ends_so w) bares))

-- ---- two recordings

module _ (a b : Recorded) (w : ℕ) (given_a : IsRecording a) (given_b : IsRecording b)
    (frame : IsSameFrame a b) (agree : AgreeUpTo w a b) (limits : Limits) where
  pub same_clock : clock_of a ≡ clock_of b
  same_clock =
      let made : ℤ → ℕ → Clock = λ t0 rate. record { t0 = t0; rate = rate } in
      ap (λ t. made t a.rate) frame.t0 ∙ ap (made b.t0) frame.rate

  pub same_places : recorded_places a ≡ recorded_places b
  same_places =
      ap (λ c. tick_places c (sample_count a)) same_clock ∙ ap (tick_places (clock_of b)) frame.count

  abbrev basics_a : List Basic
  basics_a = basics_of a (recorded_events a limits) (reference_cycles a)

  abbrev basics_b : List Basic
  basics_b = basics_of b (recorded_events b limits) (reference_cycles b)

  touch_same : (ps : List Part) → AllByRecursion (λ p. (p.start ≤ p.end) × (p.end ≤ w)) ps →
      AllByRecursion (λ p. is_touched (recorded_events a limits) p.start p.end
      ≡ is_touched (recorded_events b limits) p.start p.end) ps
  touch_same [] h = tt
  touch_same (p ∷ ps) h =
      (touch_agrees a b w given_a given_b frame agree limits p.start p.end h.0.0 h.0.1, touch_same ps h.1)

  pub basics_agree : basics_by w basics_a ≡ basics_by w basics_b
  basics_agree =
      let ea = recorded_events a limits in
      let eb = recorded_events b limits in
      let early = map (bare_of a (reference_cycles a)) (early_runs w a) in
      basics_told a given_a ea w
      ∙ built_same (recorded_places a) (is_touched ea) (is_touched eb) None early
      (touch_same early (early_spans a given_a ea w))
      ∙ ap (λ places. built places (is_touched eb) None early) same_places
      ∙ ap (built (recorded_places b) (is_touched eb) None)
      (bares_agree w a b (same_channels a b w given_a given_b frame agree) given_a.channels.0 agree)
      ∙ sym (basics_told b given_b eb w)

  channels : channel_count a ≡ channel_count b
  channels = ap length frame.numbers

  shorts_same : shorts_of a (basics_by w basics_a) ≡ shorts_of b (basics_by w basics_b)
  shorts_same =
      ap (λ n. short_groups n (basics_by w basics_a)) channels
      ∙ ap (short_groups (channel_count b)) basics_agree

  pub shorts_agree : groups_by w (shorts_of a basics_a) ≡ groups_by w (shorts_of b basics_b)
  shorts_agree =
      intervals_settled.shorts a (recorded_events a limits) w given_a ∙ ap (groups_by w) shorts_same
      ∙ sym (intervals_settled.shorts b (recorded_events b limits) w given_b)

  tens_same : tens_of a (basics_by w basics_a) ≡ tens_of b (basics_by w basics_b)
  tens_same =
      ap (λ c. ten_groups c (sample_count a) (channel_count a) (basics_by w basics_a)) same_clock
      ∙ ap (λ n. ten_groups (clock_of b) n (channel_count a) (basics_by w basics_a)) frame.count
      ∙ ap (λ n. ten_groups (clock_of b) (sample_count b) n (basics_by w basics_a)) channels
      ∙ ap (ten_groups (clock_of b) (sample_count b) (channel_count b)) basics_agree

  pub tens_agree : groups_by w (tens_of a basics_a) ≡ groups_by w (tens_of b basics_b)
  tens_agree =
      intervals_settled.tens a (recorded_events a limits) w given_a ∙ ap (groups_by w) tens_same
      ∙ sym (intervals_settled.tens b (recorded_events b limits) w given_b)

  two_hours_same : two_hours_of a (tens_of a (basics_by w basics_a))
      ≡ two_hours_of b (tens_of b (basics_by w basics_b))
  two_hours_same =
      let tens = tens_of a (basics_by w basics_a) in
      ap (λ c. two_hour_groups c (sample_count a) (channel_count a) tens) same_clock
      ∙ ap (λ n. two_hour_groups (clock_of b) n (channel_count a) tens) frame.count
      ∙ ap (λ n. two_hour_groups (clock_of b) (sample_count b) n tens) channels
      ∙ ap (two_hour_groups (clock_of b) (sample_count b) (channel_count b)) tens_same

  pub two_hours_agree : groups_by w (two_hours_of a (tens_of a basics_a))
      ≡ groups_by w (two_hours_of b (tens_of b basics_b))
  two_hours_agree =
      intervals_settled.two_hours a (recorded_events a limits) w given_a ∙ ap (groups_by w) two_hours_same
      ∙ sym (intervals_settled.two_hours b (recorded_events b limits) w given_b)
