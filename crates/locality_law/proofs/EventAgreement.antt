-- Recordings whose lanes agree up to a place: their events that end by it are the same, and touch the same
-- spans up to it.
use Rattle.std.proofs.Common.{◌≡◌, ℕ, suc, ◌<◌, ◌≤◌, List, [], ◌∷◌, length, map, filter, slice_index_or, refl, sym, ◌∙◌, ap, subst, arith}
use Rattle.event_detect.specs.declared.limits.Limits.{Limits}
use Rattle.event_detect.specs.Flag.{is_touched}
use Rattle.locality_law.specs.Locality.{AgreeUpTo, IsSameFrame}
use Rattle.locality_law.proofs.LaneAgreement.{windows_agree}
use Rattle.polyphase.specs.PolyphaseEvent.{all_polyphase_events, merged_windows}
use Rattle.pq_base.specs.Recorded.{Recorded, IsRecording, sample_count}
use Rattle.pq_sequence.specs.MeasuredRecording.{channel_count, channel_windows, recorded_events, windows_by_channel}
use Rattle.settled_laws.specs.SettledEvents.{begins_before, early_events, early_windows, events_by}
use Rattle.settled_laws.proofs.EventLaws.{events_settled}

mapped_twice : {X Y Z : Type 0} (f : Y → Z) (g : X → Y) (xs : List X) →
    map f (map g xs) ≡ map (λ x. f (g x)) xs
mapped_twice f g [] = refl
mapped_twice f g (x ∷ xs) = ap (λ ys. f (g x) ∷ ys) (mapped_twice f g xs)

-- lists as long as each other, with the same images by position
images_same : {X Y : Type 0} (f g : X → Y) (d : X) (xs ys : List X) → length xs ≡ length ys →
    ((k : ℕ) → k < length xs → f (slice_index_or xs k d) ≡ g (slice_index_or ys k d)) → map f xs ≡ map g ys
images_same f g d [] [] long same = refl
images_same f g d [] (y ∷ ys) long same = absurd (omega (arith, long))
images_same f g d (x ∷ xs) [] long same = absurd (omega (arith, long))
images_same f g d (x ∷ xs) (y ∷ ys) long same =
    ap (λ z. z ∷ map f xs) (same 0 (omega arith))
    ∙ ap (λ zs. g y ∷ zs) (images_same f g d xs ys (omega (arith, long))
    (λ k inside. same (suc k) (omega (arith, inside))))

module _ (a b : Recorded) (w : ℕ) (given_a : IsRecording a) (given_b : IsRecording b)
    (frame : IsSameFrame a b) (agree : AgreeUpTo w a b) where
  pub same_channels : channel_count a ≡ channel_count b
  same_channels = ap length frame.numbers

  channels_agree : map (filter (begins_before w)) (windows_by_channel a)
      ≡ map (filter (begins_before w)) (windows_by_channel b)
  channels_agree =
      mapped_twice (filter (begins_before w)) (channel_windows a) a.samples
      ∙ images_same (λ s. filter (begins_before w) (channel_windows a s))
      (λ s. filter (begins_before w) (channel_windows b s)) [] a.samples b.samples
      (given_a.paired ∙ same_channels ∙ sym given_b.paired)
      (λ c inside. windows_agree w a b same_channels agree c
      (subst (λ n. c < n) given_a.paired inside))
      ∙ sym (mapped_twice (filter (begins_before w)) (channel_windows b) b.samples)

  -- the windows that begin before w
  pub early_agree : early_windows a w ≡ early_windows b w
  early_agree =
      events_settled.merged a w ∙ ap merged_windows channels_agree ∙ sym (events_settled.merged b w)

  module _ (limits : Limits) where
    -- the events of these
    pub early_events_agree : early_events a limits w ≡ early_events b limits w
    early_events_agree =
        ap (λ n. all_polyphase_events limits n (sample_count a) (early_windows a w)) same_channels
        ∙ ap (λ n. all_polyphase_events limits (channel_count b) n (early_windows a w)) frame.count
        ∙ ap (all_polyphase_events limits (channel_count b) (sample_count b)) early_agree

    -- the events that end by w
    pub events_agree : events_by w (recorded_events a limits) ≡ events_by w (recorded_events b limits)
    events_agree =
        events_settled.ended a limits w given_a ∙ ap (events_by w) early_events_agree
        ∙ sym (events_settled.ended b limits w given_b)

    -- which spans up to w are touched
    pub touch_agrees : (start end : ℕ) → start ≤ end → end ≤ w →
        is_touched (recorded_events a limits) start end ≡ is_touched (recorded_events b limits) start end
    touch_agrees start end order until =
        events_settled.touched a limits w start end given_a order until
        ∙ ap (λ es. is_touched es start end) early_events_agree
        ∙ sym (events_settled.touched b limits w start end given_b order until)
