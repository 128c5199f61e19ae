-- What the windows that begin before a place tell of a recording's events is what all windows do.
use Rattle.std.proofs.Common.{◌≡◌, ℕ, ◌<◌, ◌≤◌, true, nat_lt, List, [], ◌++◌, sym, ◌∙◌, ap, inl, inr, arith}
use Rattle.std.specs.List.{AllByRecursion, list_any}
use Rattle.std.proofs.lemmas.Bool.{cases_lt}
use Rattle.std.proofs.lemmas.Bool.Decides.{nat_tests}
use Rattle.std.proofs.lemmas.List.{append-nil}
use Rattle.event_detect.specs.declared.limits.Limits.{Limits}
use Rattle.event_detect.specs.declared.window.Window.{Window}
use Rattle.event_detect.specs.Flag.{is_touched}
use Rattle.polyphase.specs.PolyphaseEvent.{ChannelWindow, all_polyphase_events, kinds}
use Rattle.pq_base.specs.Recorded.{Recorded, IsRecording, sample_count}
use Rattle.pq_sequence.specs.MeasuredRecording.{channel_count, recorded_events, recorded_windows, windows_by_channel}
use Rattle.settled_laws.specs.SettledEvents.{EventsAreSettled, is_early, early_windows, later_windows, early_events, events_by}
use Rattle.settled_laws.specs.Touch.{touches_now}
use Rattle.settled_laws.proofs.EarlyLaws.{IsWindow, merged_all, merged_early, merged_rest, merged_splits}
use Rattle.settled_laws.proofs.ListLaws.{all_from, all_pass, filter_whole}
use Rattle.settled_laws.proofs.SettledLaws.{IsFrom, all_settled, all_touched}
use Rattle.settled_laws.proofs.TouchedLaws.{all_touched_now}
use Rattle.settled_laws.proofs.WindowBounds.{IsWithin, channels_within}

starts_before : (n w : ℕ) (v : Window) → n ≤ w → IsWithin n v → nat_lt v.start w ≡ true
starts_before n w v past h =
    let a = h.0 in
    let b = h.1 in
    let less : v.start < w = omega (arith, past, a, b) in
    grind (arith, nat_tests, less)

begun : (w : ℕ) (m : ChannelWindow) → is_early w m ≡ true → m.window.start < w
begun w m is = grind (arith, nat_tests, is)

module _ (r : Recorded) (is : IsRecording r) where
  -- the other windows begin at the place or after it, and end after it
  pub later_from : (w : ℕ) → AllByRecursion (IsFrom w) (later_windows r w)
  later_from w =
      merged_rest w (windows_by_channel r)
      (all_from (AllByRecursion (IsWithin (sample_count r))) (AllByRecursion IsWindow)
      (λ ws. all_from (IsWithin (sample_count r)) IsWindow (λ v h. h.0) ws) (windows_by_channel r)
      (channels_within r is))

  -- all windows begin before the end of the recording
  pub early_whole : (w : ℕ) → sample_count r ≤ w → early_windows r w ≡ recorded_windows r
  early_whole w past =
      filter_whole (is_early w) (recorded_windows r)
      (all_from (λ m. IsWithin (sample_count r) m.window) (λ m. is_early w m ≡ true)
      (λ m h. starts_before (sample_count r) w m.window past h) (recorded_windows r)
      (merged_all (IsWithin (sample_count r)) (windows_by_channel r) (channels_within r is)))

  pub early_begun : (w : ℕ) → AllByRecursion (λ m. m.window.start < w) (early_windows r w)
  early_begun w = all_from (λ m. is_early w m ≡ true) (λ m. m.window.start < w) (begun w) (early_windows r w)
      (all_pass (is_early w) (recorded_windows r))

  module _ (limits : Limits) where
    -- a fact of the events, over all windows and over some
    abbrev Over : (X : Type 0) → (List ChannelWindow → X) → ℕ → Type 0
    Over X f w = f (recorded_windows r) ≡ f (early_windows r w)

    -- where it is the same over windows so far and any later ones, it is so over all
    over_early : {X : Type 0} (f : List ChannelWindow → X) (told : X) (w : ℕ) →
        ((more : List ChannelWindow) → AllByRecursion (IsFrom w) more → f (early_windows r w ++ more)
        ≡ told) →
        Over X f w
    over_early f told w same =
        ap f (merged_splits w (windows_by_channel r))
        ∙ same (later_windows r w) (later_from w)
        ∙ sym (same [] tt)
        ∙ ap f (append-nil (early_windows r w))

    ended : (w : ℕ) → events_by w (recorded_events r limits) ≡ events_by w (early_events r limits w)
    ended w =
        let n = sample_count r in
        elim (cases_lt w n) [
          | inl less ↦
              over_early (λ ms. events_by w (all_polyphase_events limits (channel_count r) n ms)) _ w
              (λ more ahead. all_settled limits (channel_count r) n w (early_windows r w) more less ahead)
          | inr past ↦
              ap (λ ms. events_by w (all_polyphase_events limits (channel_count r) n ms))
              (sym (early_whole w past))
        ]

    touched : (w start end : ℕ) → start ≤ end → end ≤ w →
        is_touched (recorded_events r limits) start end ≡ is_touched (early_events r limits w) start end
    touched w start end order until =
        let n = sample_count r in
        elim (cases_lt w n) [
          | inl less ↦
              over_early (λ ms. is_touched (all_polyphase_events limits (channel_count r) n ms) start end) _ w
              (λ more ahead. all_touched limits (channel_count r) n w start end (early_windows r w) more less
              ahead (omega (arith, order, until)) until)
          | inr past ↦
              ap (λ ms. is_touched (all_polyphase_events limits (channel_count r) n ms) start end)
              (sym (early_whole w past))
        ]

    at_once : (start end : ℕ) → start < end → end ≤ sample_count r →
        is_touched (recorded_events r limits) start end
        ≡ list_any (λ kind. touches_now kind limits (channel_count r) start (early_windows r end)) kinds
    at_once start end order inside =
        ap (λ ms. is_touched (all_polyphase_events limits (channel_count r) (sample_count r) ms) start end)
        (merged_splits end (windows_by_channel r))
        ∙ all_touched_now limits (channel_count r) (sample_count r) start end (early_windows r end)
        (later_windows r end) order inside (early_begun end) (later_from end)

pub events_settled : EventsAreSettled
events_settled = record {
  first = λ r w. merged_splits w (windows_by_channel r);
  merged = λ r w. merged_early w (windows_by_channel r);
  ended = λ r limits w is. ended r is limits w;
  touched = λ r limits w start end is. touched r is limits w start end;
  at_once = λ r limits start end is. at_once r is limits start end;
}
