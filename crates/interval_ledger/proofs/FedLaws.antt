-- What a Poly and an aggregator are fed: the merged windows and the basic intervals of a recording, so many
-- of
-- them.
use Rattle.std.proofs.Common.{◌≡◌, ℕ, List, [], ◌∷◌, ◌++◌, Option, option_to_list, sym, subst}
use Rattle.aggregate.specs.declared.group.Out.{Out}
use Rattle.aggregate.specs.Aggregation.{Basic, short_groups, ten_groups, two_hour_groups}
use Rattle.aggregate.specs.Aggregator.{AggregatorView, Completes, HasSeen as HasSeenBasics, HasSetting, IsFed}
use Rattle.aggregate.specs.BasicOrder.{AreBasics}
use Rattle.event_detect.specs.declared.event.Event.{Event}
use Rattle.event_detect.specs.declared.kind.Kind.{Kind}
use Rattle.event_detect.specs.declared.limits.Limits.{Limits}
use Rattle.event_detect.specs.VoltageEvent.{IsLeftOpen}
use Rattle.interval_ledger.specs.Added.{IsCompleted}
use Rattle.polyphase.specs.Poly.{Ends, HasSeen, LeavesOpen, PolyView, answer_of}
use Rattle.polyphase.specs.PolyphaseEvent.{ChannelWindow, EndsAtWindow, conditions}
use Rattle.pq_base.specs.Recorded.{Recorded, sample_count}
use Rattle.pq_sequence.specs.MeasuredRecording.{channel_count, clock_of}
use Rattle.pq_time.specs.declared.clock.Clock.{Clock}

-- the answers of a Poly that has seen these windows are the events of the list
pub ends_so : (p : PolyView) (limits : Limits) (channels : ℕ) (fed : List ChannelWindow) (x : ChannelWindow)
    (answers : List (Option Event)) → HasSeen p fed → p.limits ≡ limits → p.channels ≡ channels →
    Ends p x answers → (kind : Kind) → EndsAtWindow kind limits channels fed x (answer_of kind answers)
ends_so p limits channels fed x answers seen same count ends kind =
    subst (λ n. EndsAtWindow kind limits n fed x (answer_of kind answers)) count
    (subst (λ l. EndsAtWindow kind l p.channels fed x (answer_of kind answers)) same (ends fed kind seen))

pub leaves_so : (p : PolyView) (limits : Limits) (channels n : ℕ) (fed : List ChannelWindow)
    (answers : List (Option Event)) → HasSeen p fed → p.limits ≡ limits → p.channels ≡ channels →
    LeavesOpen p n answers → (kind : Kind) →
    IsLeftOpen kind n (conditions kind limits channels fed) (answer_of kind answers)
leaves_so p limits channels n fed answers seen same count leaves kind =
    subst (λ m. IsLeftOpen kind n (conditions kind limits m fed) (answer_of kind answers)) count
    (subst (λ l. IsLeftOpen kind n (conditions kind l p.channels fed) (answer_of kind answers)) same
    (leaves fed kind seen))

module _ (a : AggregatorView) (r : Recorded)
    (set : HasSetting a (clock_of r) (sample_count r) (channel_count r)) where
  at_setting : (P : Clock → ℕ → ℕ → Type 0) → P a.clock a.samples a.channels →
      P (clock_of r) (sample_count r) (channel_count r)
  at_setting P h =
      subst (P (clock_of r) (sample_count r)) set.channels_are
      (subst (λ n. P (clock_of r) n a.channels) set.samples_are
      (subst (λ c. P c a.samples a.channels) set.clock_is h))

  -- what is fed of a recording is a list that the aggregator may be fed
  pub may_feed : (fed : List Basic) → AreBasics (clock_of r) (sample_count r) (channel_count r) fed →
      IsFed a fed
  may_feed fed are =
      subst (λ k. AreBasics a.clock a.samples k fed) (sym set.channels_are)
      (subst (λ k. AreBasics a.clock k (channel_count r) fed) (sym set.samples_are)
      (subst (λ k. AreBasics k (sample_count r) (channel_count r) fed) (sym set.clock_is) are))

  -- and the answers of one that has seen it are those that the basic interval completes
  pub completed_so : (fed : List Basic) (b : Basic) (out : Out) → HasSeenBasics a fed →
      AreBasics (clock_of r) (sample_count r) (channel_count r) (fed ++ b ∷ []) → Completes a b out →
      IsCompleted r fed b out
  completed_so fed b out seen are completes =
      let done = completes fed seen (may_feed (fed ++ b ∷ []) are) in
      let more = fed ++ b ∷ [] in
      record {
        short = at_setting
            (λ c n k. short_groups k more ≡ short_groups k fed ++ option_to_list out.short) done.short;
        ten = at_setting
            (λ c n k. ten_groups c n k more ≡ ten_groups c n k fed ++ option_to_list out.ten) done.ten;
        two = at_setting
            (λ c n k. two_hour_groups c n k (ten_groups c n k more)
            ≡ two_hour_groups c n k (ten_groups c n k fed) ++ option_to_list out.two) done.two;
      }
