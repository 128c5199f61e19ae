-- What is posted stays posted, and what is due stays due, where the channels' values and windows stay.
use Rattle.std.proofs.Common.{◌≡◌, ℕ, zero, suc, ◌+◌, ◌*◌, ◌≤◌, List, [], ◌∷◌, length, map, Option, None, Some, option_map, option_and_then, IsSome, slice_get, slice_set, refl, sym, ◌∙◌, ap, subst, inl, inr, arith}
use Rattle.std.proofs.lemmas.List.{length-map}
use Rattle.event_detect.specs.declared.window.Window.{Window}
use Rattle.freq10s.specs.declared.reading.Reading.{Reading}
use Rattle.interval_ledger.specs.declared.channel.SpanValue.{SpanValue}
use Rattle.interval_ledger.specs.declared.next_due.Due.{Due}
use Rattle.interval_ledger.specs.declared.next_due.Due.TheVariants as due
use Rattle.interval_ledger.specs.Channel.{ChannelView}
use Rattle.interval_ledger.specs.NextDue.{BasicIsPast, HasAll, IsNextDue, LacksOne, value_at}
use Rattle.interval_ledger.specs.Posted.{AreFirst, ArePosted, AreWithinReach, value_item}
use Rattle.interval_ledger.specs.Queue.{Queued}
use Rattle.interval_ledger.proofs.HeadLaws.{get_mapped}
use Rattle.lanes.specs.Lane.{reach, sampler_items, windows_at}
use Rattle.pq_base.specs.Recorded.{Recorded}

inner : {X : Type 0} (x y : X) → Some x ≡ Some y → x ≡ y
inner x y e = cc

abbrev pub values_of : ChannelView → Queued SpanValue
values_of c = c.values

abbrev pub windows_of : ChannelView → Queued Window
windows_of c = c.windows

-- an element is put in place of one that f can't tell from it
pub map_set : {X : Type 0} (f : ChannelView → X) (xs : List ChannelView) (i : ℕ) (y v : ChannelView) →
    slice_get xs i ≡ Some v → f y ≡ f v → map f (slice_set xs i y) ≡ map f xs
map_set f [] i y v is same = absurd (let bad : ⊥ = cc in bad)
map_set f (x ∷ xs) zero y v is same = ap (λ z. z ∷ map f xs) (same ∙ ap f (sym (inner x v is)))
map_set f (x ∷ xs) (suc i) y v is same = ap (λ zs. f x ∷ zs) (map_set f xs i y v is same)

module _ (xs ys : List ChannelView) (same : map values_of ys ≡ map values_of xs) where
  pub as_many : length ys ≡ length xs
  as_many = sym (length-map ys values_of) ∙ ap length same ∙ length-map xs values_of

  value_by : (channels : List ChannelView) (k p : ℕ) → value_at channels k p
      ≡ option_and_then (λ (q : Queued SpanValue). slice_get q.items k) (slice_get (map values_of channels) p)
  value_by channels k p =
      at (slice_get channels p)
      ∙ ap (option_and_then (λ (q : Queued SpanValue). slice_get q.items k))
      (sym (get_mapped values_of p channels))
    where
      at : (o : Option ChannelView) → option_and_then (λ (c : ChannelView). slice_get c.values.items k) o
          ≡ option_and_then (λ (q : Queued SpanValue). slice_get q.items k) (option_map values_of o)
      at None = refl
      at (Some c) = refl

  pub value_same : (k p : ℕ) → value_at xs k p ≡ value_at ys k p
  value_same k p =
      value_by xs k p
      ∙ ap
      (λ (qs : List (Queued SpanValue)). option_and_then (λ (q : Queued SpanValue). slice_get q.items k)
      (slice_get qs p)) (sym same)
      ∙ sym (value_by ys k p)

  has_kept : (k : ℕ) (v : SpanValue) → HasAll xs k v → HasAll ys k v
  has_kept k v has = record {
    each = λ p inside. subst IsSome (value_same k p) (has.each p (omega (arith, inside, as_many)));
    is_first = sym (value_same k 0) ∙ has.is_first;
  }

  lacks_kept : (k : ℕ) → LacksOne xs k → LacksOne ys k
  lacks_kept k lacks =
      (lacks.0, (let a = lacks.1 in omega (arith, a, as_many)), sym (value_same k lacks.0) ∙ lacks.2)

  past_kept : (k w : ℕ) → BasicIsPast xs k w → BasicIsPast ys k w
  past_kept k w (inl lacks) = inl (lacks_kept k lacks)
  past_kept k w (inr past) = inr (past.0, has_kept k past.0 past.1, past.2)

  -- what is due next
  pub due_kept : (basics : ℕ) (readings : List Reading) (merged w : ℕ) (found : Option Due) →
      IsNextDue xs basics readings merged w found → IsNextDue ys basics readings merged w found
  due_kept basics readings merged w None is = (past_kept basics w is.0, is.1)
  due_kept basics readings merged w (Some (due.Basic first)) is = (has_kept basics first is.0, is.1, is.2)
  due_kept basics readings merged w (Some (due.Reading reading)) is =
      (is.0, is.1, past_kept basics reading.end is.2)

-- the channel at a position, as it was
record Twin (xs : List ChannelView) (k : ℕ) (c : ChannelView) : Type 0 where
  pub own : ChannelView
  pub at : slice_get xs k ≡ Some own
  pub values : own.values ≡ c.values
  pub windows : own.windows ≡ c.windows

module _ (r : Recorded) (xs ys : List ChannelView) (readings : List Reading)
    (values : map values_of ys ≡ map values_of xs) (windows : map windows_of ys ≡ map windows_of xs) where
  seen_as : {X : Type 0} (f : ChannelView → X) → map f ys ≡ map f xs → (k : ℕ) (c : ChannelView) →
      slice_get ys k ≡ Some c → option_map f (slice_get xs k) ≡ Some (f c)
  seen_as f same k c is =
      sym (get_mapped f k xs) ∙ ap (λ vs. slice_get vs k) (sym same) ∙ get_mapped f k ys
      ∙ ap (option_map f) is

  twin : (k : ℕ) (c : ChannelView) → slice_get ys k ≡ Some c → Twin xs k c
  twin k c is =
      at (slice_get xs k) refl (seen_as values_of values k c is) (seen_as windows_of windows k c is)
    where
      at : (o : Option ChannelView) → slice_get xs k ≡ o → option_map values_of o ≡ Some c.values →
          option_map windows_of o ≡ Some c.windows → Twin xs k c
      at None found e f = absurd (let bad : ⊥ = cc in bad)
      at (Some d) found e f = record {
        own = d;
        at = found;
        values = inner d.values c.values e;
        windows = inner d.windows c.windows f;
      }

  -- what is posted
  pub posted_so : ArePosted r xs readings → ArePosted r ys readings
  posted_so posted = record {
    many = as_many xs ys values ∙ posted.many;
    each = λ p c is.
        let t = twin p c is in
        let own = posted.each p t.own t.at in
        record {
          values = subst
              (λ (q : Queued SpanValue). AreFirst (map value_item q.items) (sampler_items r p)) t.values
              own.values;
          windows = subst (λ (q : Queued Window). AreFirst q.items (windows_at r p)) t.windows own.windows;
        };
    frequency = posted.frequency;
  }

  -- what is within the reaches
  pub within_so : (w : ℕ) → AreWithinReach r xs readings w → AreWithinReach r ys readings w
  within_so w within = record {
    samplers = λ p c is.
        let t = twin p c is in
        subst (λ (q : Queued SpanValue). w ≤ reach r (2 * p) (length q.items)) t.values
        (within.samplers p t.own t.at);
    detectors = λ p c is.
        let t = twin p c is in
        subst (λ (q : Queued Window). w ≤ reach r (2 * p + 1) (length q.items)) t.windows
        (within.detectors p t.own t.at);
    frequency = within.frequency;
  }
