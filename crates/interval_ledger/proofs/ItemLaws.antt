-- Items by their ends: which of those of intervals and events end by a place.
use Rattle.std.proofs.Common.{◌≡◌, ℕ, Bool, true, false, cond, nat_le, List, [], ◌∷◌, ◌++◌, map, filter, flat_map, refl, ◌∙◌, ap}
use Rattle.std.proofs.lemmas.List.Elements.{filter-append}
use Rattle.event_detect.specs.declared.event.Event.{Event}
use Rattle.event_detect.specs.declared.kind.Kind.{Kind}
use Rattle.event_detect.specs.declared.kind.Kind.TheVariants.{Dip, Swell, Interruption}
use Rattle.pq_base.specs.Recorded.{Recorded}
use Rattle.pq_items.specs.declared.item.Item.{Item}
use Rattle.pq_items.specs.ItemTable.{end_of}
use Rattle.pq_sequence.specs.SequentialResult.{event_item, item_of_kind, number_of}

-- the item ends by place w
abbrev pub ends_until : ℕ → Item → Bool
ends_until w i = nat_le (end_of i) w

-- ---- one item for each channel

module _ {X : Type 0} (w : ℕ) (end_at : X → ℕ) (item_of : X → ℕ → Item)
    (ends : (x : X) (c : ℕ) → end_of (item_of x c) ≡ end_at x) where
  one_filtered : (x : X) (b : Bool) (cs : List ℕ) → nat_le (end_at x) w ≡ b →
      filter (ends_until w) (map (item_of x) cs) ≡ cond b (map (item_of x) cs) []
  one_filtered x true [] is = refl
  one_filtered x false [] is = refl
  one_filtered x true (c ∷ cs) is =
      let rest = filter (ends_until w) (map (item_of x) cs) in
      ap (λ t. cond t (item_of x c ∷ rest) rest) (ap (λ n. nat_le n w) (ends x c) ∙ is)
      ∙ ap (λ is. item_of x c ∷ is) (one_filtered x true cs is)
  one_filtered x false (c ∷ cs) is =
      let rest = filter (ends_until w) (map (item_of x) cs) in
      ap (λ t. cond t (item_of x c ∷ rest) rest) (ap (λ n. nat_le n w) (ends x c) ∙ is)
      ∙ one_filtered x false cs is

  pub each_filtered : (cs : List ℕ) (xs : List X) →
      filter (ends_until w) (flat_map (λ x. map (item_of x) cs) xs)
      ≡ flat_map (λ x. map (item_of x) cs) (filter (λ x. nat_le (end_at x) w) xs)
  each_filtered cs [] = refl
  each_filtered cs (x ∷ xs) =
      filter-append (ends_until w) (map (item_of x) cs) (flat_map (λ x. map (item_of x) cs) xs)
      ∙ ap (λ is. filter (ends_until w) (map (item_of x) cs) ++ is) (each_filtered cs xs)
      ∙ at (nat_le (end_at x) w) refl
    where
      at : (b : Bool) → nat_le (end_at x) w ≡ b →
          filter (ends_until w) (map (item_of x) cs)
          ++ flat_map (λ x. map (item_of x) cs) (filter (λ x. nat_le (end_at x) w) xs)
          ≡ flat_map (λ x. map (item_of x) cs)
          (cond b (x ∷ filter (λ x. nat_le (end_at x) w) xs) (filter (λ x. nat_le (end_at x) w) xs))
      at true is = ap (λ is. is ++ flat_map (λ x. map (item_of x) cs) (filter (λ x. nat_le (end_at x) w) xs))
          (one_filtered x true cs is)
      at false is = ap (λ is. is ++ flat_map (λ x. map (item_of x) cs) (filter (λ x. nat_le (end_at x) w) xs))
          (one_filtered x false cs is)

-- ---- events

pub event_end : (r : Recorded) (e : Event) → end_of (event_item r e) ≡ e.end
event_end r e = at e.kind
  where
    at : (kind : Kind) → end_of (item_of_kind kind (number_of r e.channel) e) ≡ e.end
    at Dip = refl
    at Swell = refl
    at Interruption = refl
