-- What is measured of a recording is measured so, and the laws of cores are laws of every recording.
use Rattle.std.proofs.Common.{◌≡◌, ℕ, zero, suc, ◌+◌, ◌<◌, ◌≤◌, List, [], ◌∷◌, map, get_or, slice_get, Option, Some, IfSome, unwrap_or, sym, ◌∙◌, ap, subst, arith}
use Rattle.chain_core.specs.Core.{keys_of}
use Rattle.chain_core.specs.MeasuredOf.{keys_at, measured_of}
use Rattle.chain_core.proofs.GivenLaws.{sessions_are_given}
use Rattle.chain_core.proofs.OrderedItems.{ends_in_order}
use Rattle.chain_core.proofs.ReadLaws.{reads_are_right}
use Rattle.chain_core.proofs.SoundLaws.{cores_are_sound}
use Rattle.core_laws.specs.RecordedCore.{RecordedCoresAreSound, RecordedReadsAreRight, RecordedSessionsAreGiven, RecordingsAreMeasured}
use Rattle.core_laws.proofs.EndLaws.{ItemEnds, got, items_end}
use Rattle.event_detect.specs.declared.limits.Limits.{Limits}
use Rattle.lanes.specs.declared.lane_item.LaneItem.{LaneItem}
use Rattle.lanes.specs.Lane.{lane_count, lane_items, lane_key}
use Rattle.lanes.proofs.KeyLaws.{KeysRise, lane_rises}
use Rattle.pq_base.specs.Recorded.{Recorded, IsRecording, sample_count}
use Rattle.pq_items.specs.declared.item.Item.{Item}
use Rattle.pq_items.specs.ItemTable.{end_of}
use Rattle.pq_sequence.specs.SequentialResult.{sequential}
use Rattle.pq_words.specs.Steps.{numbers_from}

some_is : {X : Type 0} (x y : X) → Some x ≡ Some y → x ≡ y
some_is x y is = ap (λ o. unwrap_or o x) is

-- ---- the keys of a lane

-- where something holds of the keys of each lane and of none, it holds of those of any lane by number
each_of : (P : List ℕ → Type 0) (f : ℕ → List ℕ) (start count lane : ℕ) → P [] → ((k : ℕ) → P (f k)) →
    P (get_or (map f (numbers_from start count)) lane [])
unfolding numbers_from
each_of P f start zero lane none each = none
each_of P f start (suc count) zero none each = each start
each_of P f start (suc count) (suc lane) none each = each_of P f (start + 1) count lane none each

-- keys that rise from a place on
key_at : (n low : ℕ) (items : List LaneItem) (i a : ℕ) → KeysRise n low items →
    slice_get (map lane_key items) i ≡ Some a → (low < a) × (a ≤ n)
key_at n low [] i a h is = absurd (let bad : ⊥ = cc in bad)
key_at n low (x ∷ items) zero a h is =
    let same = some_is (lane_key x) a is in
    subst (λ k. (low < k) × (k ≤ n)) same (h.0, h.1)
key_at n low (x ∷ items) (suc i) a h is =
    let later = key_at n (lane_key x) items i a h.2 is in
    (omega (arith, h.0, later.0), later.1)

keys_rise : (n low : ℕ) (items : List LaneItem) (i j a b : ℕ) → KeysRise n low items → i ≤ j →
    slice_get (map lane_key items) i ≡ Some a → slice_get (map lane_key items) j ≡ Some b → a ≤ b
keys_rise n low [] i j a b h le at_i at_j = absurd (let bad : ⊥ = cc in bad)
keys_rise n low (x ∷ items) zero zero a b h le at_i at_j =
    let same = some_is a b (sym at_i ∙ at_j) in omega (arith, same)
keys_rise n low (x ∷ items) zero (suc j) a b h le at_i at_j =
    let same = some_is (lane_key x) a at_i in
    let later = key_at n (lane_key x) items j b h.2 at_j in
    omega (arith, same, later.0)
keys_rise n low (x ∷ items) (suc i) zero a b h le at_i at_j = absurd (omega arith)
keys_rise n low (x ∷ items) (suc i) (suc j) a b h le at_i at_j =
    keys_rise n (lane_key x) items i j a b h.2 (omega arith) at_i at_j

-- keys rise up to n
abbrev Rises : ℕ → List ℕ → Type 0
Rises n keys =
    ((i j a b : ℕ) → i ≤ j → slice_get keys i ≡ Some a → slice_get keys j ≡ Some b → a ≤ b)
    × ((i a : ℕ) → slice_get keys i ≡ Some a → a ≤ n)

none_rise : (n : ℕ) → Rises n []
none_rise n = (
  λ i j a b le at_i at_j. absurd (let bad : ⊥ = cc in bad),
  λ i a is. absurd (let bad : ⊥ = cc in bad),
)

lane_keys_rise : (r : Recorded) (lane : ℕ) → IsRecording r → Rises (sample_count r) (keys_at r lane)
lane_keys_rise r lane is =
    let h = lane_rises r is lane in (
      λ i j a b le at_i at_j. keys_rise (sample_count r) 0 (lane_items r lane) i j a b h le at_i at_j,
      λ i a there. (key_at (sample_count r) 0 (lane_items r lane) i a h there).1,
    )

recorded_keys_rise : (r : Recorded) (limits : Limits) (lane : ℕ) → IsRecording r →
    Rises (sample_count r) (keys_of (measured_of r limits) lane)
recorded_keys_rise r limits lane is =
    each_of (Rises (sample_count r)) (keys_at r) 0 (lane_count r) lane (none_rise (sample_count r))
    (λ k. lane_keys_rise r k is)

-- ---- the laws

item_ends : (r : Recorded) (limits : Limits) (k : ℕ) (x : Item) → IsRecording r →
    slice_get (sequential r limits) k ≡ Some x → end_of x ≤ sample_count r
item_ends r limits k x is there =
    subst (λ (o : Option Item). IfSome o (ItemEnds (sample_count r))) there
    (got (ItemEnds (sample_count r)) (sequential r limits) k (items_end r is limits))

pub recordings_are_measured : RecordingsAreMeasured
recordings_are_measured r limits is = record {
  rising = λ lane i j a b le at_i at_j. (recorded_keys_rise r limits lane is).0 i j a b le at_i at_j;
  within = λ lane i a there. (recorded_keys_rise r limits lane is).1 i a there;
  in_order = ends_in_order r limits;
  ended = λ k x there. item_ends r limits k x is there;
}

pub recorded_sessions_are_given : RecordedSessionsAreGiven
recorded_sessions_are_given r limits c index session v steps answers there run =
    sessions_are_given (measured_of r limits) c index session v steps answers (ends_in_order r limits) there
    run

pub recorded_cores_are_sound : RecordedCoresAreSound
recorded_cores_are_sound r limits c is reached =
    cores_are_sound (measured_of r limits) c (recordings_are_measured r limits is) reached

pub recorded_reads_are_right : RecordedReadsAreRight
recorded_reads_are_right r limits c session v is reached there =
    reads_are_right (measured_of r limits) c session v (recordings_are_measured r limits is) reached there
