use Rattle.std.proofs.Common.{◌≡◌, ◌<◌, ℕ, zero, suc, List, [], ◌∷◌, ◌++◌, length, map, get_or, slice_get, Some, option_and_then, refl, sym, ◌∙◌, ap, arith}
use Rattle.std.specs.Option.{option_map_or}
use Rattle.std.proofs.lemmas.List.{length-set, take_more_set}
use Rattle.interval_ledger.specs.Channel.{ChannelView}
use Rattle.interval_ledger.specs.Posted.{root_at}
use Rattle.pq_words.specs.Steps.{numbers_below, numbers_from}
use Rattle.pq_words.proofs.StepLaws.{map_below_push}
use Rattle.interval_ledger.proofs.roots.roots.Goals as goal

got : {X : Type 0} (xs : List X) (k : ℕ) (d : X) → k < length xs → slice_get xs k ≡ Some (get_or xs k d)
got [] k d inside = absurd (omega (arith, inside))
got (x ∷ xs) zero d inside = refl
got (x ∷ xs) (suc k) d inside = got xs k d (omega (arith, inside))

-- the root of the channel at a position
root_is : (channels : List ChannelView) (k p : ℕ) (c : ChannelView) (v : ℕ) → p < length channels →
    get_or channels p c ≡ c → v ≡ option_map_or (λ x. x.value) (slice_get c.values.items k) 0 →
    v ≡ root_at channels k p
root_is channels k p c v inside same is =
    is
    ∙ ap
    (λ o. option_map_or (λ x. x.value)
    (option_and_then (λ (y : ChannelView). slice_get y.values.items k) o) 0)
    (sym (got channels p c inside ∙ ap Some same))

-- no channel yet
pub loop-position-init : goal.loop-position-init
unfolding numbers_from
loop-position-init c = record { room = refl; so_far = refl }

-- one channel more
pub loop-position-preserved : goal.loop-position-preserved
loop-position-preserved c =
    let channels = c.args.channels.now in
    let p = c.loop-position.position in
    let roots = c.loop-position.roots in
    let few = c.requires in
    let inside : p < length channels = omega (arith, c.loop-position-test.true) in
    let channel = c.index-channels-position.result in
    let same : get_or channels p channel ≡ channel = cc in
    let is = root_is channels c.args.k p channel c.root.result inside same c.root.ensures in
    let room = c.loop-position.invariant.room in
    record {
      room = length-set roots p c.root.result ∙ room;
      so_far = take_more_set roots p c.root.result (omega (arith, inside, room, few))
          ∙ ap (λ xs. xs ++ c.root.result ∷ []) c.loop-position.invariant.so_far
          ∙ ap (λ v. map (root_at channels c.args.k) (numbers_below p) ++ v ∷ []) is
          ∙ sym (map_below_push (root_at channels c.args.k) p);
    }
