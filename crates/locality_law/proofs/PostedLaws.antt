-- What is posted of the lanes settles them up to their reaches, and so tells the cut.
use Rattle.std.proofs.Common.{◌≡◌, ◌+◌, ◌*◌, ◌<◌, length, filter, slice_index, sym, ◌∙◌, ap, subst}
use Rattle.lanes.specs.Lane.{is_up_to, lane_count}
use Rattle.lanes.proofs.ReachLaws.{posted_settle}
use Rattle.locality_law.specs.Posted.{PostedCut, PostedSettle}
use Rattle.locality_law.proofs.LocalityLaw.{locality}

pub posts_settle : PostedSettle
posts_settle r lane k w given until = posted_settle r lane k w given until

pub posted_cut : PostedCut
posted_cut a b limits counts w given_a given_b frame until reach_a reach_b same =
    let count : lane_count a ≡ lane_count b = ap (λ ns. 2 * length ns + 1) frame.numbers in
    locality a b limits w given_a given_b frame until
    (λ lane inside.
    posted_settle a lane (slice_index counts lane) w given_a (reach_a lane inside)
    ∙ ap (filter (is_up_to w)) (same lane inside)
    ∙ sym (posted_settle b lane (slice_index counts lane) w given_b
    (reach_b lane (subst (λ n. lane < n) count inside))))
