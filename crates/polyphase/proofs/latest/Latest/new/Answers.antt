-- The array has no value, so its first places have none.
use Rattle.std.proofs.Common.{None, ap, arith, replicate, sym, ◌≡◌, ◌∙◌, take, ℕ, List, Option, ◌≤◌}
use Rattle.std.proofs.lemmas.List.{take-replicate}
use Rattle.polyphase.specs.Latest.{LatestView, counts_of}
use Rattle.polyphase.proofs.LatestLaws.{no_value_counted}
use Rattle.polyphase.proofs.latest.Latest.new.Goals as goal

front : (channels : ℕ) → channels ≤ 16
    → take channels (replicate 16 None) ≡ replicate {A = Option ℕ} channels None
front channels few = take-replicate channels 16 None few

pub invariant_of-result : goal.invariant_of-result
invariant_of-result c = record {
  channels_in_range = c.requires;
  room = c.requires.1;
  counted =
      c.new.ensures
      ∙ no_value_counted c.args.limits c.args.channels
      ∙ ap (counts_of c.args.limits) (sym (front c.args.channels c.requires.1));
}

pub returns : goal.returns
returns c =
    let made : List (Option ℕ) → LatestView = λ vs. record { limits = c.args.limits; values = vs } in
    ap made (front c.args.channels c.requires.1)
