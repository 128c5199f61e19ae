use Rattle.std.proofs.Common.{◌++◌, Bool, true, false, if◌then◌else◌, is_ok, sym, subst}
use Rattle.std.proofs.lemmas.List.Elements.{All-append}
use Rattle.std.specs.List.{All}
use Rattle.pq_words.specs.declared.limits.TheConstants.{MOST_MICROVOLTS}
use Rattle.pq_words.specs.Magnitude.{IsWithin}
use Rattle.comtrade_dat.proofs.channel.Channel.take_counts.Goals as goal

-- the samples so far, and with them those that are appended, where there is memory
pub invariant_of-self : goal.invariant_of-self
invariant_of-self c = record {
  limit = c.self.invariant.limit;
  quiet = subst (All (IsWithin MOST_MICROVOLTS)) (sym c.extend_from_slice.ensures.items)
      (at (is_ok c.extend_from_slice.result));
}
  where
    at : (b : Bool) → All (IsWithin MOST_MICROVOLTS)
        (if b then c.self.inside.samples.items ++ c.make_samples.new.places else c.self.inside.samples.items)
    at true = All-append (IsWithin MOST_MICROVOLTS) c.self.inside.samples.items c.make_samples.new.places
        c.self.invariant.quiet c.make_samples.ensures.quiet
    at false = c.self.invariant.quiet
