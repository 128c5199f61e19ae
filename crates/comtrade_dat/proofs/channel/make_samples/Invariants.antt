use Rattle.std.proofs.Common.{◌≡◌, length, take, All}
use Rattle.comtrade_dat.specs.Channel.{samples_from}
use Rattle.pq_words.specs.declared.limits.TheConstants.{MOST_MICROVOLTS}
use Rattle.pq_words.specs.Magnitude.{IsWithin}
use Rattle.comtrade_dat.proofs.channel.make_samples.Given as goal

-- the samples of the records so far, each within the limit
abbrev pub invariant-loop-index : goal.invariant-loop-index
invariant-loop-index l = record {
  len : length l.places ≡ length l.initial.places;
  value : take l.index l.places ≡ samples_from l.fn.coefficients l.size l.position l.dat l.start l.index;
  quiet : All (IsWithin MOST_MICROVOLTS) (take l.index l.places);
}
