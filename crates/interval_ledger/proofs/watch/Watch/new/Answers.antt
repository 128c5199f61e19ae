use Rattle.std.proofs.Common.{refl}
use Rattle.interval_ledger.proofs.WatchLaws.{watch_starts}
use Rattle.interval_ledger.proofs.watch.Watch.new.Goals as goal

pub returns-clause-value : goal.returns-clause-value
returns-clause-value c = watch_starts _ c.new.ensures.value refl refl refl
