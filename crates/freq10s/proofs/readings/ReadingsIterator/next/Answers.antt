use Rattle.std.proofs.Common.{◌≡◌, ◌∷◌, length, sym, ap, ◌∙◌, arith}
use Rattle.std.specs.List.{cons_option}
use Rattle.freq10s.specs.Readings.{readings_over}
use Rattle.freq10s.proofs.ReadingLaws.{readings_step, sound_later}
use Rattle.freq10s.proofs.readings.ReadingsIterator.next.Goals as goal

-- what is left is in order, as all was
pub invariant_of-self : goal.invariant_of-self
invariant_of-self c =
    let it = c.loop-interval.self-inside in
    sound_later it.rate it.cycles c.read.new.boundaries c.in-Some.interval it.intervals c.next.new.self
    c.in-Some.ensures.steps c.read.ensures.left c.loop-interval.invariant.sound

-- the reading over this interval is the first of those that were left, and so there is one less
pub returns-in-Some-read : goal.returns-in-Some-read
returns-in-Some-read c =
    let it = c.loop-interval.self-inside in
    let rest = readings_over it.rate c.read.new.boundaries c.next.new.self in
    let step : c.args.self.now ≡ c.in-Some-read.reading ∷ rest = sym c.loop-interval.invariant.same
    ∙ readings_step it.rate it.cycles c.read.new.boundaries c.in-Some.interval it.intervals c.next.new.self
    c.in-Some.ensures.steps c.read.ensures.left c.loop-interval.invariant.sound
    ∙ ap (λ o. cons_option o rest) (sym c.read.ensures.value ∙ c.in-Some-read.is) in
    record {
      steps = step;
      goes = record {
        on = λ _. (tt, tt, omega (arith, ap length step));
        keeps = tt;
        rests = λ _. tt;
      };
    }

-- an interval without a reading changes nothing
pub loop-interval-preserved : goal.loop-interval-preserved
loop-interval-preserved c =
    let it = c.loop-interval.self-inside in
    let rest = readings_over it.rate c.read.new.boundaries c.next.new.self in
    record {
      same = sym (readings_step it.rate it.cycles c.read.new.boundaries c.in-Some.interval it.intervals
          c.next.new.self c.in-Some.ensures.steps c.read.ensures.left c.loop-interval.invariant.sound
          ∙ ap (λ o. cons_option o rest) (sym c.read.ensures.value ∙ c.in_default-read.is))
          ∙ c.loop-interval.invariant.same;
      sound = sound_later it.rate it.cycles c.read.new.boundaries c.in-Some.interval it.intervals
          c.next.new.self c.in-Some.ensures.steps c.read.ensures.left c.loop-interval.invariant.sound;
    }
