use Rattle.std.proofs.Common.{◌≡◌, ◌+◌, ◌*◌, ◌^◌, ◌<◌, true, take}
use Rattle.std.specs.Char.{is_ascii_digit}
use Rattle.std.specs.List.{list_all}
use Rattle.std.specs.Str.Parse.{digits_value_after}
use Rattle.pq_base.proofs.number.with_digits.Given as goal

-- the bytes so far are digits, and write the value after those of the front
abbrev pub invariant-loop-digit : goal.invariant-loop-digit
invariant-loop-digit l = record {
  number : l.value ≡ digits_value_after 10 l.fn.front (take l.digit-index l.text);
  digits : list_all is_ascii_digit (take l.digit-index l.text) ≡ true;
  below : l.value < (l.fn.front + 1) * 10 ^ l.digit-index;
}
