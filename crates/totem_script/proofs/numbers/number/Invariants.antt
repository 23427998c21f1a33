use Rattle.std.proofs.Common.{◌≡◌, ◌<◌, ◌≤◌, drop}
use Rattle.totem_script.specs.Numbers.{number_in, digits_in}
use Rattle.totem_script.proofs.numbers.number.Given as goal

abbrev pub invariant-loop-byte : goal.invariant-loop-byte
invariant-loop-byte l = (number_in l.fn.max l.fn.word ≡ digits_in l.fn.max l.number (drop l.byte-index l.digits))
    × (0 < l.number) × (l.number ≤ l.fn.max)
