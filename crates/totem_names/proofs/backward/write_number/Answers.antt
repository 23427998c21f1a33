use Rattle.std.proofs.Common.{ℕ, ◌<◌, ◌≤◌, ◌^◌, length, decimal, arith}
use Rattle.std.proofs.lemmas.Fmt.{length-decimal-le}
use Rattle.std.proofs.lemmas.Grind.{common_steps}
use Rattle.totem_names.proofs.backward.write_number.Goals as goal

-- a number of 32 bits has at most ten digits
short : (n : ℕ) → n < 2 ^ 32 → length (decimal n) ≤ 10
short n small = length-decimal-le 10 n (omega arith) (omega (arith, small)) (omega (arith, small))

pub write_digits-start-requires : goal.write_digits-start-requires
write_digits-start-requires c = grind (arith, short c.args.number c.ranges.number.fits, c.from.ensures, c.requires)

pub overflow_sub-start : goal.overflow_sub-start
overflow_sub-start c = grind (arith, short c.args.number c.ranges.number.fits, c.from.ensures, c.requires, c.write_digits-start.ensures.start)

pub returns-clause-within : goal.returns-clause-within
returns-clause-within c = grind (arith, short c.args.number c.ranges.number.fits, c.from.ensures, c.requires, c.write_digits-start.ensures.start)

pub returns-clause-written : goal.returns-clause-written
returns-clause-written c = grind (arith, common_steps, short c.args.number c.ranges.number.fits, c.from.ensures, c.requires, c.write_digits-start.ensures.start, c.write_digits-start.ensures.written)
