-- The buffer keeps its length, and a read that failed took nothing.
use Rattle.totem_names.proofs.Common.{◌≡◌, length, Keeps}
use Rattle.totem_names.proofs.retry.read_retrying.Given as goal

abbrev pub invariant-tries : goal.invariant-tries
invariant-tries g l = (length l.buffer ≡ length l.initial.buffer) × Keeps (g.R.Read.remaining l.initial.reader) (g.R.Read.remaining l.reader)
