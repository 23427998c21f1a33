use Rattle.std.proofs.Common.{◌+◌, ◌*◌}
use Rattle.totem_audit.proofs.sharing.+halves.Given as goal

abbrev pub decreases-these : goal.decreases-these
decreases-these g l = 2 * l.half + 1

abbrev pub decreases-those : goal.decreases-those
decreases-those g l = 2 * l.others + 1

abbrev pub decreases-work_together : goal.decreases-work_together
decreases-work_together g l = 2 * l.workers
