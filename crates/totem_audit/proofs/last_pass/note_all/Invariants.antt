use Rattle.std.proofs.Common.{vec_len}
use Rattle.totem_audit.specs.Jobs.{AreRight, AreKnown}
use Rattle.totem_audit.proofs.last_pass.note_all.Given as goal

abbrev pub invariant-loop-done : goal.invariant-loop-done
invariant-loop-done l = AreRight l.jobs.run.now.logs l.jobs.rings.items l.results.items × AreKnown l.jobs.run.now.logs l.jobs.rings.items l.known.items

abbrev pub decreases-loop-done : goal.decreases-loop-done
decreases-loop-done l = vec_len l.results
