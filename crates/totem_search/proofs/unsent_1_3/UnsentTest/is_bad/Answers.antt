use Rattle.totem_judge_run.proofs.Common.{refl, slice_get_read}
use Rattle.totem_search.proofs.Loops.{no_is}
use Rattle.totem_search.proofs.Unsent.{unsent_told}
use Rattle.totem_search.proofs.unsent_1_3.UnsentTest.is_bad.Goals as goal

pub returns-then-not-is_sent : goal.returns-then-not-is_sent
returns-then-not-is_sent g c =
    let at = slice_get_read c.args.log.now _ c.args.at c.index-log-at.result refl c.requires.within c.index-log-at.is in
    unsent_told (g.Q.QuickTests.of c.args.self.now.quick.now) c.args.proc c.args.at c.index-log-at.result _ (rw c.requires.log at at) (rw (c.run.ensures, c.requires.log) at c.is_unsent.ensures)

pub returns-else-not-is_sent : goal.returns-else-not-is_sent
returns-else-not-is_sent g c =
    let at = slice_get_read c.args.log.now _ c.args.at c.index-log-at.result refl c.requires.within c.index-log-at.is in
    rw c.if-not-is_sent.false (unsent_told (g.Q.QuickTests.of c.args.self.now.quick.now) c.args.proc c.args.at c.index-log-at.result _ (rw c.requires.log at at) (no_is c.if-not-is_sent.ensures))
