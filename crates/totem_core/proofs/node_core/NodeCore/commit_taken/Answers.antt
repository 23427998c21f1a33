use Rattle.totem_core.proofs.Common.{ap, rules, Report, CommitView}
use Rattle.totem_core.proofs.Entering.{enters_ready}
use Rattle.totem_core.proofs.node_core.NodeCore.commit_taken.Goals as goal

pub entering-requires : goal.entering-requires
entering-requires c =
    rw c.in_ok-token-in-Entered.ensures
    (enters_ready c.args.token.now c.commit_view-view.result c.report-report.result c.args.self.now.installed c.args.self.now.me
    (c.commit_act.ensures.entered (search rules)) (ap (λ (v : CommitView). v.me) c.commit_view-view.ensures) (ap (λ (r : Report). r.ring) c.report-report.ensures))
