use Rattle.totem_pass_d.proofs.Facts.{facts_of}
use Rattle.totem_pass_d.proofs.GapFaults.{rough_last}
use Rattle.totem_pass_d.proofs.gap_6_3.last_of.Goals as goal

pub returns-then-roughly : goal.returns-then-roughly
returns-then-roughly c =
    let s = c.args.stays.now in
    rough_last s.run.now.logs s.ring s.list.items _ _ c.args.follower.now (facts_of s c.requires.known) c.requires.follower c.last_common-common.ensures
