use Rattle.std.proofs.Common.{arith}
use Rattle.totem_pass_d.proofs.Facts.{facts_of}
use Rattle.totem_pass_d.proofs.CausalityFaults.{delivered_at, undelivered}
use Rattle.totem_pass_d.proofs.suspects.earlier.Goals as goal

pub returns-in-Some : goal.returns-in-Some
returns-in-Some c =
    let s = c.args.stays.now in
    let of = facts_of s c.requires.known in
    let least = c.min.ensures in
    delivered_at s.run.now.logs s.ring s.list.items c.args.receiver.now _ _ _ _ c.in-Some.at _ _ of c.in-Send.is c.in-Some.ensures.found (omega arith) (omega arith)

pub returns-in-None : goal.returns-in-None
returns-in-None c =
    let s = c.args.stays.now in
    undelivered s.run.now.logs s.ring c.args.receiver.now _ _ _ _ _ c.in-Send.is c.in-None.ensures.none
