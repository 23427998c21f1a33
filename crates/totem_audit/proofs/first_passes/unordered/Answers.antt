use Rattle.std.proofs.Common.{◌≡◌, [], rules}
use Rattle.totem_audit.proofs.Firsts.{cycle_breaks}
use Rattle.totem_audit.proofs.first_passes.unordered.Goals as goal

pub returns : goal.returns
returns c =
    let faults = c.in_ok-faults.faults.items in
    let none : faults ≡ [] = search rules in
    cycle_breaks c.args.run.now.logs c.args.fault faults c.push.new.self.items c.in_ok-faults.ensures none c.requires (search rules)
