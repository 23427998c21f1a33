use Rattle.totem_names.specs.contracts.conf.ConfIdOrd.TheImpl.Laws as conf
use Rattle.totem_table.specs.contracts.keys.ChangeOrd.TheImpl.Laws as change
use Rattle.totem_pass_ab.proofs.Forming.{keeps_changes}
use Rattle.totem_pass_ab.proofs.configuration_2_3.FormsChangeRegister.enter_change.Goals as goal

pub returns-clause-kept : goal.returns-clause-kept
returns-clause-kept c =
    keeps_changes _ _ change.total-law conf.total-law c.args.self.now.changes.values c.meet.new.self.values c.args.self.now.members.values c.meet-2.new.self.values
    _ _ _ _ c.in_ok-meet.ensures.met c.in_ok-meet-2.ensures.met
