use Rattle.totem_pass_d.proofs.Common.{refl, slice_get_read, exact_ring}
use Rattle.totem_table.proofs.Exact.{exact_change}
use Rattle.totem_pass_d.proofs.Coming.{one_coming, keeps_comings}
use Rattle.totem_pass_d.proofs.comings.ComingsChangeRegister.enter_change.Goals as goal

pub returns-clause-sound : goal.returns-clause-sound
returns-clause-sound c =
    let at = slice_get_read c.args.log.now _ c.args.at c.index-log-at.result refl c.requires.within c.index-log-at.is in
    one_coming _ _ exact_ring exact_change c.args.self.now.rings c.insert.new.self c.args.self.now.indices c.insert-2.new.self _ _ _ _ _ _ (rw c.in-Conf.is at at) c.in-Regular.is c.in_ok-insert.ensures.updates c.in_ok-insert-2.ensures.updates

pub returns-clause-kept : goal.returns-clause-kept
returns-clause-kept c = keeps_comings _ _ exact_ring exact_change c.args.self.now.rings c.insert.new.self c.args.self.now.indices c.insert-2.new.self _ _ _ c.in_ok-insert.ensures.updates c.in_ok-insert-2.ensures.updates
