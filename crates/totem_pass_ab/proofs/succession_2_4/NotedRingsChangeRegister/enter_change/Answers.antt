use Rattle.totem_names.specs.contracts.conf.ConfIdOrd.TheImpl.Laws as conf
use Rattle.totem_pass_ab.proofs.Origins.{keeps_origins, enters_origin}
use Rattle.totem_pass_ab.proofs.succession_2_4.NotedRingsChangeRegister.enter_change.Goals as goal

pub returns-in_ok-insert-clause-entered : goal.returns-in_ok-insert-clause-entered
returns-in_ok-insert-clause-entered c =
    enters_origin _ c.args.self.now.latest c.insert.new.self _ _ _ _ _ _ _ _ _ c.noted_with-latest.result c.in-Regular.is c.in-Some.ensures.found c.in_ok-insert.ensures.updates c.noted_with-latest.ensures.entered

pub returns-in_ok-insert-clause-kept : goal.returns-in_ok-insert-clause-kept
returns-in_ok-insert-clause-kept c =
    keeps_origins _ conf.total-law c.args.self.now.latest c.insert.new.self _ c.noted_with-latest.result c.in_ok-insert.ensures.updates (rw (← c.get.ensures.value) c.noted_with-latest.ensures.kept)
