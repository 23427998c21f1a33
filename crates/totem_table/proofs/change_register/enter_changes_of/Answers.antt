use Rattle.std.proofs.lemmas.Option.{slice_get-get_or}
use Rattle.totem_table.proofs.Entering.{keeps_on}
use Rattle.totem_table.proofs.Listing.{known_below, known_more, known_at_end}
use Rattle.totem_table.proofs.change_register.enter_changes_of.Goals as goal

pub enter_change-requires-clause-before : goal.enter_change-requires-clause-before
enter_change-requires-clause-before g c =
    let at = slice_get-get_or c.args.changes.now c.loop-number.number 0 c.loop-number-test.true in
    known_below (g.R.ChangeRegister.knows c.loop-number.register) c.args.proc c.args.log.now c.args.changes.now c.loop-number.number _ c.spares.ensures c.requires.lists at c.loop-number.invariant.entered

pub loop-number-preserved : goal.loop-number-preserved
loop-number-preserved g c =
    let at = slice_get-get_or c.args.changes.now c.loop-number.number 0 c.loop-number-test.true in
    let entered = c.in_ok-enter_change.ensures in
    let before = c.loop-number.invariant in
    record {
      entered = known_more _ _ c.args.proc c.args.log.now c.args.changes.now c.loop-number.number _ entered.kept at entered.entered before.entered;
      kept = keeps_on _ _ _ before.kept entered.kept;
      sound = record { each = λ run logs old. entered.sound.each run logs (before.sound.each run logs old) };
    }

pub returns-clause-entered : goal.returns-clause-entered
returns-clause-entered g c =
    known_at_end (g.R.ChangeRegister.knows c.loop-number.register) c.args.proc c.args.log.now c.args.changes.now c.loop-number.number c.spares-2.ensures c.requires.lists c.loop-number-test.false c.loop-number.invariant.entered
