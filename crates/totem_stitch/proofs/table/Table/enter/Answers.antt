use Rattle.std.proofs.Common.{sym}
use Rattle.totem_stitch.proofs.Entering.{enters_other, enters_again, is_first, enters_last, enters_known, enters_new}
use Rattle.totem_stitch.proofs.table.Table.enter.Goals as goal

pub returns-in_default : goal.returns-in_default
returns-in_default c = enters_other c.args.log.now c.args.at c.args.self.now c.in_default.ensures.none c.requires.before

pub returns-then-contains_key : goal.returns-then-contains_key
returns-then-contains_key c = enters_again c.args.log.now c.args.at c.args.self.now c.in-Some.ring c.in-Some.ensures.found (sym c.if-contains_key.ensures) c.requires.before

pub returns-in_default-moves_next : goal.returns-in_default-moves_next
returns-in_default-moves_next c =
    let first = is_first c.args.log.now c.args.at c.args.self.now c.in-Some.ring c.in-Some.ensures.found (sym c.if-contains_key.ensures) c.requires.before in
    enters_last c.args.log.now c.args.at c.args.self.now c.insert.new.self c.in-Some.ring first c.in_default-moves_next.ensures.none c.in_ok-insert.ensures.updates c.requires.before

pub returns-then-contains_key-2 : goal.returns-then-contains_key-2
returns-then-contains_key-2 c =
    let first = is_first c.args.log.now c.args.at c.args.self.now c.in-Some.ring c.in-Some.ensures.found (sym c.if-contains_key.ensures) c.requires.before in
    enters_known c.args.log.now c.args.at c.args.self.now c.insert-2.new.self c.in-Some.ring c.in-Some-moves_next.conf first c.in-Some-moves_next.ensures.found c.in_ok-insert-2.ensures.updates
    (sym c.if-contains_key-2.ensures) c.requires.before

pub returns : goal.returns
returns c =
    let first = is_first c.args.log.now c.args.at c.args.self.now c.in-Some.ring c.in-Some.ensures.found (sym c.if-contains_key.ensures) c.requires.before in
    enters_new c.args.log.now c.args.at c.args.self.now c.insert-2.new.self c.insert-3.new.self c.in-Some.ring c.in-Some-moves_next.conf first c.in-Some-moves_next.ensures.found c.in_ok-insert-2.ensures.updates
    (sym c.if-contains_key-2.ensures) c.in_ok-insert-3.ensures.updates c.requires.before
