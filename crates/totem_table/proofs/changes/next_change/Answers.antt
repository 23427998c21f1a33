use Rattle.totem_table.proofs.Common.{◌+◌, arith, slice_get-get_or}
use Rattle.totem_table.proofs.Changing.{next_listed, none_follows}
use Rattle.totem_table.proofs.changes.next_change.Goals as goal

pub returns-then-number-changes : goal.returns-then-number-changes
returns-then-number-changes c =
    let list = c.args.changes.now in
    next_listed c.args.log.now list c.args.number _ _ c.requires.lists (slice_get-get_or list c.args.number 0 c.requires.within) (slice_get-get_or list (c.args.number + 1) 0 c.if-number-changes.true)

pub returns-else-number-changes : goal.returns-else-number-changes
returns-else-number-changes c =
    let list = c.args.changes.now in
    none_follows c.args.log.now list c.args.number _ c.requires.lists (slice_get-get_or list c.args.number 0 c.requires.within) (let h = c.if-number-changes.false in omega arith)
