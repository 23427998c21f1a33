use Rattle.totem_pass_d.proofs.Common.{arith, slice_get-get_or}
use Rattle.totem_pass_d.proofs.Facts.{facts_of}
use Rattle.totem_pass_d.proofs.Reaching.{members_before, members_after}
use Rattle.totem_pass_d.proofs.stays.Stays.members_at.Goals as goal
use Rattle.totem_pass_d.proofs.stays.Stays.members_at.Goals.{then-at-stay, else-at-stay}

pub offset_bounds-stay-change : goal.offset_bounds-stay-change
offset_bounds-stay-change c =
    let s = c.args.self.now in
    let is = ((facts_of s c.requires.known).each c.args.stay.now c.requires.among).of in
    elim c.if-at-stay.branch [
      | then-at-stay w ↦ omega (arith, is.few, is.is.before, is.is.until, is.is.within, w.change-is)
      | else-at-stay w ↦ omega (arith, is.few, is.is.before, is.is.until, is.is.within, w.change-is)
    ]

pub bounds-stay-change : goal.bounds-stay-change
bounds-stay-change c =
    let s = c.args.self.now in
    let is = ((facts_of s c.requires.known).each c.args.stay.now c.requires.among).of in
    elim c.if-at-stay.branch [
      | then-at-stay w ↦ omega (arith, is.is.before, is.is.until, is.is.within, w.change-is)
      | else-at-stay w ↦ omega (arith, is.is.within, w.change-is, w.if-at-stay.false, c.requires.inside.until)
    ]

pub returns : goal.returns
returns c =
    let s = c.args.self.now in
    let is = ((facts_of s c.requires.known).each c.args.stay.now c.requires.among).of in
    let log = c.args.stay.now.log.now in
    let at = slice_get-get_or log c.if-at-stay.change c.index-stay-change.result (elim c.if-at-stay.branch [
      | then-at-stay w ↦ omega (arith, is.is.before, is.is.until, is.is.within, w.change-is)
      | else-at-stay w ↦ omega (arith, is.is.within, w.change-is, w.if-at-stay.false, c.requires.inside.until)
    ]) in
    rw (c.members_of.ensures, ← is.log)
    (elim c.if-at-stay.branch [
      | then-at-stay w ↦ members_before log s.ring _ _ _ c.args.at _ _ is.is c.requires.inside.after w.if-at-stay.true w.change-is at
      | else-at-stay w ↦ members_after log s.ring _ _ _ c.args.at _ _ is.is w.if-at-stay.false c.requires.inside.until w.change-is at
    ])
