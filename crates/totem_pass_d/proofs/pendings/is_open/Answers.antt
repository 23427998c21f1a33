use Rattle.totem_pass_d.proofs.Facts.{facts_of}
use Rattle.totem_pass_d.proofs.WhatIsPending.{excused_open, not_excused_open}
use Rattle.totem_pass_d.proofs.pendings.is_open.Goals as goal

pub has_failed-requires : goal.has_failed-requires
has_failed-requires c =
    let is = (facts_of c.args.stays.now c.requires.known).each c.args.stay.now c.requires.among in
    rw is.log (c.requires.known.meets.placed c.args.stay.now.proc)

pub returns-then-is_excused : goal.returns-then-is_excused
returns-then-is_excused c =
    let s = c.args.stays.now in
    let is = ((facts_of s c.requires.known).each c.args.stay.now c.requires.among).of in
    excused_open s.run.now.logs s.ring c.args.stay.now _ is (c.is_excused.ensures.0 c.if-is_excused.true) c.has_failed.ensures.failed c.has_failed.ensures.goes_on

pub returns-else-is_excused : goal.returns-else-is_excused
returns-else-is_excused c =
    let s = c.args.stays.now in
    let is = ((facts_of s c.requires.known).each c.args.stay.now c.requires.among).of in
    not_excused_open s.run.now.logs s.ring c.args.stay.now _ is c.if-is_excused.false c.is_excused.ensures
