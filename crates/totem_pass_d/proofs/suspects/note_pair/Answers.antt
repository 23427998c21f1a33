use Rattle.std.proofs.Common.{arith}
use Rattle.totem_names.specs.contracts.message.MsgIdOrd.TheImpl as message
use Rattle.totem_pass_d.proofs.Facts.{facts_of}
use Rattle.totem_pass_d.proofs.CausalityFaults.{so_far_more, noted_all}
use Rattle.totem_pass_d.proofs.suspects.note_pair.Goals as goal

pub overflow_add-sender : goal.overflow_add-sender
overflow_add-sender c =
    let s = c.args.stays.now in
    let of = (facts_of s c.requires.known).each c.args.sender.now c.requires.sender in
    omega (arith, of.is.before, of.is.until, of.few)

pub entry_in-entry-requires-clause-inside : goal.entry_in-entry-requires-clause-inside
entry_in-entry-requires-clause-inside c =
    let s = c.args.stays.now in
    let of = (facts_of s c.requires.known).each c.args.sender.now c.requires.sender in
    let lt = c.back-test.true in
    record { after = omega arith; until = (let until = c.back.invariant.until in let end = of.is.until in omega arith) }

pub back-preserved : goal.back-preserved
back-preserved c =
    let s = c.args.stays.now in
    let of = facts_of s c.requires.known in
    so_far_more message.cmp-value.it c.args.suspects.now c.back.suspects c.note.new.suspects s.run.now.logs s.ring s.list.items c.args.sender.now c.args.receiver.now c.back.next _ c.back.early _ _ of c.requires.receiver
    (let lt = c.back-test.true in omega arith) c.entry_in-entry.ensures c.in_ok-note.ensures.noted c.in_ok-note.ensures.kept c.earlier-early.ensures c.back.invariant

pub returns-clause-noted : goal.returns-clause-noted
returns-clause-noted c = noted_all message.cmp-value.it c.args.suspects.now c.back.suspects _ _ c.args.sender.now c.args.receiver.now c.back.next c.back.early c.back-test.false c.back.invariant
