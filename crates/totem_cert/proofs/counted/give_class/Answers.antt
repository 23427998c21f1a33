use Rattle.totem_cert.proofs.Common.{ap, ◌∙◌, RunRecord}
use Rattle.std.proofs.lemmas.Result.{on_ok_weaker}
use Rattle.totem_cert.proofs.ClassHeads.{next_in, next_at, no_end, has_head}
use Rattle.totem_cert.proofs.Giving.{given_alone}
use Rattle.totem_cert.proofs.LineFacts.{read_at}
use Rattle.totem_cert.proofs.counted.give_class.Goals as goal

pub give_heads-requires-clause-next : goal.give_heads-requires-clause-next
give_heads-requires-clause-next c = next_in _ _ _ _ _ (rw c.in-Class.is at c.requires.head) c.requires.next

pub number_head-requires-clause-more : goal.number_head-requires-clause-more
number_head-requires-clause-more c =
    let at = read_at _ _ _ _ c.index-as_slice-k.result (c.as_slice.ensures.value ∙ ap (λ (r : RunRecord). r.logs) c.run.view_is) c.requires.next.log_at c.index-as_slice-k.is in
    has_head _ _ _ _ _ c.requires.sound.fits at (rw c.in-Alone.is at c.requires.head).1

pub returns-in-Alone-clause-given : goal.returns-in-Alone-clause-given
returns-in-Alone-clause-given c =
    let runs = ap (λ (r : RunRecord). r.logs) c.run.view_is in
    let at = read_at _ _ _ _ c.index-as_slice-k.result (c.as_slice.ensures.value ∙ runs) c.requires.next.log_at c.index-as_slice-k.is in
    let head = rw c.in-Alone.is at c.requires.head in
    on_ok_weaker c.number_head.result (λ pushes. given_alone _ _ _ _ _ _ _ _ (rw runs at c.as_slice.ensures.run.rising) c.requires.table c.requires.sound at head.1 head.2 (next_at _ _ _ _ c.requires.next at) pushes) c.number_head.ensures.pushes

pub returns-in-End : goal.returns-in-End
returns-in-End c = absurd (no_end c.args.run.now.logs c.args.table.now c.args.lines.now.items c.args.k (rw (ap (λ (r : RunRecord). r.logs) c.run.view_is) at c.as_slice.ensures.run.rising) (rw c.in-End.is at c.requires.head) c.requires.next)
