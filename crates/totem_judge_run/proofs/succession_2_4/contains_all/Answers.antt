use Rattle.std.proofs.Common.{refl}
use Rattle.totem_judge_run.proofs.Decisions.{all_in_itself, all_more, all_whole, all_not}
use Rattle.totem_judge_run.proofs.succession_2_4.contains_all.Goals as goal

pub returns-then-is : goal.returns-then-is
returns-then-is c = (λ _. all_in_itself c.args.members.now c.args.others.now (c.if-is.ensures.0 refl), λ _. refl)

pub returns-then-not-contains : goal.returns-then-not-contains
returns-then-not-contains c =
    all_not c.args.members.now c.args.others.now c.loop-proc.proc-index c.proc-item.result (rw c.as_slice-proc-items.ensures.value at c.loop-proc-test.true)
    (rw c.as_slice-proc-items.ensures.value at c.proc-item.is) (λ h. let t = c.if-not-contains.ensures.1 h in cc)

pub loop-proc-preserved : goal.loop-proc-preserved
loop-proc-preserved c = all_more c.args.members.now c.as_slice-proc-items.result.now c.loop-proc.proc-index c.proc-item.result c.loop-proc-test.true c.proc-item.is (c.if-not-contains.ensures.0 refl) c.loop-proc.invariant

pub returns : goal.returns
returns c = (λ _. all_whole c.args.members.now c.args.others.now c.loop-proc.proc-index (rw c.as_slice-proc-items.ensures.value at c.loop-proc-test.false) (rw c.as_slice-proc-items.ensures.value at c.loop-proc.invariant), λ _. refl)
