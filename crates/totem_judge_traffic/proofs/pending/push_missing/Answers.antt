use Rattle.std.proofs.Common.{◌≡◌, length, slice_get, Some, arith}
use Rattle.totem_judge_traffic.proofs.Rowing.{read_at}
use Rattle.totem_judge_traffic.proofs.Missing.{missing_none, missing_more, missing_kept}
use Rattle.totem_judge_traffic.proofs.pending.push_missing.Goals.{then-not-contains+in_ok-push_one, else-not-contains}
use Rattle.totem_judge_traffic.proofs.pending.push_missing.Goals as goal

pub loop-at-init : goal.loop-at-init
loop-at-init c = missing_none c.args.sent.now c.args.log c.args.proc c.args.out.now.items

pub loop-at-preserved : goal.loop-at-preserved
loop-at-preserved c =
    let at : slice_get c.args.sent.now c.loop-at.at ≡ Some c.index-sent-at.result = read_at c.args.sent.now c.loop-at.at c.index-sent-at.result c.loop-at-test.true c.index-sent-at.is in
    elim c.if-not-contains.branch [
      | then-not-contains+in_ok-push_one w ↦ rw w.out-is (rw w.in_ok-push_one.ensures (missing_more c.args.sent.now c.loop-at.at c.args.log c.args.proc c.index-sent-at.result c.args.out.now.items c.loop-at.out.items at
          (λ has. (let yes = c.contains.ensures.1 has in let no = w.if-not-contains.true in cc)) c.loop-at.invariant))
      | else-not-contains w ↦ rw w.out-is (missing_kept c.args.sent.now c.loop-at.at c.args.log c.args.proc c.index-sent-at.result c.args.out.now.items c.loop-at.out.items at
          (c.contains.ensures.0 w.if-not-contains.false) c.loop-at.invariant)
    ]

pub returns : goal.returns
returns c =
    let end : c.loop-at.at ≡ length c.args.sent.now = omega arith in
    rw end at c.loop-at.invariant
