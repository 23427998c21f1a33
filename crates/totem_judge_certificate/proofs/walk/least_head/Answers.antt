use Rattle.totem_judge_certificate.proofs.Common.{sym, ◌∙◌, arith}
use Rattle.totem_judge_certificate.proofs.Walking.{head_above, least_next, is_head, no_head, skips_line, takes_line, least_of_all}
use Rattle.totem_judge_certificate.proofs.walk.least_head.Goals as goal
use Rattle.totem_judge_certificate.proofs.walk.least_head.Goals.{in-Some+else-number-last-eq1, in_default}

pub loop-log-preserved : goal.loop-log-preserved
loop-log-preserved c = elim c.match-number_at.branch [
  | in-Some+else-number-last-eq1 w ↦ rw w.least-is (takes_line _ _ _ _ _ _ (is_head c.args.lines.now c.args.passed.now c.loop-log.log _ c.index-lines-log.result c.requires.as_many c.loop-log-test.true c.index-lines-log.is (sym c.number_at.ensures.number ∙ w.in-Some.is)) w.lesser.ensures c.loop-log.invariant)
  | in_default w ↦ rw w.least-is (skips_line _ _ _ _ (no_head c.args.lines.now c.args.passed.now c.loop-log.log c.index-lines-log.result c.requires.as_many c.loop-log-test.true c.index-lines-log.is (sym c.number_at.ensures.number ∙ w.in_default.is)) c.loop-log.invariant)
]

pub returns : goal.returns
returns c = least_of_all _ _ _ _ c.loop-log-test.false c.loop-log.invariant

pub overflow_sub-number : goal.overflow_sub-number
overflow_sub-number c = (let above = head_above _ _ _ _ _ c.requires.passed (is_head c.args.lines.now c.args.passed.now c.loop-log.log _ c.index-lines-log.result c.requires.as_many c.loop-log-test.true c.index-lines-log.is (sym c.number_at.ensures.number ∙ c.in-Some.is)) in omega arith)

pub returns-then-number-last-eq1 : goal.returns-then-number-last-eq1
returns-then-number-last-eq1 c = least_next _ _ c.args.last _ c.requires.passed (is_head c.args.lines.now c.args.passed.now c.loop-log.log _ c.index-lines-log.result c.requires.as_many c.loop-log-test.true c.index-lines-log.is (sym c.number_at.ensures.number ∙ c.in-Some.is)) (omega arith)
