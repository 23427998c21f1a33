use Rattle.totem_judge_certificate.proofs.Common.{inr, arith, others_share}
use Rattle.totem_judge_certificate.proofs.Walking.{ahead_stands, head_is_above, step_passed, all_passed}
use Rattle.totem_judge_certificate.proofs.Passing.{is_next, too_late, clean_more, classes_more, all_clean}
use Rattle.totem_judge_certificate.proofs.walk.walk.Goals as goal
use Rattle.totem_judge_certificate.proofs.walk.walk.Goals.{then-not-branch-via-then-not-branch, then-not-branch-via-else-not-branch+then-not-pass}

pub returns-then-not-branch : goal.returns-then-not-branch
returns-then-not-branch c = elim c.then-not-branch.branch [
  | then-not-branch-via-then-not-branch w ↦
      too_late _ _ _ _ _ _ _ (ahead_stands _ _ _ _ _ _ _ c.requires.run.rising c.requires.matches c.entry_at-first.ensures.1) (head_is_above _ _ _ c.requires.rise c.loop-head.invariant.passed _ c.in-Some.ensures) c.loop-head.invariant.classes
      (rw w.if-not-branch.true at c.in_ok-note.ensures.new)
  | then-not-branch-via-else-not-branch+then-not-pass w ↦ inr (inr (others_share _ _ w.if-not-pass.ensures.one))
]

pub loop-head-preserved : goal.loop-head-preserved
loop-head-preserved c =
    let new = rw c.if-not-branch.false at c.in_ok-note.ensures.new in
    let next = is_next _ _ _ _ _ _ _ c.requires.run.rising c.requires.matches c.requires.rise c.loop-head.invariant.as_many c.loop-head.invariant.passed c.in-Some.ensures c.entry_at-first.ensures.1 c.if-not-pass.ensures.one in
    record {
      as_many = omega arith;
      passed = step_passed _ _ _ c.requires.rise c.loop-head.invariant.passed _ c.in-Some.ensures _ c.if-not-pass.ensures.stepped;
      classes = classes_more _ _ _ _ _ _ next _ c.loop-head.invariant.classes _ c.in_ok-note.ensures.added;
      clean = clean_more _ _ _ _ _ _ next _ c.loop-head.invariant.classes new c.loop-head.invariant.clean;
    }

pub returns : goal.returns
returns c = all_clean _ _ _ c.requires.run.rising c.requires.matches (all_passed _ _ _ _ c.requires.run.rising c.requires.matches c.loop-head.invariant.passed c.loop-head.invariant.as_many c.in_default.ensures) c.loop-head.invariant.clean
