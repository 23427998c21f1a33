use Rattle.totem_judge_certificate.proofs.Common.{inl, refl, ◌∙◌, arith, slice_get_read, slice_get-get_or}
use Rattle.totem_judge_certificate.proofs.Walking.{is_head, ahead_number, ahead_before, as_before, own_ahead, ones_more, sharing, steps, stays}
use Rattle.totem_judge_certificate.proofs.walk.pass.Goals as goal
use Rattle.totem_judge_certificate.proofs.walk.pass.Goals.{then-log-head+else-not-is_of_class_of, else-log-head}

pub loop-log-preserved-then-not-is_number_at : goal.loop-log-preserved-then-not-is_number_at
loop-log-preserved-then-not-is_number_at c =
    let so_far = c.loop-log.invariant in
    let at_line = slice_get_read c.args.lines.now _ c.loop-log.log c.index-lines-log.result refl c.loop-log-test.true c.index-lines-log.is in
    let at_passed = slice_get-get_or c.loop-log.passed c.loop-log.log 0 (let many = so_far.stepped.as_many in omega arith) in
    record {
      ones = ones_more _ _ _ _ _ _ _ (λ f y a. absurd (let t = c.if-not-is_number_at.ensures.number.1 (ahead_number _ _ _ _ _ _ _ _ _ at_line (as_before _ _ _ _ _ _ _ so_far.stepped (omega arith) at_passed) a) in cc)) so_far.ones;
      stepped = stays _ _ _ _ _ _ _ at_line at_passed (λ is. let t = c.if-not-is_number_at.ensures.number.1 is in cc) so_far.stepped;
    }

pub entry_at-entry-requires-clause-head : goal.entry_at-entry-requires-clause-head
entry_at-entry-requires-clause-head c =
    is_head c.args.lines.now c.loop-log.passed c.loop-log.log _ c.index-lines-log.result (c.loop-log.invariant.stepped.as_many ∙ c.requires.as_many) c.loop-log-test.true c.index-lines-log.is (c.if-not-is_number_at.ensures.number.0 refl)

pub returns-then-not-is_of_class_of-clause-one : goal.returns-then-not-is_of_class_of-clause-one
returns-then-not-is_of_class_of-clause-one c =
    let there = ahead_before _ _ _ _ _ _ _ _ _ c.loop-log.invariant.stepped (omega arith) c.entry_at-entry.ensures in
    sharing _ _ _ _ _ _ _ _ c.requires.run.rising c.requires.matches c.if-log-head.true there c.requires.first (λ class. let t = c.if-not-is_of_class_of.ensures.1 class in cc)

pub loop-log-preserved : goal.loop-log-preserved
loop-log-preserved c =
    let so_far = c.loop-log.invariant in
    let at_line = slice_get_read c.args.lines.now _ c.loop-log.log c.index-lines-log.result refl c.loop-log-test.true c.index-lines-log.is in
    let at_passed = slice_get-get_or c.loop-log.passed c.loop-log.log 0 (let many = so_far.stepped.as_many in omega arith) in
    record {
      ones = ones_more _ _ _ _ _ _ _ (elim c.if-log-head.branch [
        | then-log-head+else-not-is_of_class_of w ↦
            let there = ahead_before _ _ _ _ _ _ _ _ _ so_far.stepped (omega arith) w.entry_at-entry.ensures in
            own_ahead _ _ _ _ _ _ _ _ there (w.if-not-is_of_class_of.ensures.0 refl)
        | else-log-head w ↦ λ f y a. inl w.if-log-head.false
      ]) so_far.ones;
      stepped = steps _ _ _ _ _ _ _ at_line at_passed (c.if-not-is_number_at.ensures.number.0 refl) so_far.stepped;
    }
