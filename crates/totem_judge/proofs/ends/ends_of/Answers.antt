use Rattle.totem_judge.proofs.Common.{read_at, IsAny, IsExcusedIn, IsOpenAt}
use Rattle.totem_judge.proofs.Steps.{select_more, select_skip}
use Rattle.totem_judge.proofs.ends.ends_of.Goals.{then-is_excused+then-goes_on, then-is_excused+else-goes_on, else-is_excused}
use Rattle.totem_judge.proofs.ends.ends_of.Goals as goal

pub loop-stay-preserved : goal.loop-stay-preserved
loop-stay-preserved c =
    let run = c.args.logs.now in
    let at = read_at c.args.stays.now c.loop-stay.stay-index c.stay-item.result c.loop-stay-test.true c.stay-item.is in
    let all = select_more IsAny _ _ _ at c.loop-stay.ends.logs c.with-ends.result tt c.with-ends.ensures.same c.with-ends.ensures.others c.loop-stay.invariant.all in
    elim c.if-is_excused.branch [
      | then-is_excused+then-goes_on w ↦ rw w.ends-is (record {
        all = all;
        ending = select_more (IsExcusedIn run) _ _ _ at c.loop-stay.ends.ended w.with-ends-then-is_excused.result (c.is_excused.ensures.0 w.if-is_excused.true) w.with-ends-then-is_excused.ensures.same
            w.with-ends-then-is_excused.ensures.others c.loop-stay.invariant.ending;
        opened = select_more (IsOpenAt run) _ _ _ at c.loop-stay.ends.«open» w.with-ends-then-goes_on.result (c.is_excused.ensures.0 w.if-is_excused.true, w.goes_on.ensures.0 w.if-goes_on.true)
            w.with-ends-then-goes_on.ensures.same w.with-ends-then-goes_on.ensures.others c.loop-stay.invariant.opened;
      })
      | then-is_excused+else-goes_on w ↦ rw w.ends-is (record {
        all = all;
        ending = select_more (IsExcusedIn run) _ _ _ at c.loop-stay.ends.ended w.with-ends-then-is_excused.result (c.is_excused.ensures.0 w.if-is_excused.true) w.with-ends-then-is_excused.ensures.same
            w.with-ends-then-is_excused.ensures.others c.loop-stay.invariant.ending;
        opened = select_skip (IsOpenAt run) _ _ _ at c.loop-stay.ends.«open» (λ h. (let told = w.goes_on.ensures.1 h.1 in let not = w.if-goes_on.false in absurd cc)) c.loop-stay.invariant.opened;
      })
      | else-is_excused w ↦ rw w.ends-is (record {
        all = all;
        ending = select_skip (IsExcusedIn run) _ _ _ at c.loop-stay.ends.ended (λ h. (let told = c.is_excused.ensures.1 h in let not = w.if-is_excused.false in absurd cc)) c.loop-stay.invariant.ending;
        opened = select_skip (IsOpenAt run) _ _ _ at c.loop-stay.ends.«open» (λ h. (let told = c.is_excused.ensures.1 h.0 in let not = w.if-is_excused.false in absurd cc)) c.loop-stay.invariant.opened;
      })
    ]
