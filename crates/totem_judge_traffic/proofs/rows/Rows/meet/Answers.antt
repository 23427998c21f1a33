use Rattle.totem_judge_traffic.proofs.Common.{◌≡◌, ◌⊎◌, inl, inr, refl, arith, RowIsApart}
use Rattle.totem_judge_traffic.specs.LogSets.{Has}
use Rattle.totem_judge_traffic.proofs.Rowing.{apart_all, apart_row, apart_to_all}
use Rattle.totem_judge_traffic.proofs.rows.Rows.meet.Goals.{else-contains-via-then-contains+else-row_meets, else-contains-via-else-contains}
use Rattle.totem_judge_traffic.proofs.rows.Rows.meet.Goals as goal

pub returns-then-is_apart : goal.returns-then-is_apart
returns-then-is_apart c = apart_all _ _ _ 32 c.args.self.now.all (c.if-is_apart.ensures.0 refl)

pub loop-log-preserved : goal.loop-log-preserved
loop-log-preserved c =
    let here : (Has c.args.by c.loop-log.log → ⊥) ⊎ RowIsApart c.args.self.now c.loop-log.log c.args.others = elim c.else-contains.branch [
      | else-contains-via-then-contains+else-row_meets w ↦ inr (rw w.if-row_meets.false at w.row_meets.ensures)
      | else-contains-via-else-contains w ↦ inl (λ has. (let yes = c.contains.ensures.1 has in let no = w.if-contains.false in cc))
    ] in
    apart_row _ _ _ _ here c.loop-log.invariant

pub returns : goal.returns
returns c =
    let end : c.loop-log.log ≡ c.end-log-end.result = omega (arith, c.loop-log.auto.log-end, c.loop-log-test.false) in
    apart_to_all _ _ _ _ c.end-log-end.ensures.above (rw end at c.loop-log.invariant)
