use Rattle.std.proofs.Common.{sym, ◌∙◌, arith}
use Rattle.totem_pass_d.proofs.Sending.{one_entered, nothing_told}
use Rattle.totem_pass_d.proofs.indexes.by_message.Goals.{in-Some+in_ok-insert, in_default}
use Rattle.totem_pass_d.proofs.indexes.by_message.Goals as goal

pub loop-at-preserved : goal.loop-at-preserved
loop-at-preserved c = elim c.match-delivered_at.branch [
  | in-Some+in_ok-insert w ↦ rw w.map-is
      (one_entered c.loop-at.map w.insert.new.self _ _ _ c.loop-at.at w.in-Some.message (let le = c.loop-at.auto.at in omega arith) c.loop-at-test.true
      (sym c.delivered_at.ensures ∙ w.in-Some.is) w.in_ok-insert.ensures.updates c.loop-at.invariant)
  | in_default w ↦ rw w.map-is (nothing_told _ _ _ _ _ (sym c.delivered_at.ensures ∙ w.in_default.is) c.loop-at.invariant)
]
