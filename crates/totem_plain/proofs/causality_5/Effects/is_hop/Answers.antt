use Rattle.std.proofs.Common.{arith}
use Rattle.totem_plain.proofs.Causes.{hop_told}
use Rattle.totem_plain.proofs.causality_5.Effects.is_hop.Goals as goal
use Rattle.totem_plain.proofs.causality_5.Effects.is_hop.Goals.{else-rank-via-then-rank+else-self-at, else-rank-via-else-rank}

pub returns : goal.returns
returns c = hop_told _ _ _ _ _ _ _ _ (λ (same, lt). elim c.else-rank.branch [
  | else-rank-via-then-rank+else-self-at w ↦ (let le = w.if-self-at.false in omega arith)
  | else-rank-via-else-rank w ↦ (let other = w.if-rank.false in omega arith)
]) (rw c.requires at c.delivered_by.ensures)
