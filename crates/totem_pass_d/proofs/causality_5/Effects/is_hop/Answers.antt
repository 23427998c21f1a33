use Rattle.std.proofs.Common.{arith}
use Rattle.totem_table.proofs.Comparing.{other_parts}
use Rattle.totem_pass_d.proofs.Facts.{facts_of}
use Rattle.totem_pass_d.proofs.CausalityFaults.{hop_decided}
use Rattle.totem_pass_d.proofs.causality_5.Effects.is_hop.Goals as goal
use Rattle.totem_pass_d.proofs.causality_5.Effects.is_hop.Goals.{else-eq-via-then-eq+else-self-at, else-eq-via-else-eq}

pub returns : goal.returns
returns c =
    hop_decided _ _ _ c.args.stay.now _ c.args.self.now.proc c.args.self.now.at c.args.at c.comes_before.result
    (λ (same, lt). elim c.else-eq.branch [
      | else-eq-via-then-eq+else-self-at w ↦ (let le = w.if-self-at.false in omega arith)
      | else-eq-via-else-eq w ↦ absurd (other_parts c.args.stay.now.proc c.args.self.now.proc same (rw w.if-eq.false at c.eq.ensures))
    ])
    (facts_of c.args.self.now.stays.now c.requires.known) c.requires.among c.requires.before c.comes_before.ensures.there c.comes_before.ensures.never
