use Rattle.std.proofs.Common.{refl, ◌∙◌}
use Rattle.totem_packets.proofs.SetFacts.{pointwise_same, same_either_way}
use Rattle.totem_packets.proofs.processes.Processes.is.Goals as goal

pub returns-clause-value : goal.returns-clause-value
returns-clause-value c = rw (c.as_slice.ensures.value, c.as_slice-2.ensures.value) at c.eq.ensures ∙ pointwise_same _ (λ a b. refl) c.args.self.now c.args.other.now

pub returns-clause-same : goal.returns-clause-same
returns-clause-same c = same_either_way c.eq.result c.args.self.now c.args.other.now (returns-clause-value c)
