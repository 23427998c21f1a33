use Rattle.totem_plain.proofs.safety_7_1.is_unreached.Goals as goal

pub returns-then-is_or_follows : goal.returns-then-is_or_follows
returns-then-is_or_follows c = rw c.in-Deliver.is (λ t. (c.is_or_follows.ensures.0 c.if-is_or_follows.true, c.misses_safe.ensures.0 t), λ h. c.misses_safe.ensures.1 h.1)
