use Rattle.totem_weave.proofs.Common.{◌≡◌, ℕ, List, map, take, Message}
use Rattle.totem_weave.proofs.woven.Woven.try_clone.Given as goal

abbrev pub invariant-loop-proc : goal.invariant-loop-proc
invariant-loop-proc l =
    map {B = ℕ × List Message} (λ h. (h.0, h.1.items)) l.handed.items ≡ map (λ h. (h.0, h.1.items)) (take l.proc-index l.self.handed.items)
