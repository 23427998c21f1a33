use Rattle.totem_threads.proofs.Common.{◌≡◌, map, start_of}
use Rattle.totem_threads.proofs.run.fn.run_network.scope.Given as goal

abbrev pub invariant-loop-ends : goal.invariant-loop-ends
invariant-loop-ends g l = map (λ h. start_of h.promise.nodes h.promise.node) l.running.items ≡ map (λ e. start_of l.count e.node) l.yielded
