use Rattle.totem_threads.proofs.Common.{◌≡◌, All, map, IsFirstBook, start_of}
use Rattle.totem_threads.proofs.run.joined.Given as goal

abbrev pub invariant-loop-handle : goal.invariant-loop-handle
invariant-loop-handle g l = (map (λ b. b.start) l.books.items ≡ map (λ h. start_of h.promise.nodes h.promise.node) l.yielded) × All IsFirstBook l.books.items
