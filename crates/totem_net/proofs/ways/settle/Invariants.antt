use Rattle.std.proofs.Common.{◌≡◌, ◌+◌, ◌++◌, take, drop}
use Rattle.totem_net.specs.Settling.{settled}
use Rattle.totem_net.proofs.ways.settle.Given as goal

abbrev pub invariant-loop-place : goal.invariant-loop-place
invariant-loop-place l =
    settled l.address 1 l.initial.wires l.initial.left.items
    ≡ take l.place l.wires ++ settled l.address (l.place + 1) (drop l.place l.wires) l.left.items
