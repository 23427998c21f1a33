-- How many packets may be forwarded at a tick (docs/PROTOCOL.md, "The network").
use Rattle.std.specs.Prelude.{ℕ, ◌-◌, ◌*◌, min}
use Rattle.totem_net.specs.declared.credit.Credit.{Credit}
use Rattle.totem_net.specs.Sums.{more}

-- enough for eight broadcasts of each node to all nodes
abbrev pub most : ℕ → ℕ
most nodes = 8 * nodes * nodes

abbrev pub begun : ℕ → Credit
begun nodes = record { left = most nodes; nodes = nodes }

-- this many packets were forwarded
abbrev pub spent : Credit → ℕ → Credit
spent credit packets = record credit { left = credit.left - packets }

-- a tick has passed
abbrev pub earned : Credit → Credit
earned credit = record credit { left = min (more credit.left credit.nodes) (most credit.nodes) }
