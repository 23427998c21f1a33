-- The receivers of a packet (docs/PROTOCOL.md, "The network").
use Rattle.std.specs.Prelude.{ℕ, Bool, ◌==◌, not}
use Rattle.totem_net.specs.declared.address.Address.{Address}
use Rattle.totem_net.specs.declared.address.Address.TheVariants.{AllBut, One}

-- a broadcast is for every node but its sender; any other packet is for one node
abbrev pub is_for : Address → ℕ → Bool
is_for (AllBut sender) node = not (node == sender)
is_for (One receiver) node = node == receiver
