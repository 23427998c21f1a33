-- The starts of the nodes of a run in threads (docs/PROTOCOL.md, "A run in threads").
use Rattle.std.specs.Prelude.{◌≤◌, ℕ, List, map}
use Rattle.totem_names.specs.Names.{RingName}
use Rattle.totem_net.specs.Nodes.{node_numbers}
use Rattle.totem_books.specs.Replay.{Start}
use Rattle.totem_books.specs.History.{start_with}
use Rattle.totem_packets.specs.declared.packet.Packet.TheVariants.{Token}
use Rattle.totem_packets.specs.Spelling.{packet_bytes}
use Rattle.totem_ring.specs.Rings.{first_token}
use Rattle.totem_recover.specs.Lives.{first_rank, first_ranks}
use Rattle.totem_net.specs.Plans.{Odds}
use Rattle.totem_threads.specs.declared.plan.RunPlan.{RunPlan}

-- 4.1
abbrev pub first_ring : RingName
first_ring = record { seq = 4; rep = 1 }

-- the first packet that the network forwards: the first token of that ring
abbrev pub first_packet : List ℕ
first_packet = packet_bytes (Token (first_token first_ring))

-- the start of one of this many nodes, all of which are members of that ring in their first lives
abbrev pub start_of : ℕ → ℕ → Start
start_of nodes node = start_with (first_rank node) first_ring (first_ranks (node_numbers nodes))

-- the starts of all nodes, in ascending order
abbrev pub starts : ℕ → List Start
starts nodes = map (start_of nodes) (node_numbers nodes)

abbrev pub run_plan : ℕ → ℕ → ℕ → Odds → RunPlan
run_plan nodes ticks seed plan = record { nodes = nodes; ticks = ticks; seed = seed; plan = plan }

-- the numbers of nodes and of ticks are in range
pub record IsInRange (plan : RunPlan) : Type 0 where
  pub some : 1 ≤ plan.nodes
  pub few : plan.nodes ≤ 32
  pub ticks : 1 ≤ plan.ticks
  pub bounded : plan.ticks ≤ 1000000
