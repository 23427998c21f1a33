-- A node over a list of inputs (docs/PROTOCOL.md, "The node").
use Rattle.std.specs.Prelude.{ℕ, List, [], ◌∷◌, ◌++◌, fold, Ok, Err}
use Rattle.totem_names.specs.Names.{RingName}
use Rattle.totem_names.specs.declared.conf.ConfId.TheVariants.{Regular}
use Rattle.totem_evs.specs.declared.entry.Entry.{Entry}
use Rattle.totem_evs.specs.declared.entry.Entry.TheVariants.{Conf}
use Rattle.totem_ring.specs.Visits.{Sending}
use Rattle.totem_core.specs.declared.input.Input.{Input}
use Rattle.totem_core.specs.declared.ring_step.RingStep.{RingStep}
use Rattle.totem_core.specs.Nodes.{Node, Stepped, new_node}
use Rattle.totem_core.specs.Outcomes.{Outcome}
use Rattle.totem_core.specs.Table.{step}

-- the reply to an input
pub record Answer : Type 0 where
  pub packets : List Sending
  pub entries : List Entry
  pub ring_steps : List RingStep

-- the state, the log, and a reply for each input
pub record Life : Type 0 where
  pub node : Node
  pub entries : List Entry
  pub replies : List (Outcome Answer)

-- the change to the first ring
abbrev pub first_change : RingName → List ℕ → Entry
first_change ring members = Conf (Regular ring) members

-- a life begins with the change to its first ring
abbrev pub born : ℕ → RingName → List ℕ → Life
born me ring members = record { node = new_node me ring members; entries = first_change ring members ∷ []; replies = [] }

-- a refused input leaves the state as it was, and is answered too
abbrev pub lived : Life → Outcome Stepped → Life
lived life (Ok s) = record {
  node = s.node;
  entries = life.entries ++ s.entries;
  replies = life.replies ++ Ok (record { packets = s.packets; entries = s.entries; ring_steps = s.ring_steps }) ∷ [];
}
lived life (Err fault) = record life { replies = life.replies ++ Err fault ∷ [] }

abbrev pub one_input : Life → Input → Life
one_input life i = lived life (step life.node i)

-- The replay: one input after another.
abbrev pub replay : ℕ → RingName → List ℕ → List Input → Life
replay me ring members inputs = fold one_input (born me ring members) inputs
