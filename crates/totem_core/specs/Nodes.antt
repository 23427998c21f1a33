-- A node: its state, and what it keeps in all states (docs/PROTOCOL.md, "The node").
use Rattle.std.specs.Prelude.{ℕ, List, [], Bool, false, is_some, max, Option, None, Ok, Err}
use Rattle.totem_names.specs.Names.{RingName}
use Rattle.totem_names.specs.Ranks.{id_of, life_of}
use Rattle.totem_names.specs.declared.conf.ConfId.{ConfId}
use Rattle.totem_names.specs.declared.conf.ConfId.TheVariants.{Regular}
use Rattle.totem_packets.specs.declared.message.Body.{Body}
use Rattle.totem_packets.specs.declared.commit_member.Report.{Report}
use Rattle.totem_evs.specs.declared.entry.Entry.{Entry}
use Rattle.totem_ring.specs.Rings.{Ring, new_ring, aru_of}
use Rattle.totem_ring.specs.Visits.{Sending}
use Rattle.totem_member.specs.declared.views.Phase.{Phase}
use Rattle.totem_member.specs.declared.views.CommitView.{CommitView}
use Rattle.totem_member.specs.Gathers.{Gather, gathered}
use Rattle.totem_recover.specs.Lives.{ids_of}
use Rattle.totem_core.specs.declared.ring_step.RingStep.{RingStep}
use Rattle.totem_core.specs.Outcomes.{Outcome}
pub use Rattle.totem_core.specs.declared.state.State.{State}
pub use Rattle.totem_core.specs.declared.state.State.TheVariants.{Operational, Gathering, Committing, InRecovery}
pub use Rattle.totem_core.specs.declared.state.Recovering.{Recovering}

pub record Node : Type 0 where
  pub me : ℕ  -- its identifier
  pub life : ℕ
  pub state : State
  pub installed : Ring  -- the installed ring
  pub waiting : List Body  -- the messages that wait for the next visit in Operational
  pub quiet : ℕ  -- counted timers
  pub seq : ℕ  -- the greatest ring number made, filled or installed
  pub obligation : List ℕ  -- the obligation set
  pub filled : Option RingName  -- the ring of the commit token made or filled last since the last installing
  pub crashed : Bool

-- a process that starts on this ring
abbrev pub new_node : ℕ → RingName → List ℕ → Node
new_node me ring members = record {
  me = id_of me;
  life = life_of me;
  state = Operational;
  installed = new_ring (id_of me) ring (ids_of members);
  waiting = [];
  quiet = 0;
  seq = ring.seq;
  obligation = [];
  filled = None;
  crashed = false;
}

-- the node made or filled a commit token since it last installed a ring
abbrev pub is_sealed : Node → Bool
is_sealed n = is_some n.filled

-- the configuration of the last change: every step that changes configurations ends in a regular one
abbrev pub last_change : Node → ConfId
last_change n = Regular n.installed.ring

-- M, in Commit and Recovery
abbrev pub committed_to : State → List ℕ
committed_to Operational = []
committed_to (Gathering g) = []
committed_to (Committing g) = gathered g
committed_to (InRecovery x) = gathered x.gather

-- the report of this node's life and of what it has of the installed ring
abbrev pub report : Node → Report
report n = record {
  life = n.life;
  ring = n.installed.ring;
  aru = aru_of n.installed.held;
  delivered = n.installed.handed;
  obligation = n.obligation;
}

-- what the node shows when it takes a commit token
abbrev pub commit_view : Node → Phase → Gather → Bool → CommitView
commit_view n phase g started =
    record { me = n.me; members = gathered g; seq = max n.seq g.seq; filled = n.filled; phase = phase; started = started }

-- the result of a step
pub record Stepped : Type 0 where
  pub node : Node
  pub packets : List Sending
  pub entries : List Entry
  pub ring_steps : List RingStep

-- a step that sends these packets, takes no step on a ring and writes no entry
abbrev pub sending : Node → List Sending → Stepped
sending n packets = record { node = n; packets = packets; entries = []; ring_steps = [] }

-- the result of a step on one of the node's rings: the ring after it, packets sent, entries written, and the ring's own steps
pub record Told : Type 0 where
  pub ring : Ring
  pub packets : List Sending
  pub entries : List Entry
  pub ring_steps : List RingStep

-- the step of a node, from the step of its ring and the node that belongs to the new ring
abbrev pub on_its_ring : Outcome Told → (Ring → Node) → Outcome Stepped
on_its_ring (Ok told) node =
    Ok (record { node = node told.ring; packets = told.packets; entries = told.entries; ring_steps = told.ring_steps })
on_its_ring (Err fault) node = Err fault
