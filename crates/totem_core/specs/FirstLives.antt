-- Where no life but the first is named: in what a node keeps, what comes to it, and what it gives (docs/PROTOCOL.md, "The node").
use Rattle.std.specs.Prelude.{◌≡◌, ⊤, List, All}
use Rattle.totem_packets.specs.declared.commit_member.CommitMember.{CommitMember}
use Rattle.totem_packets.specs.declared.packet.Packet.{Packet}
use Rattle.totem_packets.specs.declared.packet.Packet.TheVariants as packet
use Rattle.totem_packets.specs.Lives.{reported_life}
use Rattle.totem_evs.specs.declared.entry.Entry.{Entry}
use Rattle.totem_evs.specs.Lives.{AreFirst}
use Rattle.totem_evs.specs.Missing.{members_of}
use Rattle.totem_ring.specs.Visits.{Sending}
use Rattle.totem_recover.specs.Exchange.{Leaving}
use Rattle.totem_core.specs.declared.input.Input.{Input}
use Rattle.totem_core.specs.declared.input.Input.TheVariants as input
use Rattle.totem_core.specs.Nodes.{Node, State, Operational, Gathering, Committing, InRecovery, Stepped}

-- each member that has reported did so from its first life
abbrev pub AreFirstReports : List CommitMember → Type 0
AreFirstReports members = All (λ m. reported_life m.report ≡ 1) members

-- of packets only commit tokens name lives
abbrev pub IsFirstPacket : Packet → Type 0
IsFirstPacket (packet.Message m) = ⊤
IsFirstPacket (packet.Token t) = ⊤
IsFirstPacket (packet.Join j) = ⊤
IsFirstPacket (packet.Commit t) = AreFirstReports t.members

abbrev pub IsFirstSending : Sending → Type 0
IsFirstSending sending = IsFirstPacket sending.1

abbrev pub IsFirstInput : Input → Type 0
IsFirstInput (input.Submit service payload) = ⊤
IsFirstInput (input.Packet p) = IsFirstPacket p
IsFirstInput input.Timer = ⊤
IsFirstInput input.Crash = ⊤

-- of entries only changes name lives
abbrev pub IsFirstEntry : Entry → Type 0
IsFirstEntry e = AreFirst (members_of e)

-- the members that a recovery will write into its changes
pub record IsFirstRecovery (r : Leaving) : Type 0 where
  pub members : AreFirst r.members
  pub transitional : AreFirst r.transitional

abbrev pub IsFirstState : State → Type 0
IsFirstState Operational = ⊤
IsFirstState (Gathering g) = ⊤
IsFirstState (Committing g) = ⊤
IsFirstState (InRecovery x) = IsFirstRecovery x.recovery

pub record IsFirstNode (n : Node) : Type 0 where
  pub life : n.life ≡ 1
  pub state : IsFirstState n.state

pub record IsFirstStep (s : Stepped) : Type 0 where
  pub node : IsFirstNode s.node
  pub packets : All IsFirstSending s.packets
  pub entries : All IsFirstEntry s.entries
