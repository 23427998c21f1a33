-- The values that packets may have (docs/PROTOCOL.md, "Packets").
use Rattle.std.specs.Prelude.{◌<◌, ◌^◌, IfSome}
use Rattle.totem_names.specs.Texts.{IsUpTo, IsProcess, IsRing}
use Rattle.totem_packets.specs.declared.commit.CommitToken.{CommitToken}
use Rattle.totem_packets.specs.declared.join.Join.{Join}
use Rattle.totem_packets.specs.declared.message.Body.{Body}
use Rattle.totem_packets.specs.declared.message.Body.TheVariants.{App, Old, Mark}
use Rattle.totem_packets.specs.declared.message.Message as message
use Rattle.totem_packets.specs.declared.packet.Packet as packet
use Rattle.totem_packets.specs.declared.packet.Packet.TheVariants as packets
use Rattle.totem_packets.specs.declared.token.Token as token
use Rattle.totem_packets.specs.CommitMembers.{IsCommitMembers}
use Rattle.totem_packets.specs.Payload.{IsPayload}
use Rattle.totem_packets.specs.Rising.{IsNumber, IsRequests, IsProcesses}

-- a client's payload is not too long; an old message's names are in range too; a mark has nothing
abbrev pub IsBody : Body → Type 0
IsBody (App service payload) = IsPayload payload
IsBody (Old ring number sender service payload) = IsRing ring × IsNumber number × IsProcess sender × IsPayload payload
IsBody Mark = Unit {0}

pub record IsMessage (m : message.Message) : Type 0 where
  pub ring : IsRing m.ring
  pub number : IsNumber m.number
  pub sender : IsProcess m.sender
  pub body : IsBody m.body

pub record IsToken (t : token.Token) : Type 0 where
  pub ring : IsRing t.ring
  pub token_seq : IsUpTo 18446744073709551615 t.token_seq
  pub seq : t.seq < 2 ^ 32
  pub aru : t.aru < 2 ^ 32
  pub aru_id : IfSome t.aru_id IsProcess
  pub rtr : IsRequests t.rtr

pub record IsJoin (j : Join) : Type 0 where
  pub sender : IsProcess j.sender
  pub seq : IsNumber j.seq
  pub processes : IsProcesses j.processes
  pub failed : IsProcesses j.failed

pub record IsCommitToken (t : CommitToken) : Type 0 where
  pub ring : IsRing t.ring
  pub members : IsCommitMembers t.members

abbrev pub IsPacket : packet.Packet → Type 0
IsPacket (packets.Message m) = IsMessage m
IsPacket (packets.Token t) = IsToken t
IsPacket (packets.Join j) = IsJoin j
IsPacket (packets.Commit t) = IsCommitToken t
