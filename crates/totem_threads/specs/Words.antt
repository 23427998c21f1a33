-- The tasks of the channel messages to a node's threads (docs/PROTOCOL.md, "A run in threads").
use Rattle.std.specs.Prelude.{codes, Bool, false, if◌then◌else◌, Result, Ok, Err}
use Rattle.totem_net.specs.declared.words.PacketWord.{PacketWord}
use Rattle.totem_net.specs.declared.words.PacketWord.TheVariants as packet_words
use Rattle.totem_net.specs.declared.words.TimerWord.{TimerWord}
use Rattle.totem_net.specs.declared.words.TimerWord.TheVariants as timer_words
use Rattle.totem_net.specs.declared.words.ClientWord.{ClientWord}
use Rattle.totem_net.specs.declared.words.ClientWord.TheVariants as client_words
use Rattle.totem_core.specs.declared.input.Input.TheVariants as inputs
use Rattle.totem_packets.specs.declared.packet.Packet.{Packet}
use Rattle.totem_packets.specs.declared.packet.Packet.TheVariants as packets
use Rattle.totem_packets.specs.declared.fault.PacketFault.{PacketFault}
use Rattle.totem_packets.specs.Grammar.{decode_packet}
use Rattle.totem_packets.specs.Lives.{has_later_life}
use Rattle.totem_threads.specs.declared.task.Task.{Task}
use Rattle.totem_threads.specs.declared.task.Task.TheVariants as tasks

-- a member of a commit token reports from a life above the first; no other packet names lives
abbrev pub names_later_life : Packet → Bool
names_later_life (packets.Message m) = false
names_later_life (packets.Token t) = false
names_later_life (packets.Join j) = false
names_later_life (packets.Commit t) = has_later_life t.members

-- a packet is given to the node, unless it names a life that no node of the run has; bytes that are no packet have no task
abbrev pub decoded_task : Result Packet PacketFault → Task
decoded_task (Ok packet) = if names_later_life packet then tasks.Nothing else tasks.Input (inputs.Packet packet)
decoded_task (Err fault) = tasks.Nothing

abbrev pub packet_task : PacketWord → Task
packet_task (packet_words.Packet bytes) = decoded_task (decode_packet bytes)
packet_task packet_words.Stop = tasks.Stop

abbrev pub timer_task : TimerWord → Task
timer_task timer_words.Timer = tasks.Input inputs.Timer
timer_task timer_words.Stop = tasks.Stop

-- a client submits the letter x
abbrev pub client_task : ClientWord → Task
client_task (client_words.Submit service) = tasks.Input (inputs.Submit service (codes "x"))
client_task client_words.Stop = tasks.Stop
