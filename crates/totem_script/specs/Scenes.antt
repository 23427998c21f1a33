-- The scene of a script under way, and what commands do to it (docs/PROTOCOL.md, "Scripts").
use Rattle.std.specs.Prelude.{ℕ, zero, suc, ◌-◌, ◌==◌, ◌&&◌, not, List, [], ◌∷◌, ◌++◌, length, map, filter, remove, Bool, true, false, if◌then◌else◌, nat_lt, slice_get, count_by, Option, None, Some, Ok, Err}
use Rattle.std.specs.List.{list_any, list_all, flat_map, concat}
use Rattle.totem_names.specs.Names.{RingName}
use Rattle.totem_names.specs.Ranks.{id_of}
use Rattle.totem_packets.specs.declared.packet.Packet.{Packet}
use Rattle.totem_packets.specs.declared.packet.Packet.TheVariants.{Token}
use Rattle.totem_packets.specs.Sets.{has}
use Rattle.totem_ring.specs.declared.outcome.To.{To}
use Rattle.totem_ring.specs.declared.outcome.To.TheVariants.{All as ToAll, One as ToOne}
use Rattle.totem_ring.specs.Rings.{first_token}
use Rattle.totem_ring.specs.Visits.{Sending}
use Rattle.totem_core.specs.declared.input.Input.{Input}
use Rattle.totem_core.specs.declared.input.Input.TheVariants as input
use Rattle.totem_script.specs.declared.command.Command.{Command}
use Rattle.totem_script.specs.declared.command.Command.TheVariants as command
use Rattle.totem_script.specs.declared.script_fault.ScriptFault.TheVariants.{Order, Members, Place}
use Rattle.totem_script.specs.declared.script_version.ScriptVersion.{ScriptVersion}
use Rattle.totem_names.specs.Sources.{◌>>=◌}
use Rattle.totem_script.specs.Judged.{Judged}
use Rattle.totem_script.specs.Actors.{Actor}
use Rattle.totem_script.specs.Casts.{is_known, with_ring, cast_step, with_return}

-- packets on their way, each with its receiver
abbrev pub Queue : Type 0
Queue = List (ℕ × Packet)

pub record Scene : Type 0 where
  pub version : ScriptVersion  -- that of the script
  pub actors : List Actor
  pub queue : Queue
  pub cut : Option (List (List ℕ))  -- the groups, during a cut
  pub under_way : Bool  -- a command other than `ring` has come

abbrev pub empty_scene : ScriptVersion → Scene
empty_scene version = record { version = version; actors = []; queue = []; cut = None; under_way = false }

-- packets pass within a group, and between any two processes if there is no cut
abbrev pub may_pass : Option (List (List ℕ)) → ℕ → ℕ → Bool
may_pass None from to = true
may_pass (Some groups) from to = list_any (λ group. has group from && has group to) groups

-- a broadcast goes to all other processes of the script, in ascending order
unfoldable pub to_others : Option (List (List ℕ)) → ℕ → Packet → List Actor → Queue
to_others cut from packet actors =
    map (λ a. (id_of a.proc, packet)) (filter (λ a. not (id_of a.proc == from) && may_pass cut from (id_of a.proc)) actors)

-- what a sending of this process puts on its way
abbrev pub posted_to : Option (List (List ℕ)) → List Actor → ℕ → Packet → To → Queue
posted_to cut actors from packet ToAll = to_others cut from packet actors
posted_to cut actors from packet (ToOne q) = if may_pass cut from q then (q, packet) ∷ [] else []

abbrev pub posted : Option (List (List ℕ)) → List Actor → ℕ → Sending → Queue
posted cut actors from sending = posted_to cut actors from sending.1 sending.0

unfoldable pub posted_all : Option (List (List ℕ)) → List Actor → ℕ → List Sending → Queue
posted_all cut actors from sendings = flat_map (posted cut actors from) sendings

-- the process takes this input, if the script has it, and what its node sends is on its way
unfoldable pub scene_step : Scene → ℕ → Input → Judged Scene
scene_step s p i = do
  stepped ← cast_step s.actors p i
  Ok (record s { actors = stepped.actors; queue = s.queue ++ posted_all s.cut stepped.actors p stepped.packets })

-- the same for a process that a line names
abbrev pub named_step : Scene → ℕ → Input → Judged Scene
named_step s p i = if is_known s.actors p then scene_step s p i else Err Members

-- the first packet goes to its receiver
abbrev pub run_one : Scene → Queue → Judged Scene
run_one s [] = Ok s
run_one s (e ∷ queue) = scene_step (record s { queue = queue }) e.0 (input.Packet e.1)

-- this many times, while there is a packet
unfoldable pub run_times : ℕ → Scene → Judged Scene
run_times zero s = Ok s
run_times (suc times) s = do
  next ← run_one s s.queue
  run_times times next

-- a ring's first token goes after the other packets, to its representative
abbrev pub with_first_token : Queue → RingName → Queue
with_first_token queue ring = queue ++ (ring.rep, Token (first_token ring)) ∷ []

-- the nodes are made, and the first token is on its way to the least of them
abbrev pub ring_made : Scene → RingName → List ℕ → Judged Scene
ring_made s ring members = do
  actors ← with_ring s.actors ring members
  Ok (record s { actors = actors; queue = with_first_token s.queue ring })

-- the process returns in its next life, and the first token of its ring is on its way to it, whatever the cut
abbrev pub brought_back : Scene → ℕ → Judged Scene
brought_back s p = do
  done ← with_return s.actors p
  Ok (record s { actors = done.actors; queue = with_first_token s.queue done.ring })

-- the packet at this place, counted from 1, is lost
abbrev pub dropped : Scene → ℕ → Judged Scene
dropped s place = if nat_lt (place - 1) (length s.queue) then Ok (record s { queue = remove s.queue (place - 1) }) else Err Place

-- a copy of this packet goes after the others
abbrev pub once_more : Scene → Option (ℕ × Packet) → Judged Scene
once_more s None = Err Place
once_more s (Some e) = Ok (record s { queue = s.queue ++ e ∷ [] })

-- each process of the script is in the groups once, and no other process is
abbrev pub is_partition : List Actor → List (List ℕ) → Bool
is_partition actors groups =
    (length (concat groups) == length actors) && list_all (λ a. count_by (λ q. q == id_of a.proc) (concat groups) == 1) actors

abbrev pub parted : Scene → List (List ℕ) → Judged Scene
parted s groups = if is_partition s.actors groups then Ok (record s { cut = Some groups }) else Err Members

-- what a command does
abbrev pub effect : Scene → Command → Judged Scene
effect s (command.Ring ring members) = ring_made s ring members
effect s (command.Submit p service payload) = named_step s p (input.Submit service payload)
effect s (command.Run times) = run_times times s
effect s (command.Drop place) = dropped s place
effect s (command.Repeat place) = once_more s (slice_get s.queue (place - 1))
effect s (command.Cut groups) = parted s groups
effect s command.Join = Ok (record s { cut = None })
effect s (command.Timer p) = named_step s p input.Timer
effect s (command.Crash p) = named_step s p input.Crash
effect s (command.Return p) = brought_back s p
effect s command.End = Ok s

abbrev pub makes_ring : Command → Bool
makes_ring (command.Ring ring members) = true
makes_ring (command.Submit p service payload) = false
makes_ring (command.Run times) = false
makes_ring (command.Drop place) = false
makes_ring (command.Repeat place) = false
makes_ring (command.Cut groups) = false
makes_ring command.Join = false
makes_ring (command.Timer p) = false
makes_ring (command.Crash p) = false
makes_ring (command.Return p) = false
makes_ring command.End = false

-- a `ring` is before all other commands, and another command is after a `ring`
abbrev pub is_in_order : Scene → Command → Bool
is_in_order s c = if makes_ring c then not s.under_way else nat_lt 0 (length s.actors)

-- the command is carried out, if it is allowed here
abbrev pub carried_out : Scene → Command → Judged Scene
carried_out s c = if is_in_order s c then effect (record s { under_way = not (makes_ring c) }) c else Err Order
