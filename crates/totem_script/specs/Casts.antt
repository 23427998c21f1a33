-- The processes of a script (docs/PROTOCOL.md, "Scripts").
use Rattle.std.specs.Prelude.{◌≡◌, ℕ, ◌+◌, ◌≤◌, ◌==◌, ◌&&◌, not, List, [], ◌∷◌, length, map, Bool, true, if◌then◌else◌, nat_lt, Ok, Err, Vec}
use Rattle.std.specs.List.{list_any, list_all, flat_map, sum_by}
use Rattle.totem_names.specs.Names.{RingName}
use Rattle.totem_names.specs.Ranks.{id_of}
use Rattle.totem_evs.specs.LogRecord.{LogRecord}
use Rattle.totem_packets.specs.Sets.{is_least}
use Rattle.totem_ring.specs.Visits.{Sending}
use Rattle.totem_recover.specs.Lives.{first_ranks}
use Rattle.totem_core.specs.declared.input.Input.{Input}
use Rattle.totem_script.specs.declared.script_fault.ScriptFault.TheVariants.{Members, Place, TooMany}
use Rattle.totem_names.specs.Sources.{◌>>=◌}
use Rattle.totem_script.specs.Judged.{Judged, Fails}
use Rattle.totem_script.specs.Actors.{Actor, new_actor, actor_step, logs_of, may_return, returned, ring_of_return, Rises}

-- the identifiers: of each there is one process, in its present life
abbrev pub ids_in : List Actor → List ℕ
ids_in actors = map (λ a. id_of a.proc) actors

-- the number of processes, each life counted
abbrev pub lives_of : List Actor → ℕ
lives_of actors = sum_by (λ a. length a.earlier + 1) actors

-- one log for each life of each process
abbrev pub logs_in : List Actor → List LogRecord
logs_in actors = flat_map logs_of actors

-- at most 32 processes, each life counted; the identifiers are strictly ascending
pub record IsCast (actors : List Actor) : Type 0 where
  pub few : lives_of actors ≤ 32
  pub rising : Rises (ids_in actors)

abbrev pub is_known : List Actor → ℕ → Bool
is_known actors p = list_any (λ a. id_of a.proc == p) actors

-- with this process added, before the first that is above it
unfoldable pub with_actor : List Actor → Actor → List Actor
with_actor [] a = a ∷ []
with_actor (b ∷ actors) a = if nat_lt (id_of a.proc) (id_of b.proc) then a ∷ b ∷ actors else b ∷ with_actor actors a

-- with a new node added for each of these processes
unfoldable pub with_nodes : RingName → List ℕ → List ℕ → List Actor → List Actor
with_nodes ring members [] actors = actors
with_nodes ring members (p ∷ ps) actors = with_nodes ring members ps (with_actor actors (new_actor p ring members))

-- they are strictly ascending, and all are above p
unfoldable pub rise_above : ℕ → List ℕ → Bool
rise_above p [] = true
rise_above p (q ∷ qs) = nat_lt p q && rise_above q qs

-- the members are ascending, the representative is the least, and none of them is on a ring yet
abbrev pub may_make : List Actor → RingName → List ℕ → Bool
may_make actors ring members =
    rise_above 0 members && (is_least members ring.rep && list_all (λ p. not (is_known actors p)) members)

-- with a ring added, whose members are in their first lives; a script has at most 32 processes, each life counted
abbrev pub with_ring : List Actor → RingName → List ℕ → Judged (List Actor)
with_ring actors ring members =
    if may_make actors ring members
    then (
    if nat_lt 32 (lives_of actors + length members) then Err TooMany
    else Ok (with_nodes ring (first_ranks members) (first_ranks members) actors))
    else Err Members

-- the result when a process takes an input: all processes after it, and what the node sent
pub record CastStepped : Type 0 where
  pub actors : List Actor
  pub packets : List Sending

-- the process takes this input, if the script has it
unfoldable pub cast_step : List Actor → ℕ → Input → Judged CastStepped
cast_step [] p i = Ok (record { actors = []; packets = [] })
cast_step (a ∷ actors) p i =
    if id_of a.proc == p
    then (do
      done ← actor_step a i
      Ok (record { actors = done.actor ∷ actors; packets = done.packets }))
    else (do
      rest ← cast_step actors p i
      Ok (record { actors = a ∷ rest.actors; packets = rest.packets }))

-- the result of a call in which a process takes an input
abbrev pub IsCastStep : {Z : Type 0} → Judged (Vec Sending Z) → List Actor → Judged CastStepped → Type 0
IsCastStep (Ok packets) new written = written ≡ Ok (record { actors = new; packets = packets.items })
IsCastStep (Err fault) new written = Fails fault written

-- ---- Returning

-- the result of a return: all processes after it, and the ring of the one that returned
pub record Returned : Type 0 where
  pub actors : List Actor
  pub ring : RingName

-- the process returns, if the script has it and it may return
unfoldable pub return_of : List Actor → ℕ → Judged Returned
return_of [] p = Err Members
return_of (a ∷ actors) p =
    if id_of a.proc == p
    then (if may_return a then Ok (record { actors = returned a ∷ actors; ring = ring_of_return a }) else Err Place)
    else (do
      rest ← return_of actors p
      Ok (record { actors = a ∷ rest.actors; ring = rest.ring }))

-- the same, if one life more is allowed
abbrev pub with_return : List Actor → ℕ → Judged Returned
with_return actors p = do
  done ← return_of actors p
  if nat_lt (lives_of actors) 32 then Ok done else Err TooMany

-- the result of a call in which a process returns: its ring
abbrev pub IsReturned : Judged RingName → List Actor → Judged Returned → Type 0
IsReturned (Ok ring) new written = written ≡ Ok (record { actors = new; ring = ring })
IsReturned (Err fault) new written = Fails fault written
