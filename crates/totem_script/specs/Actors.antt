-- A process of a script: its lives, its node, and the entries that the node has written (docs/PROTOCOL.md, "Scripts").
use Rattle.std.specs.Prelude.{◌≡◌, ℕ, ◌+◌, ◌<◌, ◌&&◌, List, [], ◌∷◌, ◌++◌, length, map, Bool, true, false, if◌then◌else◌, nat_lt, nat_le, Vec, Ok, Err}
use Rattle.totem_names.specs.Names.{RingName}
use Rattle.totem_names.specs.Ranks.{rank_of, id_of, life_of}
use Rattle.totem_evs.specs.declared.entry.Entry.{Entry}
use Rattle.totem_evs.specs.declared.entry.Entry.TheVariants.{Conf, Send, Deliver, Fail}
use Rattle.totem_evs.specs.declared.ending.Ending.TheVariants.{Standing, Failed}
use Rattle.totem_evs.specs.LogRecord.{LogRecord}
use Rattle.totem_evs.specs.Lives.{AreLoud}
use Rattle.totem_ring.specs.Visits.{Sending}
use Rattle.totem_core.specs.declared.input.Input.{Input}
use Rattle.totem_core.specs.Nodes.{Node, Stepped, new_node}
use Rattle.totem_core.specs.Outcomes.{Outcome}
use Rattle.totem_core.specs.Replay.{first_change}
use Rattle.totem_core.specs.Table.{step}
use Rattle.totem_script.specs.declared.script_fault.ScriptFault.TheVariants.{TooMany}
use Rattle.totem_script.specs.Judged.{Judged, Fails}

pub record Actor : Type 0 where
  pub proc : ℕ  -- its present life
  pub earlier : List LogRecord  -- the logs of its earlier lives
  pub node : Node
  pub entries : List Entry  -- what the node has written

-- a node that starts on this ring; its log begins with the change to the ring
unfoldable pub new_actor : ℕ → RingName → List ℕ → Actor
new_actor p ring members =
    record { proc = p; earlier = []; node = new_node p ring members; entries = first_change ring members ∷ [] }

-- the result of an input: the process after it, and what its node sent
pub record ActorStepped : Type 0 where
  pub actor : Actor
  pub packets : List Sending

-- a refused step changes nothing; a log has at most 1,000,000 entries
abbrev pub after_step : Actor → Outcome Stepped → Judged ActorStepped
after_step a (Err fault) = Ok (record { actor = a; packets = [] })
after_step a (Ok done) =
    if nat_lt 1000000 (length a.entries + length done.entries) then Err TooMany
    else Ok (record { actor = record a { node = done.node; entries = a.entries ++ done.entries }; packets = done.packets })

-- the process takes this input
unfoldable pub actor_step : Actor → Input → Judged ActorStepped
actor_step a i = after_step a (step a.node i)

abbrev pub is_failure : Entry → Bool
is_failure (Conf x members) = false
is_failure (Send m x service) = false
is_failure (Deliver m x) = false
is_failure (Fail x) = true

-- the last of these entries is a failure
unfoldable pub ends_in_failure : List Entry → Bool
ends_in_failure [] = false
ends_in_failure (e ∷ []) = is_failure e
ends_in_failure (e ∷ f ∷ entries) = ends_in_failure (f ∷ entries)

-- the log with these entries: failed if the process failed, otherwise open
abbrev pub log_with : ℕ → List Entry → LogRecord
log_with p entries = record { proc = p; entries = entries; ending = if ends_in_failure entries then Failed else Standing }

-- the log of the present life
abbrev pub log_of : Actor → LogRecord
log_of a = log_with a.proc a.entries

-- one log for each life
abbrev pub logs_of : Actor → List LogRecord
logs_of a = a.earlier ++ log_of a ∷ []

-- ---- Returning

-- it has crashed, and numbers are left for its next life and for that life's ring
abbrev pub may_return : Actor → Bool
may_return a = a.node.crashed && (nat_lt (life_of a.proc) 65535 && nat_le (a.node.seq + 4) 4294967295)

abbrev pub next_life : ℕ → ℕ
next_life p = rank_of (id_of p) (life_of p + 1)

-- its next ring, whose number is above that of each ring that the node made, filled or installed
abbrev pub ring_of_return : Actor → RingName
ring_of_return a = record { seq = a.node.seq + 4; rep = id_of a.proc }

-- a new node of the next life, alone on its ring; the log of the life that ended is kept
unfoldable pub returned : Actor → Actor
returned a = record (new_actor (next_life a.proc) (ring_of_return a) (next_life a.proc ∷ [])) { earlier = logs_of a }

-- ---- The lives of a process

-- the processes of some logs
abbrev pub procs_in : List LogRecord → List ℕ
procs_in logs = map (λ log. log.proc) logs

-- p is below each of these
abbrev pub IsBelowAll : ℕ → List ℕ → Type 0
IsBelowAll p [] = Unit {0}
IsBelowAll p (q ∷ qs) = (p < q) × IsBelowAll p qs

-- each is below all after it
abbrev pub Rises : List ℕ → Type 0
Rises [] = Unit {0}
Rises (p ∷ ps) = IsBelowAll p ps × Rises ps

-- each is a life of this identifier
abbrev pub AreLives : ℕ → List ℕ → Type 0
AreLives id [] = Unit {0}
AreLives id (p ∷ ps) = (id_of p ≡ id) × AreLives id ps

-- these are lives of one identifier in strictly ascending order, p is the last of them, and no log that has ended is quiet
pub record IsHistory (p : ℕ) (earlier : List LogRecord) : Type 0 where
  pub lives : AreLives (id_of p) (procs_in earlier ++ p ∷ [])
  pub rising : Rises (procs_in earlier ++ p ∷ [])
  pub loud : AreLoud earlier

-- ---- Results

-- the result of a call in which a process takes an input
abbrev pub IsActorStep : {Z : Type 0} → Judged (Vec Sending Z) → Actor → Judged ActorStepped → Type 0
IsActorStep (Ok packets) new written = written ≡ Ok (record { actor = new; packets = packets.items })
IsActorStep (Err fault) new written = Fails fault written
