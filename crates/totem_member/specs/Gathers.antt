-- How processes agree on which of them are reachable (docs/PROTOCOL.md, "Gathering").
use Rattle.std.specs.Prelude.{ℕ, ◌==◌, ◌&&◌, ◌||◌, not, List, [], ◌∷◌, ◌++◌, length, Bool, true, IsTrue, if◌then◌else◌, nat_lt, max, Option, None, Some, Result, Ok, Err, filter}
use Rattle.std.specs.List.{list_any, list_all}
use Rattle.totem_packets.specs.declared.join.Join.{Join}
use Rattle.totem_packets.specs.Rising.{IsProcesses}
use Rattle.totem_packets.specs.Sets.{has, is_within, same_processes, with_process, union, without}
use Rattle.totem_member.specs.declared.join_sets.Sets.{Sets}
use Rattle.totem_member.specs.declared.join_sets.Noted.{Noted}
use Rattle.totem_member.specs.declared.views.GatherOut.{GatherOut}
use Rattle.totem_member.specs.declared.fault.MemberFault.{MemberFault}
use Rattle.totem_member.specs.declared.fault.MemberFault.TheVariants.{Stranger}

-- a gathering process
pub record Gather : Type 0 where
  pub me : ℕ
  pub sets : Sets  -- its own, which count as heard
  pub seq : ℕ  -- the greatest ring number that it knows
  pub noted : List Noted  -- of each other process, the sets of its last noted Join

-- the failed processes are known, and the process itself is known and has not failed
pub record IsStanding (me : ℕ) (s : Sets) : Type 0 where
  pub known : IsTrue (is_within s.failed s.processes)
  pub mine : IsTrue (has s.processes me)
  pub standing : IsTrue (not (has s.failed me))

-- the invariant of a gathering
pub record IsGather (g : Gather) : Type 0 where
  pub standing : IsStanding g.me g.sets
  pub processes : IsProcesses g.sets.processes
  pub failed : IsProcesses g.sets.failed

-- a gathering begins: the processes of the base and the process itself, none of which has failed
abbrev pub new_gather : ℕ → List ℕ → ℕ → Gather
new_gather me base seq = record { me = me; sets = record { processes = with_process base me; failed = [] }; seq = seq; noted = [] }

-- the process's Join
abbrev pub join : Gather → Join
join g = record { sender = g.me; seq = g.seq; processes = g.sets.processes; failed = g.sets.failed }

-- the processes that would form a ring: those that have not failed
abbrev pub gathered : Gather → List ℕ
gathered g = without g.sets.processes g.sets.failed

abbrev pub same_sets : Sets → Sets → Bool
same_sets a b = same_processes a.processes b.processes && same_processes a.failed b.failed

-- these sets were noted of the process
abbrev pub noted_equal : List Noted → ℕ → Sets → Bool
noted_equal noted p sets = list_any (λ n. (n.proc == p) && same_sets n.sets sets) noted

-- the sets noted of p equal the process's own, or p is the process itself
abbrev pub agrees : Gather → ℕ → Bool
agrees g p = (p == g.me) || noted_equal g.noted p g.sets

-- consensus: on the gathered processes, if each of them agrees
abbrev pub consensus : Gather → Option (List ℕ)
consensus g = if list_all (agrees g) (gathered g) then Some (gathered g) else None

-- The sender is the process itself, is not among the Join's own processes, or has failed according to the Join or the process; or a
-- failed process of the Join is not among its processes; or both sets of processes together have more than 32.
abbrev pub is_stranger : Gather → Join → Bool
is_stranger g j =
    (j.sender == g.me)
    || not (has j.processes j.sender)
    || has j.failed j.sender
    || has g.sets.failed j.sender
    || not (is_within j.failed j.processes)
    || nat_lt 32 (length (union g.sets.processes j.processes))

-- a sender that says that the process failed is known, and has failed
abbrev pub turning_away : Sets → Join → Sets
turning_away mine j = record { processes = with_process mine.processes j.sender; failed = with_process mine.failed j.sender }

-- the sets of the process and of the Join together
abbrev pub joined : Sets → Join → Sets
joined mine j = record { processes = union mine.processes j.processes; failed = union mine.failed j.failed }

-- the sender's sets are noted from this Join
abbrev pub noting : List Noted → Join → List Noted
noting noted j =
    filter (λ n. not (n.proc == j.sender)) noted ++ record { proc = j.sender; sets = record { processes = j.processes; failed = j.failed } } ∷ []

-- what is noted once this Join is, if there is one
abbrev pub noted_with : List Noted → Option Join → List Noted
noted_with noted None = noted
noted_with noted (Some j) = noting noted j

-- the gathering with these sets, and with the Join noted, if there is one
abbrev pub with_sets : Gather → Option Join → Sets → Gather
with_sets g heard sets = record g { sets = sets; noted = noted_with g.noted heard }

-- the gathering after this Join, of which nothing is noted if it says that the process failed
abbrev pub after_join : Gather → Join → Gather
after_join g j = record {
  me = g.me;
  sets = if has j.failed g.me then turning_away g.sets j else joined g.sets j;
  seq = max g.seq j.seq;
  noted = if has j.failed g.me then g.noted else noting g.noted j;
}

-- the result of a step of a gathering
pub record Gathered : Type 0 where
  pub gather : Gather
  pub out : GatherOut

-- A Join is received. The process broadcasts its own again if its sets changed.
abbrev pub on_join : Gather → Join → Result Gathered MemberFault
on_join g j =
    if is_stranger g j then Err Stranger
    else
    let now = after_join g j in
    Ok (record { gather = now; out = record { again = not (same_sets now.sets g.sets); members = consensus now } })

-- each other gathered process that doesn't agree has failed
abbrev pub after_timeout : Gather → Gather
after_timeout g =
    record g { sets = record { processes = g.sets.processes; failed = union g.sets.failed (filter (λ p. not (agrees g p)) (gathered g)) } }

-- No answer arrived in time. The process broadcasts its Join again.
abbrev pub on_timeout : Gather → Gathered
on_timeout g = let now = after_timeout g in record { gather = now; out = record { again = true; members = consensus now } }
