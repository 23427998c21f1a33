-- How a node begins to gather, and what it does at consensus (docs/PROTOCOL.md, "The node").
use Rattle.std.specs.Prelude.{ℕ, List, [], ◌∷◌, ◌++◌, length, if◌then◌else◌, nat_lt, false, Option, None, Some, Ok, Err}
use Rattle.totem_packets.specs.declared.join.Join.{Join}
use Rattle.totem_packets.specs.declared.commit.CommitToken.{CommitToken}
use Rattle.totem_packets.specs.declared.message.Message.{Message}
use Rattle.totem_packets.specs.declared.packet.Packet.TheVariants.{Join as AJoin, Commit as ACommit}
use Rattle.totem_packets.specs.Sets.{union, with_process, next_after, is_least}
use Rattle.totem_packets.specs.OldRings.{processes_of}
use Rattle.totem_ring.specs.declared.outcome.To.TheVariants.{All as ToAll, One as ToOne}
use Rattle.totem_ring.specs.Visits.{Sending}
use Rattle.totem_member.specs.declared.views.Phase.TheVariants.{Gather as InGather}
use Rattle.totem_member.specs.Gathers.{Gather, new_gather, join, gathered, consensus, on_join}
use Rattle.totem_member.specs.Commits.{first_commit}
use Rattle.totem_core.specs.declared.fault.NodeFault.TheVariants.{Stranger}
use Rattle.totem_core.specs.Nodes.{Node, Gathering, Committing, Stepped, sending, committed_to, commit_view, report}
use Rattle.totem_names.specs.Sources.{◌>>=◌}
use Rattle.totem_core.specs.Outcomes.{Outcome, by_member}

abbrev pub join_broadcast : Gather → Sending
join_broadcast g = (ToAll, AJoin (join g))

-- the commit token goes to the next of its members, to itself if alone
abbrev pub commit_passed_on : ℕ → CommitToken → Sending
commit_passed_on me token = (ToOne (next_after (processes_of token.members) me), ACommit token)

-- the least of M makes the commit token, sends it and records its ring as filled
abbrev pub makes_commit : Node → List Sending → CommitToken → Stepped
makes_commit n packets token =
    sending (record n { filled = Some token.ring; seq = token.ring.seq }) (packets ++ commit_passed_on n.me token ∷ [])

-- the node waits for the commit token of its gathering
abbrev pub committing : Node → Gather → Node
committing n g = record n { state = Committing g; quiet = 0 }

abbrev pub commit_begun : Node → Gather → List Sending → Outcome Stepped
commit_begun n g packets = do
  token ← by_member (first_commit (commit_view n InGather g false) (report n))
  Ok (makes_commit (committing n g) packets token)

-- At consensus on the gathered processes, M: state Commit, quiet 0.
abbrev pub at_consensus : Node → Gather → List Sending → Outcome Stepped
at_consensus n g packets = if is_least (gathered g) n.me then commit_begun n g packets else Ok (sending (committing n g) packets)

-- the node stays in Gather unless there is consensus
abbrev pub look_at_consensus : Node → Gather → Option (List ℕ) → List Sending → Outcome Stepped
look_at_consensus n g None packets = Ok (sending (record n { state = Gathering g }) packets)
look_at_consensus n g (Some members) packets = at_consensus n g packets

-- the Gather after the Join that caused it, if there is one
abbrev pub taking : Gather → Option Join → Outcome Gather
taking g None = Ok g
taking g (Some j) = do
  done ← by_member (on_join g j)
  Ok done.gather

-- these processes, as a set
abbrev pub set_of : List ℕ → List ℕ
set_of procs = union [] procs

-- the members of the installed ring, extra and, from Commit or Recovery, M
abbrev pub gather_base : Node → List ℕ → List ℕ
gather_base n extra = union (union (set_of n.installed.members) extra) (committed_to n.state)

-- the new Gather takes the Join, the Gather's own Join is broadcast once, and consensus is checked
abbrev pub gathering_anew : Node → Gather → Option Join → Outcome Stepped
gathering_anew n new cause = do
  g ← taking new cause
  look_at_consensus (record n { quiet = 0 }) g (consensus g) (join_broadcast g ∷ [])

-- a new Gather, unless there are more processes than may gather
abbrev pub gather_begun : Node → List ℕ → Outcome Gather
gather_begun n extra =
    if nat_lt 32 (length (with_process (gather_base n extra) n.me)) then Err Stranger
    else Ok (new_gather n.me (gather_base n extra) n.seq)

-- To gather.
abbrev pub to_gather : Node → List ℕ → Option Join → Outcome Stepped
to_gather n extra cause = do
  new ← gather_begun n extra
  gathering_anew n new cause

-- The causes: a message of a stranger, a Join, and three timers without a token or the commit token.
abbrev pub for_a_foreign_message : Node → Message → Outcome Stepped
for_a_foreign_message n m = to_gather n (m.sender ∷ []) None

abbrev pub for_a_join : Node → Join → Outcome Stepped
for_a_join n j = to_gather n [] (Some j)

abbrev pub for_quiet : Node → Outcome Stepped
for_quiet n = to_gather n [] None
