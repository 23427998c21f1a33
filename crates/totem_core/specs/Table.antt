-- The node step, cell by cell (docs/PROTOCOL.md, "The node").
use Rattle.std.specs.Prelude.{ℕ, ◌+◌, ◌==◌, ◌&&◌, List, [], ◌∷◌, ◌++◌, length, Bool, true, false, not, if◌then◌else◌, nat_lt, nat_le, Some, Ok, Err}
use Rattle.totem_names.specs.declared.message.Service.{Service}
use Rattle.totem_packets.specs.declared.message.Body.TheVariants.{App}
use Rattle.totem_packets.specs.declared.message.Message.{Message}
use Rattle.totem_packets.specs.declared.token.Token.{Token}
use Rattle.totem_packets.specs.declared.join.Join.{Join}
use Rattle.totem_packets.specs.declared.commit.CommitToken.{CommitToken}
use Rattle.totem_packets.specs.declared.packet.Packet.{Packet}
use Rattle.totem_packets.specs.declared.packet.Packet.TheVariants as packet
use Rattle.totem_packets.specs.Sets.{has, is_within}
use Rattle.totem_packets.specs.OldRings.{processes_of}
use Rattle.totem_evs.specs.declared.entry.Entry.TheVariants.{Fail}
use Rattle.totem_ring.specs.Rings.{new_ring, first_token, same_ring}
use Rattle.totem_member.specs.declared.views.Phase.{Phase}
use Rattle.totem_member.specs.declared.views.Phase.TheVariants as phase
use Rattle.totem_member.specs.declared.views.Act.{Act}
use Rattle.totem_member.specs.declared.views.Act.TheVariants.{Filled, Entered, Started}
use Rattle.totem_member.specs.Gathers.{Gather, gathered, on_join, on_timeout}
use Rattle.totem_member.specs.Commits.{on_commit}
use Rattle.totem_recover.specs.Exchange.{new_recovery}
use Rattle.totem_core.specs.declared.fault.NodeFault.TheVariants.{Stopped, OtherRing, Stale, Range, Full}
use Rattle.totem_core.specs.declared.input.Input.{Input}
use Rattle.totem_core.specs.declared.input.Input.TheVariants as input
use Rattle.totem_core.specs.Nodes.{Node, State, Operational, Gathering, Committing, InRecovery, Recovering, Stepped, sending, is_sealed, last_change, commit_view, report}
use Rattle.totem_names.specs.Sources.{◌>>=◌}
use Rattle.totem_core.specs.Outcomes.{Outcome, by_member}
use Rattle.totem_core.specs.Gathering.{join_broadcast, commit_passed_on, look_at_consensus, for_a_foreign_message, for_a_join, for_quiet}
use Rattle.totem_core.specs.Visiting.{message_on_installed, message_on_new, visit_installed, visit_new, resend}

-- ---- Message

abbrev pub message_in_operational : Node → Message → Outcome Stepped
message_in_operational n m =
    if same_ring m.ring n.installed.ring then message_on_installed n m
    else if has n.installed.members m.sender then Err OtherRing
    else for_a_foreign_message n m

abbrev pub message_in_gather : Node → Message → Outcome Stepped
message_in_gather n m = if same_ring m.ring n.installed.ring && not (is_sealed n) then message_on_installed n m else Err OtherRing

abbrev pub message_in_recovery : Node → Recovering → Message → Outcome Stepped
message_in_recovery n x m =
    if same_ring m.ring n.installed.ring then Err OtherRing
    else if same_ring m.ring x.ring.ring then message_on_new n x m
    else Err OtherRing

abbrev pub on_message : Node → Message → State → Outcome Stepped
on_message n m Operational = message_in_operational n m
on_message n m (Gathering g) = message_in_gather n m
on_message n m (Committing g) = Err OtherRing
on_message n m (InRecovery x) = message_in_recovery n x m

-- ---- Token

abbrev pub on_token : Node → Token → State → Outcome Stepped
on_token n t Operational = visit_installed n t
on_token n t (Gathering g) = Err Stale
on_token n t (Committing g) = Err Stale
on_token n t (InRecovery x) = visit_new n x t

-- ---- Join

-- the sender is another member of the installed ring, and its seq is below that ring's number
abbrev pub is_late : Node → Join → Bool
is_late n j = not (j.sender == n.me) && has n.installed.members j.sender && nat_lt j.seq n.installed.ring.seq

-- the sender is in M, its sets are within the Gather's, and its seq isn't above the Gather's
abbrev pub says_nothing_new : Gather → Join → Bool
says_nothing_new g j =
    has (gathered g) j.sender
    && (is_within j.processes g.sets.processes && is_within j.failed g.sets.failed)
    && nat_le j.seq g.seq

abbrev pub join_in_gather : Node → Gather → Join → Outcome Stepped
join_in_gather n g j = do
  done ← by_member (on_join g j)
  look_at_consensus n done.gather done.out.members (if done.out.again then join_broadcast done.gather ∷ [] else [])

abbrev pub join_in_commit : Node → Gather → Join → Outcome Stepped
join_in_commit n g j = if says_nothing_new g j then Err Stale else for_a_join n j

abbrev pub on_join_in : Node → Join → State → Outcome Stepped
on_join_in n j Operational = for_a_join n j
on_join_in n j (Gathering g) = join_in_gather n g j
on_join_in n j (Committing g) = join_in_commit n g j
on_join_in n j (InRecovery x) = join_in_commit n x.gather j

-- ---- Commit

-- Filled: the state is then Commit, also after Recovery, which is abandoned.
abbrev pub filling : Node → Gather → CommitToken → Stepped
filling n g token =
    sending (record n { state = Committing g; filled = Some token.ring; seq = token.ring.seq }) (commit_passed_on n.me token ∷ [])

-- a member of the new ring that recovers
abbrev pub recovering : Node → Gather → CommitToken → Recovering
recovering n g token = record {
  gather = g;
  ring = new_ring n.me token.ring (processes_of token.members);
  recovery = new_recovery n.me n.installed token;
  started = false;
}

-- Entered: the node is a member of the new ring, and recovers.
abbrev pub entering : Node → Gather → CommitToken → Stepped
entering n g token = sending (record n { state = InRecovery (recovering n g token) }) (commit_passed_on n.me token ∷ [])

-- Started: the first token of the new ring is taken at once.
abbrev pub starting : Node → State → Outcome Stepped
starting n (InRecovery x) = visit_new n (record x { started = true }) (first_token x.ring.ring)
starting n Operational = Err Stale
starting n (Gathering g) = Err Stale
starting n (Committing g) = Err Stale

abbrev pub acted : Node → Gather → CommitToken → Act → Outcome Stepped
acted n g token Filled = Ok (filling n g token)
acted n g token Entered = Ok (entering n g token)
acted n g token Started = starting n n.state

abbrev pub commit_taken : Node → Gather → Phase → Bool → CommitToken → Outcome Stepped
commit_taken n g phase started token = do
  out ← by_member (on_commit token (commit_view n phase g started) (report n))
  acted n g out.token out.act

abbrev pub on_commit_in : Node → CommitToken → State → Outcome Stepped
on_commit_in n token Operational = Err Stale
on_commit_in n token (Gathering g) = commit_taken n g phase.Gather false token
on_commit_in n token (Committing g) = commit_taken n g phase.Commit false token
on_commit_in n token (InRecovery x) = commit_taken n x.gather phase.Recovery x.started token

-- ---- Timer

-- the third timer in a row without a token or a commit token is a cause to gather
abbrev pub is_quiet : Node → Bool
is_quiet n = nat_le 3 (n.quiet + 1)

abbrev pub counted : Node → Node
counted n = record n { quiet = n.quiet + 1 }

-- the timer is counted: what may have been lost is sent again
abbrev pub counting : Node → State → Stepped
counting n Operational = resend n n.installed
counting n (Gathering g) = sending (counted n) (join_broadcast g ∷ [])
counting n (Committing g) = sending (counted n) []
counting n (InRecovery x) = resend n x.ring

-- the gathering gives up those that didn't agree in time
abbrev pub late : Node → Gather → Outcome Stepped
late n g =
    let done = on_timeout g in
    look_at_consensus (record n { quiet = 0 }) done.gather done.out.members (join_broadcast done.gather ∷ [])

abbrev pub on_timer : Node → State → Outcome Stepped
on_timer n Operational = if is_quiet n then for_quiet n else Ok (counting n Operational)
on_timer n (Gathering g) = if nat_le 2 (n.quiet + 1) then late n g else Ok (counting n (Gathering g))
on_timer n (Committing g) = if is_quiet n then for_quiet n else Ok (counting n (Committing g))
on_timer n (InRecovery x) = if is_quiet n then for_quiet n else Ok (counting n (InRecovery x))

-- ---- Submit and Crash

-- The message waits.
abbrev pub on_submit : Node → Service → List ℕ → Outcome Stepped
on_submit n service payload =
    if nat_lt 1024 (length payload) then Err Range
    else if nat_le 16 (length n.waiting) then Err Full
    else Ok (sending (record n { waiting = n.waiting ++ App service payload ∷ [] }) [])

-- The node fails in the configuration of the last change.
abbrev pub on_crash : Node → Stepped
on_crash n = record { node = record n { crashed = true }; packets = []; entries = Fail (last_change n) ∷ []; ring_steps = [] }

-- ---- The step

abbrev pub on_packet : Node → Packet → Outcome Stepped
on_packet n (packet.Message m) = on_message n m n.state
on_packet n (packet.Token t) = on_token n t n.state
on_packet n (packet.Join j) = if is_late n j then Err Stale else on_join_in n j n.state
on_packet n (packet.Commit token) = on_commit_in n token n.state

abbrev pub taken : Node → Input → Outcome Stepped
taken n (input.Submit service payload) = on_submit n service payload
taken n (input.Packet p) = on_packet n p
taken n input.Timer = on_timer n n.state
taken n input.Crash = Ok (on_crash n)

-- The node step: after Crash every step is Stopped.
abbrev pub step : Node → Input → Outcome Stepped
step n i = if n.crashed then Err Stopped else taken n i
