-- The commit token: how it is made, filled by each member, and taken by each (docs/PROTOCOL.md, "The commit token").
use Rattle.std.specs.Prelude.{ℕ, ◌+◌, ◌^◌, ◌==◌, ◌&&◌, not, List, [], ◌∷◌, length, map, Bool, true, false, if◌then◌else◌, nat_lt, nat_le, Option, None, Some, Result, Ok, Err, is_some}
use Rattle.totem_names.specs.Names.{RingName}
use Rattle.totem_packets.specs.declared.commit.CommitToken.{CommitToken}
use Rattle.totem_packets.specs.declared.commit.Round.{Round}
use Rattle.totem_packets.specs.declared.commit.Round.TheVariants.{First, Second}
use Rattle.totem_packets.specs.declared.commit_member.CommitMember.{CommitMember}
use Rattle.totem_packets.specs.declared.commit_member.Report.{Report}
use Rattle.totem_packets.specs.OldRings.{same_ring, processes_of, is_filled, obligation_union}
use Rattle.totem_packets.specs.Sets.{same_processes, is_least}
use Rattle.totem_member.specs.declared.views.Phase.{Phase}
use Rattle.totem_member.specs.declared.views.Phase.TheVariants.{Gather as InGather, Commit as InCommit, Recovery as InRecovery}
use Rattle.totem_member.specs.declared.views.CommitView.{CommitView}
use Rattle.totem_member.specs.declared.views.CommitOut.{CommitOut}
use Rattle.totem_member.specs.declared.views.Act.TheVariants.{Filled, Entered, Started}
use Rattle.totem_member.specs.declared.fault.MemberFault.{MemberFault}
use Rattle.totem_member.specs.declared.fault.MemberFault.TheVariants.{Stale, Range}

-- the ring that the member forms
abbrev pub next_ring : CommitView → RingName
next_ring v = record { seq = v.seq + 4; rep = v.me }

-- the process's report is filled in; the others stay
abbrev pub filled_by : ℕ → Report → CommitMember → CommitMember
filled_by p report m = if m.proc == p then record { proc = m.proc; report = Some report } else m

abbrev pub unfilled : ℕ → CommitMember
unfilled p = record { proc = p; report = None }

-- the commit token as the least member makes it: in round 1, with its own report filled in
abbrev pub first_commit : CommitView → Report → Result CommitToken MemberFault
first_commit v report =
    if nat_le (2 ^ 32) (v.seq + 4) then Err Range
    else Ok (record { ring = next_ring v; round = First; members = map (filled_by v.me report) (map unfilled v.members) })

abbrev pub is_first : Round → Bool
is_first First = true
is_first Second = false

-- what this process reported
abbrev pub report_of : List CommitMember → ℕ → Option Report
report_of [] p = None
report_of (m ∷ ms) p = if m.proc == p then m.report else report_of ms p

abbrev pub same_report : Report → Report → Bool
same_report a b =
    (a.life == b.life) && same_ring a.ring b.ring && (a.aru == b.aru) && (a.delivered == b.delivered) && same_processes a.obligation b.obligation

-- there is a report, and it is this one
abbrev pub is_report : Option Report → Report → Bool
is_report None report = false
is_report (Some r) report = same_report r report

-- the member made or filled this ring's commit token last
abbrev pub is_filled_ring : Option RingName → RingName → Bool
is_filled_ring None ring = false
is_filled_ring (Some r) ring = same_ring r ring

abbrev pub is_in_commit : Phase → Bool
is_in_commit InGather = false
is_in_commit InCommit = true
is_in_commit InRecovery = false

abbrev pub is_in_recovery : Phase → Bool
is_in_recovery InGather = false
is_in_recovery InCommit = false
is_in_recovery InRecovery = true

-- Filled: round 1, the member's report is missing, and the ring's number is above the greatest it knows
abbrev pub may_fill : CommitToken → CommitView → Bool
may_fill t v = is_first t.round && not (is_some (report_of t.members v.me)) && nat_lt v.seq t.ring.seq

-- Entered: the member has filled this ring's token and is in Commit; all have reported, and the member what it would report now;
-- it is the least and the round is 1, or it is another and the round is 2
abbrev pub may_enter : CommitToken → CommitView → Report → Bool
may_enter t v report =
    is_filled_ring v.filled t.ring
    && is_in_commit v.phase
    && is_filled t.members
    && is_report (report_of t.members v.me) report
    && (if is_least v.members v.me then is_first t.round else not (is_first t.round))

-- Started: the member is the least, in Recovery on this ring, the round is 2, and it hasn't started
abbrev pub may_start : CommitToken → CommitView → Bool
may_start t v =
    is_least v.members v.me
    && is_filled_ring v.filled t.ring
    && is_in_recovery v.phase
    && not (is_first t.round)
    && not v.started

-- the token continues with the member's report
abbrev pub filling : CommitToken → CommitView → Report → CommitOut
filling t v report = record { act = Filled; token = record t { members = map (filled_by v.me report) t.members } }

-- the token continues in round 2, unless the obligation union is too large
abbrev pub entering : CommitToken → Report → Result CommitOut MemberFault
entering t report =
    if nat_lt 32 (length (obligation_union report.ring t.members)) then Err Range
    else Ok (record { act = Entered; token = record t { round = Second } })

-- what a member does with a commit token
abbrev pub on_commit : CommitToken → CommitView → Report → Result CommitOut MemberFault
on_commit t v report =
    if not (same_processes (processes_of t.members) v.members) then Err Stale
    else if may_fill t v then Ok (filling t v report)
    else if may_enter t v report then entering t report
    else if may_start t v then Ok (record { act = Started; token = t })
    else Err Stale
