-- The lives that the members of a commit token report, and when its packet carries them (docs/PROTOCOL.md, "Packets").
use Rattle.std.specs.Prelude.{ℕ, List, map, Option, Some, None, Bool, nat_lt, if◌then◌else◌}
use Rattle.std.specs.List.{list_any}
use Rattle.totem_names.specs.Names.{RingName}
use Rattle.totem_names.specs.Ranks.{rank_of}
use Rattle.totem_packets.specs.declared.commit_member.Report.{Report}
use Rattle.totem_packets.specs.declared.commit_member.CommitMember.{CommitMember}
use Rattle.totem_packets.specs.declared.lives.Lives.{Lives}
use Rattle.totem_packets.specs.declared.lives.Lives.TheVariants.{Untold, Told}
use Rattle.totem_packets.specs.OldRings.{those_from}

-- the life that a member reports from; without a report it counts as the first
abbrev pub reported_life : Option Report → ℕ
reported_life None = 1
reported_life (Some r) = r.life

-- a member reports from a life above the first
abbrev pub has_later_life : List CommitMember → Bool
has_later_life members = list_any (λ m. nat_lt 1 (reported_life m.report)) members

-- the reports carry lives where one is above the first
abbrev pub lives_of : List CommitMember → Lives
lives_of members = if has_later_life members then Told else Untold

-- the first byte of a commit token's packet
abbrev pub commit_kind : Lives → ℕ
commit_kind Untold = 4
commit_kind Told = 5

-- ---- members as processes of a run

-- a member as a process of a run, in the life that it reports from
abbrev pub member_rank : CommitMember → ℕ
member_rank m = rank_of m.proc (reported_life m.report)

abbrev pub member_ranks : List CommitMember → List ℕ
member_ranks members = map member_rank members

-- the transitional set, each member in the life that it reports from
abbrev pub transitional_ranks : RingName → List CommitMember → List ℕ
transitional_ranks old members = member_ranks (those_from old members)
