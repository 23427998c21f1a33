-- How a member takes a commit token (docs/PROTOCOL.md, "The commit token").
use Rattle.std.specs.Prelude.{ℕ, map}
use Rattle.totem_packets.specs.declared.commit.CommitToken.{CommitToken}
use Rattle.totem_packets.specs.declared.commit.Round.TheVariants.{Second}
use Rattle.totem_packets.specs.declared.commit_member.Report.{Report}
use Rattle.totem_member.specs.declared.views.Act.{Act}
use Rattle.totem_member.specs.declared.views.Act.TheVariants.{Filled, Entered, Started}
use Rattle.totem_member.specs.Commits.{filled_by}

-- the token after it is taken: with the member's report, in its second round, or unchanged
abbrev pub passed_on : CommitToken → ℕ → Report → Act → CommitToken
passed_on t me report Filled = record t { members = map (filled_by me report) t.members }
passed_on t me report Entered = record t { round = Second }
passed_on t me report Started = t
