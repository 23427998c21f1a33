-- The members of commit tokens, and what they report (docs/PROTOCOL.md, "Packets").
use Rattle.std.specs.Prelude.{ℕ, ◌<◌, ◌≤◌, ◌^◌, List, length, All, AllPairs, IfSome}
use Rattle.totem_names.specs.Texts.{IsUpTo, IsProcess, IsRing}
use Rattle.totem_packets.specs.declared.commit_member.Report.{Report}
use Rattle.totem_packets.specs.declared.commit_member.CommitMember.{CommitMember}
use Rattle.totem_packets.specs.Rising.{IsProcesses}

-- the number of a life of an identifier
abbrev pub IsLife : ℕ → Type 0
IsLife = IsUpTo 65535

pub record IsReport (r : Report) : Type 0 where
  pub life : IsLife r.life
  pub ring : IsRing r.ring
  pub aru : r.aru < 2 ^ 32
  pub delivered : r.delivered < 2 ^ 32
  pub obligation : IsProcesses r.obligation

pub record IsCommitMember (m : CommitMember) : Type 0 where
  pub proc : IsProcess m.proc
  pub report : IfSome m.report IsReport

abbrev pub IsBelowMember : CommitMember → CommitMember → Type 0
IsBelowMember a b = a.proc < b.proc

-- 1 to 32 members, their processes strictly ascending
pub record IsCommitMembers (members : List CommitMember) : Type 0 where
  pub some : 0 < length members
  pub few : length members ≤ 32
  pub rising : AllPairs IsBelowMember members
  pub each : All IsCommitMember members
