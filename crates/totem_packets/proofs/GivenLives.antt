-- The lives that a packet can give: where it doesn't carry them, each is the first.
use Rattle.totem_packets.proofs.Common.{◌≡◌, ℕ, List, false, refl, arith, All, nat_lt, le-ltb, IsCommitMember, reported_life, has_later_life}
use Rattle.std.proofs.lemmas.Bool.Decides.{nat_tests}
use Rattle.std.proofs.lemmas.List.Folds.{list_any_none, list_any_at}
use Rattle.totem_packets.specs.declared.commit_member.CommitMember.{CommitMember}
use Rattle.totem_packets.specs.declared.lives.Lives.{Lives}
use Rattle.totem_packets.specs.declared.lives.Lives.TheVariants.{Untold, Told}

-- a life that the reports can have
abbrev pub GivesLife : Lives → ℕ → Type 0
GivesLife Untold life = life ≡ 1
GivesLife Told life = Unit {0}

pub gives_first : (lives : Lives) → GivesLife lives 1
gives_first Untold = refl
gives_first Told = tt

-- each member has a life that the reports can have
abbrev pub GivesLives : Lives → List CommitMember → Type 0
GivesLives lives members = All (λ m. GivesLife lives (reported_life m.report)) members

pub gives_each : (members : List CommitMember) → GivesLives Told members
gives_each members = λ k d within. tt

-- where reports carry no lives, none is above the first
pub none_later : (members : List CommitMember) → GivesLives Untold members → has_later_life members ≡ false
none_later members given = list_any_none (λ m. nat_lt 1 (reported_life m.report)) members (λ k d within. le-ltb _ _ (omega (arith, given k d within)))

-- where none is above the first, reports need not carry lives
pub first_each : (members : List CommitMember) → All IsCommitMember members → has_later_life members ≡ false → GivesLives Untold members
first_each members each none = λ k d within.
    grind (arith, nat_tests, list_any_at (λ m. nat_lt 1 (reported_life m.report)) members k d, each k d within)
