-- The configuration that follows a regular one in a log, and the regular one that a configuration follows
-- (docs/SPECIFICATIONS.md, "Following").
use Rattle.std.specs.Prelude.{◌≤◌, List, Option, Some, None}
use Rattle.totem_names.specs.declared.ring.RingId.{RingId}
use Rattle.totem_names.specs.declared.conf.ConfId.{ConfId}
use Rattle.totem_evs.specs.declared.entry.Entry.{Entry}
use Rattle.totem_evs.specs.Following.{Follows}

-- nothing follows c
pub record NothingFollows (log : List Entry) (c : RingId) : Type 0 where
  pub never : (t : ConfId) → Follows log c t → ⊥

-- the configuration that follows c, if any
abbrev pub IsFollower : List Entry → RingId → Option ConfId → Type 0
IsFollower log c None = NothingFollows log c
IsFollower log c (Some t) = Follows log c t

-- t follows c, and no regular configuration that t follows has its first change before that of c
pub record FollowsFirst (log : List Entry) (c : RingId) (t : ConfId) : Type 0 where
  pub follows : Follows log c t
  pub earliest : (d : RingId) (other : Follows log d t) → follows.from ≤ other.from

-- t follows no regular configuration
pub record FollowsNothing (log : List Entry) (t : ConfId) : Type 0 where
  pub never : (c : RingId) → Follows log c t → ⊥

-- the first regular configuration that t follows, if it follows one
abbrev pub IsOrigin : List Entry → ConfId → Option RingId → Type 0
IsOrigin log t None = FollowsNothing log t
IsOrigin log t (Some c) = FollowsFirst log c t
