-- The table of a log, entry by entry.
use Rattle.std.specs.Prelude.{ℕ, ◌<◌, ◌≤◌, List, Option, Some, None}
use Rattle.std.specs.BTreeMap as tree
use Rattle.totem_names.specs.declared.ring.RingId.{RingId}
use Rattle.totem_names.specs.declared.conf.ConfId.{ConfId}
use Rattle.totem_names.specs.declared.conf.ConfId.TheVariants.{Regular}
use Rattle.totem_evs.specs.declared.entry.Entry.{Entry}
use Rattle.totem_evs.specs.Events.{ChangesTo, IsTransitional}
use Rattle.totem_evs.specs.Following.{IsNextChange, IsFirstChange, Follows}
use Rattle.totem_stitch.specs.declared.table.Table.{Table}
use Rattle.totem_stitch.specs.Followers.{IsFollower, IsOrigin, FollowsFirst}
use Rattle.totem_stitch.specs.Tables.{ring_order, conf_order, follower_in, origin_in}

-- the entry at i does not change to a regular configuration
pub record IsNoRegular (log : List Entry) (i : ℕ) : Type 0 where
  pub never : (c : RingId) → ChangesTo log i (Regular c) → ⊥

-- the next change after i is to x
pub record ComesNext (log : List Entry) (i : ℕ) (x : ConfId) : Type 0 where
  pub to : ℕ
  pub next : IsNextChange log i to
  pub change : ChangesTo log to x

-- the next change after i, if there is one, is not to a transitional configuration
pub record NoneComesNext (log : List Entry) (i : ℕ) : Type 0 where
  pub never : (x : ConfId) → ComesNext log i x → IsTransitional x → ⊥

-- the next change after i is to x, which is transitional
pub record MovesNext (log : List Entry) (i : ℕ) (x : ConfId) : Type 0 where
  pub next : ComesNext log i x
  pub transitional : IsTransitional x

-- the first n entries do not change to c
pub record HasNotCome (log : List Entry) (n : ℕ) (c : RingId) : Type 0 where
  pub never : (i : ℕ) → i < n → ChangesTo log i (Regular c) → ⊥

-- one of them does, and `follower` is what follows c
pub record HasCome (log : List Entry) (n : ℕ) (c : RingId) (follower : Option ConfId) : Type 0 where
  pub index : ℕ
  pub before : index < n
  pub first : IsFirstChange log (Regular c) index
  pub follows : IsFollower log c follower

abbrev pub KnowsFollower : List Entry → ℕ → RingId → Option (Option ConfId) → Type 0
KnowsFollower log n c None = HasNotCome log n c
KnowsFollower log n c (Some follower) = HasCome log n c follower

-- no regular configuration that t follows is among the first n entries
pub record HasNoOrigin (log : List Entry) (n : ℕ) (t : ConfId) : Type 0 where
  pub later : (c : RingId) (other : Follows log c t) → n ≤ other.from

abbrev pub KnowsOrigin : List Entry → ℕ → ConfId → Option RingId → Type 0
KnowsOrigin log n t None = HasNoOrigin log n t
KnowsOrigin log n t (Some c) = FollowsFirst log c t

-- the table knows the first n entries of the log
pub record KnowsLog (table : Table) (log : List Entry) (n : ℕ) : Type 0 where
  pub followers : (c : RingId) → KnowsFollower log n c (tree.get ring_order table.followers c)
  pub origins : (t : ConfId) → KnowsOrigin log n t (tree.get conf_order table.origins t)

-- this is the table of the log
pub record IsTable (table : Table) (log : List Entry) : Type 0 where
  pub followers : (c : RingId) → IsFollower log c (follower_in table c)
  pub origins : (t : ConfId) → IsOrigin log t (origin_in table t)
