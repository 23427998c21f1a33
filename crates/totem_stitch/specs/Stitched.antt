-- The tables of a run.
use Rattle.std.specs.Prelude.{ℕ, List, Option, Some, None}
use Rattle.std.specs.BTreeMap as tree
use Rattle.totem_names.specs.declared.ring.RingId.{RingId}
use Rattle.totem_names.specs.declared.conf.ConfId.{ConfId}
use Rattle.totem_evs.specs.declared.log.Log.{Log}
use Rattle.totem_evs.specs.Events.{log_of}
use Rattle.totem_stitch.specs.declared.table.Table.{Table}
use Rattle.totem_stitch.specs.declared.stitch.Stitch.{Stitch}
use Rattle.totem_stitch.specs.Followers.{IsFollower, IsOrigin}
use Rattle.totem_stitch.specs.Tables.{process_order, follower_in, origin_in}

-- what follows c according to a table; nothing if there is no table
abbrev pub follower_by : Option Table → RingId → Option ConfId
follower_by None c = None
follower_by (Some table) c = follower_in table c

abbrev pub origin_by : Option Table → ConfId → Option RingId
origin_by None t = None
origin_by (Some table) t = origin_in table t

-- what follows c at p according to the tables
abbrev pub follower_of : Stitch → ℕ → RingId → Option ConfId
follower_of stitch p c = follower_by (tree.get process_order stitch.tables p) c

-- the first regular configuration that t follows at p according to the tables
abbrev pub origin_of : Stitch → ℕ → ConfId → Option RingId
origin_of stitch p t = origin_by (tree.get process_order stitch.tables p) t

-- these are the tables of the run: for each process they have what follows each regular configuration in its log, and
-- the first regular one that each configuration follows
pub record IsStitch (stitch : Stitch) (run : List Log) : Type 0 where
  pub followers : (p : ℕ) (c : RingId) → IsFollower (log_of run p) c (follower_of stitch p c)
  pub origins : (p : ℕ) (t : ConfId) → IsOrigin (log_of run p) t (origin_of stitch p t)
