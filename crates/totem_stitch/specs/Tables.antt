-- The table of one log.
use Rattle.std.specs.Prelude.{ℕ, Option, None, unwrap_or}
use Rattle.std.specs.declared.cmp.Ordering.{Ordering}
use Rattle.std.specs.BTreeMap as tree
use Rattle.totem_names.specs.declared.ring.RingId.{RingId}
use Rattle.totem_names.specs.declared.conf.ConfId.{ConfId}
use Rattle.totem_stitch.specs.declared.table.Table.{Table}

-- the order of processes
abbrev pub process_order : ℕ → ℕ → Ordering
process_order = (Rattle.totem_names.specs.contracts.life.ProcOrd.TheImpl.cmp-value).it

-- the order of rings
abbrev pub ring_order : RingId → RingId → Ordering
ring_order = (Rattle.totem_names.specs.contracts.ring.RingIdOrd.TheImpl.cmp-value).it

-- the order of configurations
abbrev pub conf_order : ConfId → ConfId → Ordering
conf_order = (Rattle.totem_names.specs.contracts.conf.ConfIdOrd.TheImpl.cmp-value).it

-- what follows c according to the table of a log
abbrev pub follower_in : Table → RingId → Option ConfId
follower_in table c = unwrap_or (tree.get ring_order table.followers c) None

-- the first regular configuration that t follows according to the table
abbrev pub origin_in : Table → ConfId → Option RingId
origin_in table t = tree.get conf_order table.origins t
