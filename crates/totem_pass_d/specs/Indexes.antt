-- What the indices kept for the deliveries of a part of a log say.
use Rattle.std.specs.Prelude.{◌≡◌, ℕ, ◌-◌, ◌<◌, ◌≤◌, List, length, slice_get, Option, None, Some}
use Rattle.std.specs.BTreeMap as tree
use Rattle.totem_names.specs.declared.message.MsgId.{MsgId}
use Rattle.totem_names.specs.contracts.message.MsgIdOrd.TheImpl as message
use Rattle.totem_evs.specs.declared.entry.Entry.{Entry}
use Rattle.totem_evs.specs.declared.entry.Entry.TheVariants.{Deliver}
use Rattle.totem_pass_d.specs.declared.indexes.Row.{Row}
use Rattle.totem_pass_d.specs.declared.indexes.Indexes.{Indexes}
use Rattle.totem_pass_d.specs.declared.indexes.Indexes.TheVariants.{ByNumber, ByMessage}

-- the part is within its log, which is not too long
pub record IsShortPart (log : List Entry) (from end : ℕ) : Type 0 where
  pub some : from < end
  pub within : end ≤ length log
  pub few : length log ≤ 1000000

-- the message that an entry delivers
abbrev pub delivered_by : Option Entry → Option MsgId
delivered_by (Some (Deliver m x)) = Some m
delivered_by _ = None

-- the message that the entry at i of the log delivers
abbrev pub delivered_at : List Entry → ℕ → Option MsgId
delivered_at log i = delivered_by (slice_get log i)

-- the entry at i is in the part and delivers m
pub record IsDelivery (log : List Entry) (from end : ℕ) (m : MsgId) (i : ℕ) : Type 0 where
  pub after : from < i
  pub until : i < end
  pub does : delivered_at log i ≡ Some m

-- no entry of the part delivers m
pub record IsNoDelivery (log : List Entry) (from end : ℕ) (m : MsgId) : Type 0 where
  pub never : (i : ℕ) → IsDelivery log from end m i → ⊥

-- what a row has noted for m
abbrev pub noted : Row → MsgId → Option ℕ
noted row m = slice_get row.notes.items (m.number - row.first)

-- the index that is kept for m
abbrev pub told : Indexes → MsgId → Option ℕ
told (ByNumber row) m = noted row m
told (ByMessage map) m = tree.get message.cmp-value.it map m

-- the index kept for m is one at which m is delivered
pub record IsTold (kept : MsgId → Option ℕ) (log : List Entry) (from end : ℕ) (m : MsgId) : Type 0 where
  pub at : ℕ
  pub told_of : kept m ≡ Some at
  pub does : IsDelivery log from end m at

-- for each message that is delivered before n, an index at which it is delivered is kept
pub record Tells (kept : MsgId → Option ℕ) (log : List Entry) (from end n : ℕ) : Type 0 where
  pub each : (i : ℕ) (m : MsgId) → i < n → IsDelivery log from end m i → IsTold kept log from end m
