-- The one spelling of each name, and the numbers that have one.
use Rattle.std.specs.Prelude.{ℕ, ◌<◌, ◌≤◌, List, ◌++◌, codes, decimal}
use Rattle.totem_names.specs.declared.conf.ConfId.{ConfId}
use Rattle.totem_names.specs.declared.conf.ConfId.TheVariants.{Regular, Transitional}
use Rattle.totem_names.specs.declared.message.Service.{Service}
use Rattle.totem_names.specs.declared.message.Service.TheVariants.{Agreed, Safe}
use Rattle.totem_names.specs.Names.{RingName, MessageName}

-- a ring: its number, a dot, its representative
abbrev pub ring_text : RingName → List ℕ
ring_text c = decimal c.seq ++ codes "." ++ decimal c.rep

-- a configuration: `r` and its ring, or `t`, the next ring, a slash and the least member
abbrev pub conf_text : ConfId → List ℕ
conf_text (Regular c) = codes "r" ++ ring_text c
conf_text (Transitional least next) = codes "t" ++ ring_text next ++ codes "/" ++ decimal least

-- a message: its ring, a hash, its number
abbrev pub message_text : MessageName → List ℕ
message_text m = ring_text m.ring ++ codes "#" ++ decimal m.number

-- a service: its first letter
abbrev pub service_text : Service → List ℕ
service_text Agreed = codes "a"
service_text Safe = codes "s"

-- a number from 1 to max
pub record IsUpTo (max n : ℕ) : Type 0 where
  pub positive : 0 < n
  pub small : n ≤ max

-- a process's number
abbrev pub IsProcess : ℕ → Type 0
IsProcess = IsUpTo 65535

-- a ring's parts are in range
pub record IsRing (c : RingName) : Type 0 where
  pub seq_fits : IsUpTo 4294967295 c.seq
  pub rep_fits : IsProcess c.rep

-- a configuration's parts are in range
abbrev pub IsConf : ConfId → Type 0
IsConf (Regular c) = IsRing c
IsConf (Transitional least next) = IsRing next × IsProcess least

-- a message's parts are in range
pub record IsMessage (m : MessageName) : Type 0 where
  pub ring_fits : IsRing m.ring
  pub number_fits : IsUpTo 4294967295 m.number
