-- 1.3 in the form of a search: the sends for a delivery (docs/SPECIFICATIONS.md, "1 Basic delivery").
use Rattle.std.specs.Prelude.{◌≡◌, ℕ, List}
use Rattle.totem_names.specs.declared.conf.ConfId.{ConfId}
use Rattle.totem_names.specs.declared.conf.ConfId.TheVariants.{Regular, Transitional}
use Rattle.totem_names.specs.declared.message.MsgId.{MsgId}
use Rattle.totem_names.specs.declared.ring.RingId.{RingId}
use Rattle.totem_evs.specs.declared.entry.Entry.{Entry}
use Rattle.totem_evs.specs.declared.entry.Entry.TheVariants.{Conf, Send, Deliver, Fail}
use Rattle.totem_evs.specs.declared.log.Log.{Log}
use Rattle.totem_evs.specs.Events.{WasSentIn}
use Rattle.totem_evs.specs.Following.{Com}

-- m was sent in d, or in the regular configuration that d follows in this log
abbrev pub WasSentTo : List Log → List Entry → MsgId → ConfId → Type 0
WasSentTo run log m d = (c : RingId) × WasSentIn run m (Regular c) × Com log c d

-- a send of m in d, or in the regular configuration that d follows in this log
abbrev pub IsSendTo : List Entry → MsgId → ConfId → ℕ → ℕ → Entry → Type 0
IsSendTo log m d q j (Conf x ms) = ⊥
IsSendTo log m d q j (Send n (Regular c) service) = (n ≡ m) × Com log c d
IsSendTo log m d q j (Send n (Transitional least next) service) = ⊥
IsSendTo log m d q j (Deliver n x) = ⊥
IsSendTo log m d q j (Fail x) = ⊥
