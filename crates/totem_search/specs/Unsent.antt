-- 1.3 at an entry (docs/SPECIFICATIONS.md, "1 Basic delivery").
use Rattle.std.specs.Prelude.{List}
use Rattle.totem_evs.specs.declared.entry.Entry.{Entry}
use Rattle.totem_evs.specs.declared.entry.Entry.TheVariants.{Deliver}
use Rattle.totem_evs.specs.declared.log.Log.{Log}
use Rattle.totem_judge_run.specs.Sent.{WasSentTo}

-- a delivery in this log of what was not sent for it
abbrev pub IsUnsentDelivery : List Log → List Entry → Entry → Type 0
IsUnsentDelivery run log (Deliver m d) = WasSentTo run log m d → ⊥
IsUnsentDelivery run log _ = ⊥
