-- The result of writing a run, and what the sink then holds (docs/SPECIFICATIONS.md, "Run text").
use Rattle.std.specs.Prelude.{◌≡◌, ◌+◌, ◌%◌, ◌^◌, List, ℕ, Result, Ok, Err}
use Rattle.totem_names.specs.Writing.{Held, Wrote}
use Rattle.totem_evs.specs.declared.writing.WriteFault.{WriteFault}
use Rattle.totem_evs.specs.declared.writing.WriteFault.TheVariants as faults

-- the text was appended to the sink; or nothing was written; or the sink failed in this call
abbrev pub WritesText : {A : Type 0} → Held → Held → Result A WriteFault → List ℕ → Type 0
WritesText old new (Ok a) text = Wrote old new text
WritesText old new (Err faults.Memory) text = new ≡ old
WritesText old new (Err faults.Write) text = new.failures ≡ (old.failures + 1) % 2 ^ 64
