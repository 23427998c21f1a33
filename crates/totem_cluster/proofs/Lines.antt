-- Lines for the stream of errors.
use Rattle.totem_certificate.proofs.Common.{◌≡◌, codes, refl, line}
use Rattle.totem_script.specs.declared.script_fault.ScriptFault.{ScriptFault}
use Rattle.totem_script.specs.declared.script_fault.ScriptFault.TheVariants as script_faults
use Rattle.totem_script.specs.ScriptFaults.{fault_number as script_fault_number, fault_name as script_fault_name}
use Rattle.totem_verdicts.specs.Endings.{refusal_text}
use Rattle.totem_cluster.specs.Endings.{script_line}

pub script_not_read : (fault : ScriptFault) → (fault ≡ script_faults.Read → ⊥)
    → line (refusal_text (codes "totem: script refused: ") (script_fault_number fault) (script_fault_name fault)) ≡ script_line fault
script_not_read script_faults.Header no_read = refl
script_not_read script_faults.Word no_read = refl
script_not_read script_faults.Number no_read = refl
script_not_read script_faults.Order no_read = refl
script_not_read script_faults.Members no_read = refl
script_not_read script_faults.Place no_read = refl
script_not_read script_faults.End no_read = refl
script_not_read script_faults.Truncated no_read = refl
script_not_read script_faults.TooMany no_read = refl
script_not_read script_faults.Read no_read = absurd (no_read refl)
script_not_read script_faults.Memory no_read = refl
