-- What is known of a call once it is known how a commit token is taken.
use Rattle.std.proofs.Common.{◌≡◌, ◌≢◌, Result, Ok, Err, refl, sym, subst}
use Rattle.std.specs.Result.{IsOk}
use Rattle.totem_member.specs.declared.fault.MemberFault.{MemberFault}
use Rattle.totem_member.specs.declared.fault.MemberFault.TheVariants.{Stranger, Stale, Range, Memory}
use Rattle.totem_member.specs.Steps.{IsAnswer}

-- the rules' own fault
pub refused : {A : Type 0} (fault : MemberFault) (written : Result A MemberFault) → fault ≢ Memory → written ≡ Err fault → IsAnswer (Err fault) written
refused Stranger written known is = is
refused Stale written known is = is
refused Range written known is = is
refused Memory written known is = absurd (known refl)

-- out of memory is a possible result for a token that is taken
pub grown : {A : Type 0} (out : A) (answer written : Result A MemberFault) → written ≡ Ok out → answer ≡ Err Memory → IsAnswer answer written
grown out answer written taken wanting = subst (λ a. IsAnswer a written) (sym wanting) (subst (λ w. IsOk w) (sym taken) refl)
