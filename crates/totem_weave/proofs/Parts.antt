-- What holds of all that isn't refused, by its parts.
use Rattle.totem_weave.proofs.Common.{◌≡◌, Bool, true, false, cond, Result, Ok, Err, IfOk, refl, RingFault, ◌>>=◌, Outcome, by_ring, by_member}
use Rattle.totem_member.specs.declared.fault.MemberFault.{MemberFault}

pub if_either : {A E : Type 0} (P : A → Type 0) (test : Bool) (x y : Result A E) → (test ≡ true → IfOk x P) → (test ≡ false → IfOk y P) → IfOk (cond test x y) P
if_either P true x y this other = this refl
if_either P false x y this other = other refl

pub if_next : {A B : Type 0} (P : B → Type 0) (o : Outcome A) (next : A → Outcome B) → ((x : A) → IfOk (next x) P) → IfOk (o >>= next) P
if_next P (Ok x) next each = each x
if_next P (Err fault) next each = tt

pub if_by_ring : {A B : Type 0} (Q : A → Type 0) (P : B → Type 0) (o : Result A RingFault) (next : A → Outcome B)
    → IfOk o Q → ((x : A) → Q x → IfOk (next x) P) → IfOk (by_ring o >>= next) P
if_by_ring Q P (Ok x) next known each = each x known
if_by_ring Q P (Err fault) next known each = tt

pub if_by_member : {A B : Type 0} (Q : A → Type 0) (P : B → Type 0) (o : Result A MemberFault) (next : A → Outcome B)
    → IfOk o Q → ((x : A) → Q x → IfOk (next x) P) → IfOk (by_member o >>= next) P
if_by_member Q P (Ok x) next known each = each x known
if_by_member Q P (Err fault) next known each = tt
