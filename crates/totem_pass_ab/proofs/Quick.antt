-- When a quick test makes a search unnecessary.
use Rattle.totem_pass_ab.proofs.Common.{List, Bool, true, false, not, IsTrue, ◌↔◌, refl, OnFalse, not_there, Place, HoldsOfNone}

-- what follows from a fact, if only the existence of its proof is known
pub none_known : {K : Type 0} (H : List Place → Type 0) → ∥ K ∥₁ → (K → HoldsOfNone H) → HoldsOfNone H
none_known H known shows = record { none = λ places h. not_there known (λ k. (shows k).none places h) }

pub unless : (b : Bool) (P Q : Type 0) → IsTrue b ↔ Q → (Q → P) → OnFalse (not b) P
unless true P Q decides f = f (decides.0 refl)
unless false P Q decides f = tt
