-- Writing one text after the other.
use Rattle.std.proofs.Common.{arith}
use Rattle.totem_names.proofs.Common.{◌≡◌, ℕ, ◌+◌, ◌%◌, ◌^◌, List, ◌++◌, Option, Result, Ok, Err, ap, ◌∙◌, append_assoc, Appends}
use Rattle.totem_names.specs.Writing.{Held, Wrote, Writes}

appends_then : (a b c : Option (List ℕ)) (x y : List ℕ) → Appends a b x → Appends b c y → Appends a c (x ++ y)
appends_then a b c x y h k = grind (arith, append_assoc)

-- one text, and then another
pub wrote_then : {A E : Type 0} (old mid new : Held) (r : Result A E) (x y : List ℕ) → Wrote old mid x → Writes mid new r y → Writes old new r (x ++ y)
wrote_then old mid new (Ok a) x y p q = record { grown = appends_then old.contents mid.contents new.contents x y p.grown q.grown; failures = q.failures ∙ p.failures }
wrote_then old mid new (Err e) x y p q = q ∙ ap (λ (n : ℕ). (n + 1) % 2 ^ 64) p.failures

-- one text after the other
pub wrote_both : (old mid new : Held) (x y : List ℕ) → Wrote old mid x → Wrote mid new y → Wrote old new (x ++ y)
wrote_both old mid new x y p q = record { grown = appends_then old.contents mid.contents new.contents x y p.grown q.grown; failures = q.failures ∙ p.failures }

-- the next text failed
pub wrote_failed : (old mid new : Held) (x : List ℕ) → Wrote old mid x → new.failures ≡ (mid.failures + 1) % 2 ^ 64 → new.failures ≡ (old.failures + 1) % 2 ^ 64
wrote_failed old mid new x p q = q ∙ ap (λ (n : ℕ). (n + 1) % 2 ^ 64) p.failures
