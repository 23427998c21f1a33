use Rattle.totem_pass_d.proofs.Common.{◌≡◌, ℕ, Bool, Option, Some, None, IfSome, OnTrue, is_some}
use Rattle.totem_pass_d.proofs.stays.Stays.delivers.Goals as goal

there : (P : ℕ → Type 0) (found : Option ℕ) (b : Bool) → b ≡ is_some found → IfSome found P → OnTrue b ((k : ℕ) × P k)
there P None b is has = rw is tt
there P (Some k) b is has = rw is (k, has)

pub returns-clause-there : goal.returns-clause-there
returns-clause-there c = there _ c.delivery_of.result c.is_some.result c.is_some.ensures c.delivery_of.ensures.found
