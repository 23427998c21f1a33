-- Changes that compare as equal are the same.
use Rattle.totem_table.proofs.Common.{ℕ, ap, ◌∙◌, ConfId}
use Rattle.std.proofs.lemmas.Map.Lookups.{CmpEqualImpliesEq}
use Rattle.totem_names.specs.contracts.life.ProcOrd.TheImpl as life
use Rattle.totem_names.specs.contracts.conf.ConfIdOrd.TheImpl as conf
use Rattle.totem_names.proofs.Exact.{both_equal, exact_conf}
use Rattle.totem_evs.proofs.ProcOrder.{exact_proc}
use Rattle.totem_table.specs.declared.keys.Change.{Change}
use Rattle.totem_table.specs.contracts.keys.ChangeOrd.TheImpl as change

abbrev pub change_by : ℕ → ConfId → Change
change_by p x = record { proc = p; conf = x }

pub exact_change : CmpEqualImpliesEq change.cmp-value.it
exact_change v w e = let h = both_equal (life.cmp-value.it v.proc w.proc) (conf.cmp-value.it v.conf w.conf) e in
    ap (λ (x : ℕ). change_by x v.conf) (exact_proc v.proc w.proc h.0) ∙ ap (change_by w.proc) (exact_conf v.conf w.conf h.1)
