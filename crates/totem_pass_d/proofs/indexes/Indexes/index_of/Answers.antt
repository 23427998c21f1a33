use Rattle.totem_pass_d.proofs.Common.{sym, ◌∙◌, told}
use Rattle.totem_pass_d.proofs.Sending.{untold_never}
use Rattle.totem_pass_d.proofs.indexes.Indexes.index_of.Goals as goal

pub returns-in_err-at-clause-none : goal.returns-in_err-at-clause-none
returns-in_err-at-clause-none c = rw c.from_residual.ensures (untold_never (told c.args.self.now) _ _ _ _ c.requires (sym c.told.ensures ∙ c.in_err-at.was))
