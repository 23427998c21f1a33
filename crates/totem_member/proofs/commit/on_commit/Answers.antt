use Rattle.totem_member.proofs.Common.{ap, ◌∙◌, Err, err_from_is_err_and}
use Rattle.totem_member.proofs.Ways.{grown}
use Rattle.totem_member.proofs.commit.on_commit.Goals as goal

pub returns-in_err-token : goal.returns-in_err-token
returns-in_err-token c =
    let p = err_from_is_err_and c.from_residual-in_err-token.result c.from_residual-in_err-token.ensures.1 in
    grown _ c.from_residual-in_err-token.result _ c.in_ok-act.ensures.act (p.1 ∙ ap (λ e. Err e) p.2)
