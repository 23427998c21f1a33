use Rattle.std.proofs.Common.{refl}
use Rattle.totem_judge_run.proofs.misplaced_2_2.fits.Goals as goal

pub returns-in-Some : goal.returns-in-Some
returns-in-Some c =
    let names = c.in-Some.ensures.some c.args.standing.now in
    (λ is. names.1 (c.is_in.ensures.0 is), λ fits. c.is_in.ensures.1 (names.0 fits))

pub returns-in-None : goal.returns-in-None
returns-in-None c = (λ is. c.in-None.ensures.none c.args.standing.now, λ fits. refl)
