use Rattle.totem_cert.proofs.Common.{ℕ, length, ◌∙◌, ap, numbers_of}
use Rattle.totem_cert.proofs.LineFacts.{given_of, no_numbers}
use Rattle.totem_cert.proofs.step.given.Goals as goal

pub returns-in-Some : goal.returns-in-Some
returns-in-Some c =
    c.given_at.ensures ∙ given_of _ _ _ _ c.in-Some.ensures.run.rising c.requires c.in-Some.ensures.log.1 ∙ ap (λ (p : ℕ). length (numbers_of c.args.lines.now p)) c.in-Some.ensures.log.2

pub returns-in-None : goal.returns-in-None
returns-in-None c = no_numbers _ _ _ c.requires c.in-None.ensures.log
