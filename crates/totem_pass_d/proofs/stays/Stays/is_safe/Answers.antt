use Rattle.totem_pass_d.proofs.Reaching.{safe_or_not}
use Rattle.totem_pass_d.proofs.stays.Stays.is_safe.Goals as goal

pub returns-in-Some : goal.returns-in-Some
returns-in-Some c =
    let s = c.args.self.now in
    safe_or_not s.run.now.logs s.ring c.args.message.now c.in-Some.sending _ c.requires.meets c.in-Some.ensures.found c.is_safe_service.ensures
