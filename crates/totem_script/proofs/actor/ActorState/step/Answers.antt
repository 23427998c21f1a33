use Rattle.std.proofs.Common.{rules}
use Rattle.totem_script.proofs.Acting.{passed_over, too_many, goes_on}
use Rattle.totem_script.proofs.actor.ActorState.step.Goals as goal

pub returns-in-Err-clause-stepped : goal.returns-in-Err-clause-stepped
returns-in-Err-clause-stepped c = rw (← c.self.view_is) (passed_over _ c.args.input c.step.new.self c.in-Err.fault (search rules) (search rules) c.new.result.items (search rules))

pub returns-then-len-clause-stepped : goal.returns-then-len-clause-stepped
returns-then-len-clause-stepped c =
    let many = too_many _ c.args.input c.step.new.self c.in-Ok.out.packets.items c.in-Ok.out.entries.items c.in-Ok.out.ring_steps.items (search rules) (search rules) in
    rw (← c.self.view_is) (record { is = λ _. many })

pub returns-clause-stepped : goal.returns-clause-stepped
returns-clause-stepped c = rw (← c.self.view_is) (goes_on _ c.args.input c.step.new.self c.in-Ok.out.packets.items c.in-Ok.out.entries.items c.in-Ok.out.ring_steps.items (search rules) (search rules) _ (search rules))
