use Rattle.totem_script.proofs.Common.{rules, ◌≡◌, ◌+◌, [], ◌∷◌, length, ap, true, arith, RingName, LogRecord, first_change, Actor, may_return, next_life}
use Rattle.totem_script.proofs.Acting.{recorded_loud}
use Rattle.totem_script.proofs.NextLife.{can_return, next_history, is_back}
use Rattle.totem_script.proofs.actor.ActorState.bring_back.Goals as goal

pub invariant_of-self-2 : goal.invariant_of-self-2
invariant_of-self-2 c =
    let a : Actor = record { proc = c.self.inside.proc; earlier = c.self.inside.earlier.items; node = c.self.inside.node; entries = c.self.inside.entries.items } in
    let may : may_return a ≡ true = rw (← c.self.view_is) at c.requires in
    let ring : RingName = record { seq = c.seq.result + 4; rep = c.id-id.result } in
    let wrote : c.replace-ended.new.dest.items ≡ first_change ring (c.of-proc.result ∷ []) ∷ [] = search rules in
    let one : length c.replace-ended.new.dest.items ≡ 1 = ap length wrote in
    let next : c.of-proc.result ≡ next_life c.self.inside.proc = search rules in
    let same : c.log_with.result.proc ≡ c.self.inside.proc = ap (λ (log : LogRecord). log.proc) c.log_with.ensures in (
      omega (arith, one),
      omega (arith, one),
      next_history c.self.inside.proc c.of-proc.result c.self.inside.earlier.items c.push.new.self.items c.log_with.result c.self.invariant.2 (can_return a may).life next same (recorded_loud _ _ _ c.log_with.ensures) (search rules),
    )

pub returns-clause-done : goal.returns-clause-done
returns-clause-done c =
    let a : Actor = record { proc = c.self.inside.proc; earlier = c.self.inside.earlier.items; node = c.self.inside.node; entries = c.self.inside.entries.items } in
    let ring : RingName = record { seq = c.seq.result + 4; rep = c.id-id.result } in
    rw (← c.self.view_is)
    (is_back a c.of-proc.result ring c.in_ok-node.node c.log_with.result c.push.new.self.items c.replace-ended.new.dest.items (search rules) (search rules) (search rules) (search rules) (search rules) (search rules))
