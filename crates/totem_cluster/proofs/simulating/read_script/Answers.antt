use Rattle.std.proofs.Common.{arith, ◌≡◌}
use Rattle.totem_cluster.proofs.ScriptReading.{read_to_end, read_far}
use Rattle.totem_cluster.proofs.simulating.read_script.Goals as goal

pub returns-in-Ok-None : goal.returns-in-Ok-None
returns-in-Ok-None g c =
    let none = rw c.in-Ok-None.field-0-is at c.in-Ok-None.ensures.byte in (
      read_to_end _ _ _ _ c.loop-count.count c.loop-count.invariant (omega (arith, c.loop-count-test.true)) none.0 none.1 c.in-Ok-None.ensures.failures,
      omega (arith, c.loop-count.invariant.counted, c.loop-count-test.true),
    )

pub returns : goal.returns
returns g c =
    let all : c.loop-count.count ≡ 65537 = omega (arith, c.loop-count-test.false, c.loop-count.auto.count-end) in
    (read_far _ _ _ _ c.loop-count.invariant all, omega (arith, all, c.loop-count.invariant.counted))
