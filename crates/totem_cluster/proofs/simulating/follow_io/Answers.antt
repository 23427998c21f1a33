use Rattle.std.proofs.Common.{ap, ◌∙◌, sym, subst}
use Rattle.totem_script.specs.Simulation.{FailsAt, simulate}
use Rattle.totem_cluster.specs.SimIo.{IsBehind}
use Rattle.totem_cluster.proofs.ScriptReading.{of_all, read_whole, read_short, no_run, not_read}
use Rattle.totem_cluster.proofs.simulating.follow_io.Goals as goal

pub returns-then-script : goal.returns-then-script
returns-then-script g c =
    let breaks = read_short _ _ _ c.in-Ok.script.failed c.in-Ok.ensures.0 c.if-script.true in
    let behind = subst (IsBehind c.fault_behind.result) c.deref.ensures.value c.fault_behind.ensures in
    rw (c.refused.ensures.fault, c.refused.ensures.line) (not_read _ _ _ c.in-Ok.script.bytes.items c.fault_behind.result breaks behind)

pub returns-in-Err : goal.returns-in-Err
returns-in-Err g c =
    let whole = read_whole _ _ _ c.in-Ok.script.failed c.in-Ok.ensures.0 c.if-script.false in
    let fails = subst (λ bytes. FailsAt c.in-Err.faulty (simulate bytes)) c.deref-2.ensures.value c.in-Err.ensures in
    rw (c.refused-in-Err.ensures.fault, c.refused-in-Err.ensures.line) (no_run _ _ _ c.in-Ok.script.bytes.items c.in-Err.faulty whole fails)

pub returns-in-Ok-write_run : goal.returns-in-Ok-write_run
returns-in-Ok-write_run g c =
    let is_read = read_whole _ _ _ c.in-Ok.script.failed c.in-Ok.ensures.0 c.if-script.false in
    let made = ap simulate (sym c.deref-2.ensures.value) ∙ c.in-Ok-follow.ensures in
    record {
      read = c.in-Ok.script.bytes.items;
      run = c.in-Ok-follow.run';
      is_read = is_read;
      made = made;
      of_all = of_all _ _ _ is_read.whole made;
      written = c.in-Ok-write_run.ensures;
    }
