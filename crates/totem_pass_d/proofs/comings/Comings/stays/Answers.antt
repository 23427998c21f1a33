use Rattle.totem_pass_d.proofs.Common.{arith, refl, sym, ap, ◌∙◌, slice_get_read, LogRecord, RunRecord}
use Rattle.totem_pass_d.proofs.Coming.{few_entries, no_stay, one_stay, stay_at, from_within, all_stays}
use Rattle.totem_pass_d.proofs.Sending.{are_sends}
use Rattle.totem_pass_d.proofs.comings.Comings.stays.Goals.{in-Some+in_ok-stay_from+in_ok-push, in_default}
use Rattle.totem_pass_d.proofs.comings.Comings.stays.Goals as goal

pub stay_from-requires-clause-within : goal.stay_from-requires-clause-within
stay_from-requires-clause-within c =
    let runs = ap (λ (r : RunRecord). r.logs) c.run.view_is in
    let at = slice_get_read c.as_slice-log-items.result.now _ c.loop-log.log-index c.log-item.result refl c.loop-log-test.true c.log-item.is in
    let procs = ap (λ (l : LogRecord). l.proc) c.log.view_is in
    let value = rw procs at c.get.ensures.value in
    let found = sym (rw c.in-Some.is at value) in
    from_within c.args.run.now.logs c.args.ring c.loop-log.log-index c.log-item.result (rw runs at c.as_slice-log-items.ensures.run) (rw (c.as_slice-log-items.ensures.value ∙ runs) at at) _ _ _ _ _ c.requires.comings found

pub stay_from-requires-clause-few : goal.stay_from-requires-clause-few
stay_from-requires-clause-few c =
    let runs = ap (λ (r : RunRecord). r.logs) c.run.view_is in
    let at = slice_get_read c.as_slice-log-items.result.now _ c.loop-log.log-index c.log-item.result refl c.loop-log-test.true c.log-item.is in
    few_entries c.args.run.now.logs c.args.ring c.loop-log.log-index c.log-item.result (rw runs at c.as_slice-log-items.ensures.run) (rw (c.as_slice-log-items.ensures.value ∙ runs) at at)

pub loop-log-preserved : goal.loop-log-preserved
loop-log-preserved c =
    let runs = ap (λ (r : RunRecord). r.logs) c.run.view_is in
    let at = slice_get_read c.as_slice-log-items.result.now _ c.loop-log.log-index c.log-item.result refl c.loop-log-test.true c.log-item.is in
    let there = rw (c.as_slice-log-items.ensures.value ∙ runs) at at in
    let is_run = rw runs at c.as_slice-log-items.ensures.run in
    let procs = ap (λ (l : LogRecord). l.proc) c.log.view_is in
    let value = rw procs at c.get.ensures.value in
    elim c.match-get.branch [
      | in-Some+in_ok-stay_from+in_ok-push w ↦ (let h = w.in_ok-stay_from.ensures in rw (w.list-is, w.in_ok-push.ensures.items)
          (one_stay _ _ _ _ is_run there _ w.in_ok-stay_from.field-0 h.proc
          (stay_at _ _ _ _ is_run there _ _ _ _ _ w.in_ok-stay_from.field-0 c.requires.comings (sym (rw w.in-Some.is at value)) c.requires.meets h) c.loop-log.invariant))
      | in_default w ↦ rw w.list-is (no_stay _ _ _ _ is_run there _ _ _ _ _ c.requires.comings (sym (rw w.in_default.is at value)) c.loop-log.invariant)
    ]

pub sends_of-requires : goal.sends_of-requires
sends_of-requires c =
    let runs = ap (λ (r : RunRecord). r.logs) c.run.view_is in
    let are = all_stays _ _ _ _ (rw (← (c.as_slice-log-items.ensures.value ∙ runs)) c.loop-log-test.false) c.loop-log.invariant in
    rw c.deref.ensures.value (λ k d lt. let of = are.each k d lt in record { before = of.is.before; within = omega (arith, of.is.until, of.is.within); few = of.few })

pub returns-clause-known : goal.returns-clause-known
returns-clause-known c =
    let runs = ap (λ (r : RunRecord). r.logs) c.run.view_is in
    let are = all_stays _ _ _ _ (rw (← (c.as_slice-log-items.ensures.value ∙ runs)) c.loop-log-test.false) c.loop-log.invariant in
    record {
      meets = c.requires.meets;
      are = are;
      sent = are_sends c.args.run.now.logs c.args.ring c.loop-log.list.items c.in_ok-sends.sends c.requires.meets are (rw c.deref.ensures.value at c.in_ok-sends.ensures);
    }
