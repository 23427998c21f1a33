use Rattle.totem_certificate.proofs.Common.{◌-◌, ◌+◌, ◌==◌, refl, arith, length_push, err_from_is_err_and, called, failed, same_left, stops, Two, full_is, numbering}
use Rattle.totem_certificate.proofs.CertLoops.{lines_step, lines_none, ended, begun}
use Rattle.totem_certificate.proofs.GrownLines.{rising_more}
use Rattle.totem_certificate.proofs.reading.read_lines.Goals as goal

pub returns-in_err-read_head : goal.returns-in_err-read_head
returns-in_err-read_head g c =
    let p = err_from_is_err_and c.from_residual.result c.from_residual.ensures.1 in
    let step = lines_step c.args.version c.lines.lines.items (33 - c.lines.count) (33 - (c.lines.count + 1)) c.lines.last (c.lines.count == 32) (omega arith) (full_is 32 c.lines.count (33 - (c.lines.count + 1)) (omega arith)) in
    rw (p.1, p.2) (failed _ _ _ _ _ _ _ (same_left _ _ _ _ _ c.lines.invariant.so_far step) c.in_err-read_head.ensures.read)

pub returns-in-None : goal.returns-in-None
returns-in-None g c =
    let step = lines_step c.args.version c.lines.lines.items (33 - c.lines.count) (33 - (c.lines.count + 1)) c.lines.last (c.lines.count == 32) (omega arith) (full_is 32 c.lines.count (33 - (c.lines.count + 1)) (omega arith)) in
    rw c.of.ensures (ended c.args.version _ _ _ c.lines.lines.items (33 - (c.lines.count + 1)) _ (called _ _ _ _ _ _ _ (same_left _ _ _ _ _ c.lines.invariant.so_far step) c.in_ok-read_head.ensures.read) c.in-None.is)

pub returns-in_err-numbers-in-Some : goal.returns-in_err-numbers-in-Some
returns-in_err-numbers-in-Some g c =
    let p = err_from_is_err_and c.from_residual-in_err-numbers-in-Some.result c.from_residual-in_err-numbers-in-Some.ensures.1 in
    let step = lines_step c.args.version c.lines.lines.items (33 - c.lines.count) (33 - (c.lines.count + 1)) c.lines.last (c.lines.count == 32) (omega arith) (full_is 32 c.lines.count (33 - (c.lines.count + 1)) (omega arith)) in
    rw (p.1, p.2) (failed _ _ _ _ _ _ _ (begun c.args.version _ _ _ c.lines.lines.items (33 - (c.lines.count + 1)) _ _ (called _ _ _ _ _ _ _ (same_left _ _ _ _ _ c.lines.invariant.so_far step) c.in_ok-read_head.ensures.read) c.in-Some.is) c.in_err-numbers-in-Some.ensures)

pub lines-preserved : goal.lines-preserved
lines-preserved g c =
    let step = lines_step c.args.version c.lines.lines.items (33 - c.lines.count) (33 - (c.lines.count + 1)) c.lines.last (c.lines.count == 32) (omega arith) (full_is 32 c.lines.count (33 - (c.lines.count + 1)) (omega arith)) in
    let line = numbering c.in-Some.proc c.in_ok-numbers-in-Some.numbers in
    let above = rw c.in-Some.is at c.in_ok-read_head.ensures.begins in
    rw (c.in_ok-push-in-Some.ensures.items, c.rank-last.ensures.value) (record {
      so_far = called _ _ _ _ _ _ _ (begun c.args.version _ _ _ c.lines.lines.items (33 - (c.lines.count + 1)) _ _ (called _ _ _ _ _ _ _ (same_left _ _ _ _ _ c.lines.invariant.so_far step) c.in_ok-read_head.ensures.read) c.in-Some.is) c.in_ok-numbers-in-Some.ensures;
      count_is = omega (arith, length_push c.lines.lines.items line);
      rising = rising_more Two c.lines.lines.items c.lines.last line c.lines.invariant.rising above.1 c.keeps_its_rules.ensures;
    })

pub returns : goal.returns
returns g c = stops _ _ _ _ (same_left _ _ _ _ _ c.lines.invariant.so_far (lines_none c.args.version c.lines.lines.items (33 - c.lines.count) c.lines.last (omega arith))) refl
