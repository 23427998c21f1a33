use Rattle.totem_cert.proofs.Common.{◌≡◌, ◌∙◌, sym, ap, Three, RunRecord, map-id}
use Rattle.std.proofs.lemmas.Iterator.Adapters.{YieldsList-from_vec}
use Rattle.std.proofs.lemmas.Iterator.Consumers.{YieldsList-turn, YieldsList-end}
use Rattle.totem_cert.proofs.Closable.{of_text, each_line, closable}
use Rattle.totem_cert.proofs.order.certificate.Goals as goal

pub close-requires : goal.close-requires
close-requires c =
    let runs = ap (λ (r : RunRecord). r.logs) c.run.view_is in
    let road = YieldsList-from_vec {s = c.into_iter-line-iterator.result} _ c.into_iter-line-iterator.ensures.into_iter_gives.0 (c.into_iter-line-iterator.ensures.into_iter_gives.1 ∙ c.args.lines.ok.0) in
    let turn = YieldsList-turn road c.loop-line.yielded c.loop-line.line-iterator c.loop-line.yielded_by c.next.result c.next.new.self c.in-Some.line c.in-Some.is c.next.ensures.steps in
    rw turn.1 (each_line Three c.args.run.now.logs c.args.lines.items (rw runs at c.as_slice.ensures.run) c.requires.sound c.requires.full _ c.in-Some.line turn.0)

pub of-requires : goal.of-requires
of-requires c =
    let runs = ap (λ (r : RunRecord). r.logs) c.run.view_is in
    let road = YieldsList-from_vec {s = c.into_iter-line-iterator.result} _ c.into_iter-line-iterator.ensures.into_iter_gives.0 (c.into_iter-line-iterator.ensures.into_iter_gives.1 ∙ c.args.lines.ok.0) in
    let end = YieldsList-end road c.loop-line.yielded c.loop-line.line-iterator c.loop-line.yielded_by c.next.result c.next.new.self c.in-None.is c.next.ensures.steps in
    let all : c.loop-line.list.items ≡ c.args.lines.items = c.loop-line.invariant ∙ sym (map-id c.loop-line.yielded) ∙ end.0 in
    rw all (closable Three c.args.run.now.logs c.args.lines.items (rw runs at c.as_slice.ensures.run) c.requires.sound c.requires.full)

pub invariant_of-result : goal.invariant_of-result
invariant_of-result c =
    let runs = ap (λ (r : RunRecord). r.logs) c.run.view_is in
    let road = YieldsList-from_vec {s = c.into_iter-line-iterator.result} _ c.into_iter-line-iterator.ensures.into_iter_gives.0 (c.into_iter-line-iterator.ensures.into_iter_gives.1 ∙ c.args.lines.ok.0) in
    let end = YieldsList-end road c.loop-line.yielded c.loop-line.line-iterator c.loop-line.yielded_by c.next.result c.next.new.self c.in-None.is c.next.ensures.steps in
    let all : c.loop-line.list.items ≡ c.args.lines.items = c.loop-line.invariant ∙ sym (map-id c.loop-line.yielded) ∙ end.0 in
    rw (c.of.ensures ∙ all, c.certificate_version.ensures) (record {
      version = of_text c.run.inside.version;
      lines = closable c.run.inside.version c.run.inside.logs c.args.lines.items c.run.invariant (rw (← runs) at c.requires.sound) (rw (← runs) at c.requires.full);
    })
