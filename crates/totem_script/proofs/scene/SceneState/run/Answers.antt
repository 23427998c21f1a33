use Rattle.std.proofs.Common.{◌∙◌, sym, ap, rules, arith}
use Rattle.totem_script.specs.Scenes.{Scene, run_times}
use Rattle.totem_script.proofs.Happening.{stopped, no_time, one_went, one_failed, fails_too}
use Rattle.totem_script.proofs.scene.SceneState.run.Goals as goal

pub returns-in_default : goal.returns-in_default
returns-in_default c =
    let s : Scene = record { version = c.self.inside.version; actors = c.self.inside.actors; queue = c.self.inside.queue.items; cut = c.self.inside.cut; under_way = c.self.inside.under_way } in
    stopped (run_times c.args.times c.args.self.now) c.loop-left.left s c.pop_front.new.self.items (c.loop-left.invariant ∙ ap (run_times c.loop-left.left) (sym c.self.view_is)) (sym c.in_default.ensures.items) (search rules)

pub returns-in_err-step : goal.returns-in_err-step
returns-in_err-step c =
    let s : Scene = record { version = c.self.inside.version; actors = c.self.inside.actors; queue = c.self.inside.queue.items; cut = c.self.inside.cut; under_way = c.self.inside.under_way } in
    let so_far = c.loop-left.invariant ∙ ap (run_times c.loop-left.left) (sym c.self.view_is) in
    let failed = one_failed s c.in-Some.first.0 c.in-Some.first.1 c.pop_front.new.self.items c.in-Some.ensures.items c.loop-left.left c.in_err-step.field-0.0 c.loop-left-test.true c.in_err-step.ensures in
    let fails = fails_too c.in_err-step.field-0.0 (run_times c.args.times c.args.self.now) (run_times c.loop-left.left s) so_far failed in
    search (rules, fails)

pub loop-left-preserved : goal.loop-left-preserved
loop-left-preserved c =
    let s : Scene = record { version = c.self.inside.version; actors = c.self.inside.actors; queue = c.self.inside.queue.items; cut = c.self.inside.cut; under_way = c.self.inside.under_way } in
    let so_far = c.loop-left.invariant ∙ ap (run_times c.loop-left.left) (sym c.self.view_is) in
    so_far ∙ one_went s c.in-Some.first.0 c.in-Some.first.1 c.pop_front.new.self.items c.in-Some.ensures.items c.loop-left.left c.step.new.self c.loop-left-test.true c.in_ok-step.ensures

pub returns : goal.returns
returns c = c.loop-left.invariant ∙ no_time c.loop-left.left c.loop-left.self (omega arith)
