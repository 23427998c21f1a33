use Rattle.std.proofs.Common.{◌∙◌, ◌+◌, arith, rules}
use Rattle.totem_script.specs.Simulation.{play}
use Rattle.totem_script.proofs.Judging.{stops, goes_on, ends_here, closed, more_behind}
use Rattle.totem_script.proofs.playing.play.Goals as goal

pub returns-in-Err : goal.returns-in-Err
returns-in-Err c = stops (play 2 c.args.scene.now c.args.lines.now) c.lines.line c.lines.scene c.lines.lines c.in-Err.kind c.lines.invariant.0 c.in-Err.ensures.played

pub lines-preserved : goal.lines-preserved
lines-preserved c =
    let on = goes_on (play 2 c.args.scene.now c.args.lines.now) c.lines.line c.lines.scene c.lines.lines c.play_line.new.lines c.play_line.new.scene c.in-Ok.ended
    c.lines.invariant.0 c.in-Ok.ensures.played c.in-Ok.ensures.rest (search rules) in
    let many = on.1 in
    let bound = c.lines.invariant.1 in
    (on.0, omega (arith, many, bound))

pub returns-then-not-is_empty : goal.returns-then-not-is_empty
returns-then-not-is_empty c =
    let end = ends_here (play 2 c.args.scene.now c.args.lines.now) c.lines.line c.lines.scene c.lines.lines c.play_line.new.lines c.play_line.new.scene c.in-Ok.ended
    c.lines.invariant.0 c.in-Ok.ensures.played c.in-Ok.ensures.rest (search rules) in
    more_behind (play 2 c.args.scene.now c.args.lines.now) (c.lines.line + 1) c.play_line.new.scene c.play_line.new.lines end (search rules)

pub returns : goal.returns
returns c =
    let end = ends_here (play 2 c.args.scene.now c.args.lines.now) c.lines.line c.lines.scene c.lines.lines c.play_line.new.lines c.play_line.new.scene c.in-Ok.ended
    c.lines.invariant.0 c.in-Ok.ensures.played c.in-Ok.ensures.rest (search rules) in
    end ∙ closed (c.lines.line + 1) c.play_line.new.scene c.play_line.new.lines (search rules)
