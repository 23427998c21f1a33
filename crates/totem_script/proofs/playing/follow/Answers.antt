use Rattle.std.proofs.Common.{rules}
use Rattle.totem_script.proofs.Judging.{without_head, few_behind, play_fails, play_ends}
use Rattle.totem_script.proofs.FirstLives.{played_first}
use Rattle.totem_script.proofs.playing.follow.Goals as goal

pub returns-in-Err : goal.returns-in-Err
returns-in-Err c = without_head c.args.script.now c.new-lines.result c.new-lines.ensures c.in-Err.kind c.in-Err.ensures.head

pub play-requires : goal.play-requires
play-requires c = few_behind c.args.script.now c.new-lines.result c.new-lines.ensures c.begin.new.lines c.in-Ok.ensures.rest

pub returns-in_err-line : goal.returns-in_err-line
returns-in_err-line c =
    let played = rw c.new-scene.ensures at c.in_err-line.ensures in
    let fails = play_fails c.args.script.now c.new-lines.result c.new-lines.ensures c.in-Ok.version c.begin.new.lines c.in-Ok.ensures.head c.in-Ok.ensures.rest c.in_err-line.field-0.0 played in
    search (rules, fails)

pub returns-in-Ok-into_run : goal.returns-in-Ok-into_run
returns-in-Ok-into_run c =
    let played = rw c.new-scene.ensures at c.in_ok-line.ensures in
    play_ends c.args.script.now c.new-lines.result c.new-lines.ensures c.in-Ok.version c.begin.new.lines c.in-Ok.ensures.head c.in-Ok.ensures.rest c.play.new.scene c.in-Ok-into_run.run' played c.in-Ok-into_run.ensures

pub into_run-requires : goal.into_run-requires
into_run-requires c =
    let played = rw c.new-scene.ensures at c.in_ok-line.ensures in
    played_first c.in-Ok.version c.begin.new.lines c.play.new.scene played
