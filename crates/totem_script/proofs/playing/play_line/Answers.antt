use Rattle.std.proofs.Common.{rules}
use Rattle.totem_script.proofs.Judging.{unfit_text, no_command, not_carried_out, was_carried_out}
use Rattle.totem_script.proofs.playing.play_line.Goals as goal

pub returns-in_err-text-clause-played : goal.returns-in_err-text-clause-played
returns-in_err-text-clause-played c =
    let fails = unfit_text c.args.scene.now c.args.lines.now c.in_err-text.field-0.0 c.in_err-text.ensures in
    search (rules, fails)

pub returns-in_err-command-clause-played : goal.returns-in_err-command-clause-played
returns-in_err-command-clause-played c =
    let is = rw c.in-Some.is at c.in_ok-text.ensures in
    let fails = no_command c.args.scene.now c.args.lines.now c.in-Some.text.now c.next.new.self is c.in_err-command.field-0.0 (rw c.version.ensures at c.in_err-command.ensures) in
    search (rules, fails)

pub returns-in_err-carry_out-clause-played : goal.returns-in_err-carry_out-clause-played
returns-in_err-carry_out-clause-played c =
    let is = rw c.in-Some.is at c.in_ok-text.ensures in
    let fails = not_carried_out c.args.scene.now c.args.lines.now c.in-Some.text.now c.next.new.self is c.in_ok-command.command (rw c.version.ensures at c.in_ok-command.ensures) c.in_err-carry_out.field-0.0 c.in_err-carry_out.ensures in
    search (rules, fails)

pub returns-clause-played : goal.returns-clause-played
returns-clause-played c =
    let is = rw c.in-Some.is at c.in_ok-text.ensures in
    was_carried_out c.args.scene.now c.args.lines.now c.in-Some.text.now c.next.new.self is c.in_ok-command.command (rw c.version.ensures at c.in_ok-command.ensures) c.carry_out.new.self c.is_end-ended.result c.in_ok-carry_out.ensures c.is_end-ended.ensures
