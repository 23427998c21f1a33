use Rattle.totem_cert.proofs.Common.{◌≡◌, take, map, empty_line}
use Rattle.totem_cert.proofs.numbering.started.Given as goal

abbrev pub invariant-loop-log : goal.invariant-loop-log
invariant-loop-log l = l.lines.items ≡ map empty_line (take l.log-index l.logs)
