use Rattle.std.proofs.Common.{arith}
use Rattle.std.proofs.lemmas.Result.{err_from_is_err_and}
use Rattle.totem_evs.proofs.PassedOn.{header_fault}
use Rattle.totem_evs.proofs.run_reader.RunReader.begin.Goals as goal

pub returns-in_err-version-clause-begins : goal.returns-in_err-version-clause-begins
returns-in_err-version-clause-begins g c = grind (arith, err_from_is_err_and, header_fault)
