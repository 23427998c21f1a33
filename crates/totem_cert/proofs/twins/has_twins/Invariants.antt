use Rattle.totem_cert.proofs.TwinSteps.{NoTwinsBefore}
use Rattle.totem_cert.proofs.twins.has_twins.Given as goal

abbrev pub invariant-loop-i : goal.invariant-loop-i
invariant-loop-i l = NoTwinsBefore l.run.logs l.places l.i
