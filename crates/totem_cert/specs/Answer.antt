-- The order of a run (docs/SPECIFICATIONS.md, "Positions").
use Rattle.std.specs.Prelude.{◌≡◌}
use Rattle.totem_evs.specs.RunRecord.{RunRecord}
use Rattle.totem_cert.specs.declared.order.Order.{Order}
use Rattle.totem_cert.specs.declared.order.Order.TheVariants.{Positions, Cycle}
use Rattle.totem_certificate.specs.Keeping.{certificate_version}
use Rattle.totem_evs.specs.Positions.{IsPositions}
use Rattle.totem_evs.specs.ClosedLists.{IsCycle}

-- the one certificate of the run, in the certificate version that belongs to the run's, or the run's closed list if it has no certificate
abbrev pub IsOrder : RunRecord → Order → Type 0
IsOrder run (Positions certificate) = (certificate.version ≡ certificate_version run.version) × IsPositions run.logs certificate.lines
IsOrder run (Cycle fault) = IsCycle run.logs fault
