-- The numbers of the specifications (docs/SPECIFICATIONS.md).
use Rattle.std.specs.Prelude.{ℕ, List, codes}
use Rattle.totem_evs.specs.declared.spec.SpecNo.{SpecNo}
use Rattle.totem_evs.specs.declared.spec.SpecNo.TheVariants as spec

abbrev pub spec_text : SpecNo → List ℕ
spec_text spec.Cycle = codes "1.1"
spec_text spec.Unsent = codes "1.3"
spec_text spec.Twice = codes "1.4"
spec_text spec.End = codes "2.1"
spec_text spec.Misplaced = codes "2.2"
spec_text spec.Configuration = codes "2.3"
spec_text spec.Turns = codes "2.4"
spec_text spec.OwnDelivery = codes "3"
spec_text spec.Atomicity = codes "4"
spec_text spec.Causality = codes "5"
spec_text spec.Order = codes "6.1"
spec_text spec.Gap = codes "6.3"
spec_text spec.Safety = codes "7.1"
spec_text spec.Installed = codes "7.2"
