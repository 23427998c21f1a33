-- Extended virtual synchrony (docs/SPECIFICATIONS.md, "The seven specifications").
use Rattle.std.specs.Prelude.{List}
use Rattle.totem_evs.specs.declared.log.Log.{Log}
use Rattle.totem_evs.specs.Delivery.{BasicDelivery}
use Rattle.totem_evs.specs.Changes.{ConfigurationChanges}
use Rattle.totem_evs.specs.Agreement.{SelfDelivery, FailureAtomicity, CausalDelivery, HasTotalOrder, NoGaps, SafeDelivery}

-- the run meets specifications 1 to 7
pub record IsVirtuallySynchronous (run : List Log) : Type 0 where
  pub basic : BasicDelivery run
  pub changes : ConfigurationChanges run
  pub own : SelfDelivery run
  pub atomic : FailureAtomicity run
  pub causal : CausalDelivery run
  pub order : HasTotalOrder run
  pub no_gaps : NoGaps run
  pub safe : SafeDelivery run
