use Rattle.totem_pass_ab.proofs.Common.{[], IfOk-weaker}
use Rattle.totem_evs.specs.declared.spec.SpecNo.TheVariants as spec
use Rattle.totem_search.proofs.Listing.{lists_then}
use Rattle.totem_pass_ab.proofs.pass.pass_b_of.Goals as goal

pub returns : goal.returns
returns c = IfOk-weaker c.with_found.result _ _ (λ list is. lists_then _ [] spec.Unsent _ list.items _ is c.in_ok-unsent.ensures c.new.ensures.items) c.with_found.ensures
