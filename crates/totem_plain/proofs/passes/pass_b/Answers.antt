use Rattle.totem_plain.proofs.Common.{[], IfOk-weaker, lists_then}
use Rattle.totem_evs.specs.declared.spec.SpecNo.TheVariants as spec
use Rattle.totem_plain.proofs.passes.pass_b.Goals as goal

pub returns : goal.returns
returns c = IfOk-weaker c.with_found.result _ _ (λ list is. lists_then c.args.run.now.logs [] spec.Unsent _ list.items _ is c.in_ok-unsent.ensures c.new.ensures.items) c.with_found.ensures
