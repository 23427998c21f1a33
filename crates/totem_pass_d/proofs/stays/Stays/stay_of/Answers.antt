use Rattle.totem_pass_d.proofs.Common.{refl, rules, slice_get_read}
use Rattle.totem_pass_d.proofs.Searching.{not_one_more, never_comes}
use Rattle.totem_pass_d.proofs.stays.Stays.stay_of.Goals as goal

pub loop-stay-preserved : goal.loop-stay-preserved
loop-stay-preserved c =
    let at = slice_get_read c.deref-stay-items.result.now _ _ c.stay-item.result refl c.loop-stay-test.true c.stay-item.is in
    not_one_more _ _ _ c.stay-item.result (rw c.deref-stay-items.ensures.value at at) (λ same. search rules) c.loop-stay.invariant

pub returns-clause-none : goal.returns-clause-none
returns-clause-none c =
    let s = c.args.self.now in
    never_comes s.run.now.logs s.ring s.list.items c.args.proc c.loop-stay.stay-index c.requires.are (rw c.deref-stay-items.ensures.value at c.loop-stay-test.false) c.loop-stay.invariant
