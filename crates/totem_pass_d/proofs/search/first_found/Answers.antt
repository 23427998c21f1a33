use Rattle.totem_pass_d.proofs.Common.{refl, slice_get_read}
use Rattle.totem_pass_d.proofs.Searching.{least_here, none_before_more, none_at_end}
use Rattle.totem_pass_d.proofs.search.first_found.Goals as goal

pub returns-in-Some : goal.returns-in-Some
returns-in-Some g c =
    let at = slice_get_read c.deref-stay-items.result.now _ c.loop-stay.stay-index c.stay-item.result refl c.loop-stay-test.true c.stay-item.is in
    least_here _ _ _ (g.F.Finder.reaches c.args.finder.now) _ _ _ _ c.requires.known.are (rw c.deref-stay-items.ensures.value at at) c.requires.begins (rw c.in-Some.is at c.in_ok-list.ensures) (rw c.deref-stay-items.ensures.value at c.loop-stay.invariant)

pub loop-stay-preserved : goal.loop-stay-preserved
loop-stay-preserved g c =
    let at = slice_get_read c.deref-stay-items.result.now _ c.loop-stay.stay-index c.stay-item.result refl c.loop-stay-test.true c.stay-item.is in
    none_before_more _ _ _ _ _ at (rw c.in_default.is at c.in_ok-list.ensures) c.loop-stay.invariant

pub returns : goal.returns
returns g c = none_at_end _ _ _ _ (rw c.deref-stay-items.ensures.value at c.loop-stay-test.false) c.requires.begins (rw c.deref-stay-items.ensures.value at c.loop-stay.invariant)
