use Rattle.totem_weave.proofs.Common.{◌∙◌, arith, map-append, ids_of}
use Rattle.totem_weave.proofs.HandingUp.{ups_more, ups_all}
use Rattle.totem_weave.proofs.handing.handed_up.Goals as goal

pub loop-place-preserved : goal.loop-place-preserved
loop-place-preserved c =
    rw (c.in_ok-push.ensures.items, map-append)
    (ups_more c.args.ring (ids_of c.args.members.now) c.args.members.now c.args.tracks.now c.loop-place.place c.index-members-place.result c.index-tracks-place.result _ _
    c.requires.each c.loop-place-test.true c.index-members-place.is c.index-tracks-place.is c.loop-place.invariant
    (rw (← c.in_ok-ids.ensures, ← c.deref.ensures.value, ← c.deref-in-loop-place.ensures.value) c.in_ok-handed.ensures))

pub returns : goal.returns
returns c = c.loop-place.invariant ∙ ups_all c.args.ring (ids_of c.args.members.now) c.args.members.now c.args.tracks.now c.loop-place.place (omega arith)
