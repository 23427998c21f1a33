use Rattle.totem_weave.proofs.Common.{◌≡◌, map, take, zip, ids_of, up_by}
use Rattle.totem_weave.proofs.handing.handed_up.Given as goal

abbrev pub invariant-loop-place : goal.invariant-loop-place
invariant-loop-place l = map (λ h. (h.0, h.1.items)) l.lists.items ≡ map (up_by l.ring (ids_of l.members)) (take l.place (zip l.members l.tracks))
