use Rattle.std.proofs.Common.{inl}
use Rattle.totem_pass_d.proofs.Facts.{facts_of}
use Rattle.totem_pass_d.proofs.GapFaults.{keeps_up_beyond, keeps_up_outside}
use Rattle.totem_pass_d.proofs.gap_6_3.keeps_up.Goals.{then-last-at-2-via-then-last-at-2, then-last-at-2-via-else-last-at-2+then-delivers}
use Rattle.totem_pass_d.proofs.gap_6_3.keeps_up.Goals as goal

pub returns-then-last-at-2 : goal.returns-then-last-at-2
returns-then-last-at-2 c =
    let s = c.args.stays.now in
    elim c.then-last-at-2.branch [
      | then-last-at-2-via-then-last-at-2 w ↦ keeps_up_beyond s.run.now.logs s.ring _ _ _ c.args.follower.now c.args.last s.list.items (facts_of s c.requires.known) c.requires.follower c.requires.last c.if-last-at.false
          (λ n d x k s l le inside at send member. w.if-last-at-2.true)
      | then-last-at-2-via-else-last-at-2+then-delivers w ↦ inl w.if-delivers.ensures.there
    ]

pub returns-in-Some : goal.returns-in-Some
returns-in-Some c =
    let s = c.args.stays.now in
    keeps_up_outside s.run.now.logs s.ring _ _ _ c.args.follower.now c.args.last s.list.items c.in-Some.sending c.members_after.result.now c.is_among.result (facts_of s c.requires.known) c.requires.follower c.requires.last c.if-last-at.false
    c.in-Some.ensures.found c.members_after.ensures c.is_among.ensures
