use Rattle.totem_pass_d.proofs.Common.{refl, arith, slice_get-get_or}
use Rattle.totem_pass_d.proofs.Facts.{facts_of}
use Rattle.totem_pass_d.proofs.Reaching.{members_after}
use Rattle.totem_pass_d.proofs.stays.Stays.members_after.Goals as goal

pub returns : goal.returns
returns c =
    let s = c.args.self.now in
    let stay = c.args.stay.now in
    let is = ((facts_of s c.requires.known).each stay c.requires.among).of in
    let at = slice_get-get_or stay.log.now stay.turn c.index-stay-stay.result (omega (arith, is.is.within, c.if-stay.false)) in
    rw (c.members_of.ensures, ← is.log) (record { each = λ i le lt. members_after stay.log.now s.ring _ _ _ i _ _ is.is le lt refl at })
