use Rattle.totem_pass_d.proofs.Facts.{facts_of, delivery_inside, delivery_short}
use Rattle.totem_pass_d.proofs.GapFaults.{tells_member, none_later, none_lacks, none_member, lack_here}
use Rattle.totem_pass_d.proofs.gap_6_3.LacksFinder.find_in.Goals as goal

pub returns-in_default : goal.returns-in_default
returns-in_default c =
    none_later _ _ c.args.stay.now _ _ _ c.in_default.ensures.none

pub returns-then-delivers : goal.returns-then-delivers
returns-then-delivers c =
    let has = c.if-delivers.ensures.there in
    none_lacks _ _ c.args.stay.now _ has.0 _ _ has.1

pub returns-then-not-is_among : goal.returns-then-not-is_among
returns-then-not-is_among c =
    let of = facts_of c.args.self.now.stays.now c.requires.known in
    none_member _ _ _ c.args.stay.now _ _ _ _ _ of c.in-Some.ensures.found (tells_member _ _ _ _ _ _ of.meets c.members_at.ensures c.is_among.ensures) c.if-not-is_among.true

pub returns : goal.returns
returns c =
    let of = facts_of c.args.self.now.stays.now c.requires.known in
    lack_here _ _ _ c.args.stay.now _ _ _ _ _ _ of c.in-Some.ensures.found c.if-delivers.ensures.never
    (tells_member _ _ _ _ _ _ of.meets c.members_at.ensures c.is_among.ensures) c.if-not-is_among.false c.in_ok-only.ensures

pub members_at-requires-clause-inside : goal.members_at-requires-clause-inside
members_at-requires-clause-inside c = delivery_inside _ _ _ c.args.stay.now _ _ (facts_of c.args.self.now.stays.now c.requires.known) c.requires.among c.in-Some.ensures.found

pub only-requires : goal.only-requires
only-requires c = delivery_short _ _ _ c.args.stay.now _ _ (facts_of c.args.self.now.stays.now c.requires.known) c.requires.among c.in-Some.ensures.found
