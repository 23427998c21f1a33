use Rattle.std.proofs.Common.{sym, arith}
use Rattle.totem_cert.proofs.Stepping.{class_small, step_alone, step_none, step_held}
use Rattle.totem_cert.proofs.step.step_of.Goals as goal

pub returns-in_default : goal.returns-in_default
returns-in_default c = step_alone _ _ _ c.class_of.ensures.run.rising c.requires.table c.requires.sound c.requires.none _ c.step_to.result c.in_default.ensures.class c.requires.left c.step_to.ensures.to c.step_to.ensures.from

pub index-requires : goal.index-requires
index-requires c =
    let small = class_small _ _ _ c.class_of.ensures.run.rising c.requires.table c.requires.sound c.requires.none c.args.left.now c.in-Some.class c.in-Some.ensures.class c.requires.left in
    omega (arith, small, c.requires.firsts.sends.long, c.args.firsts.now.sends.ok.0)

pub index-member-requires : goal.index-member-requires
index-member-requires c =
    let small = class_small _ _ _ c.class_of.ensures.run.rising c.requires.table c.requires.sound c.requires.none c.args.left.now c.in-Some.class c.in-Some.ensures.class c.requires.left in
    omega (arith, small, c.requires.firsts.members.long, c.args.firsts.now.members.ok.0)

pub index-follower-requires : goal.index-follower-requires
index-follower-requires c =
    let small = class_small _ _ _ c.class_of.ensures.run.rising c.requires.table c.requires.sound c.requires.none c.args.left.now c.in-Some.class c.in-Some.ensures.class c.requires.left in
    omega (arith, small, c.requires.firsts.followers.long, c.args.firsts.now.followers.ok.0)

pub returns-in-Some-first_held : goal.returns-in-Some-first_held
returns-in-Some-first_held c =
    step_held _ _ _ c.class_of.ensures.run.rising c.requires.table c.requires.sound c.requires.none _ _ c.in-Some.ensures.class c.requires.left _ c.requires.firsts _ _ _ c.index.ensures c.index-member.ensures c.index-follower.ensures
    c.step_to-in-Some-first_held.result _ (rw c.is_some.ensures at (sym c.in-Some-first_held.ensures)) c.step_to-in-Some-first_held.ensures.to c.step_to-in-Some-first_held.ensures.from

pub returns-in-None : goal.returns-in-None
returns-in-None c = absurd
    (step_none _ _ _ c.class_of.ensures.run.rising c.requires.table c.requires.sound c.requires.none _ _ c.in-Some.ensures.class c.requires.left _ c.requires.firsts _ _ _ c.index.ensures c.index-member.ensures c.index-follower.ensures
    (rw c.is_some.ensures at (sym c.in-None.ensures)))
