use Rattle.std.proofs.Common.{arith, refl}
use Rattle.totem_search.proofs.Turning.{no_other_to_there, other_here}
use Rattle.totem_search.proofs.succession_2_4.OtherOriginsRelation.rest.Goals as goal
use Rattle.totem_search.proofs.succession_2_4.OtherOriginsRelation.rest.Goals.{then-not-is_of_other_ring-via-then-not-is_of_other_ring, then-not-is_of_other_ring-via-else-not-is_of_other_ring+then-not-is}

pub returns-then-not-is_of_other_ring : goal.returns-then-not-is_of_other_ring
returns-then-not-is_of_other_ring c =
    no_other_to_there _ _ _ _ _ _ _ _ _ _ _ (rw c.requires.log at c.in-Some.ensures.found) (λ other same. elim c.then-not-is_of_other_ring.branch [
      | then-not-is_of_other_ring-via-then-not-is_of_other_ring w ↦ (let t = c.is_of_other_ring.ensures.1 other in cc)
      | then-not-is_of_other_ring-via-else-not-is_of_other_ring+then-not-is w ↦ (let t = w.is.ensures.1 same in cc)
    ])

pub returns : goal.returns
returns c =
    rw (c.in_ok-begin_at.ensures, c.new.ensures.items)
    (other_here c.args.self.now.run.now.logs _ _ _ _ _ _ _ _ _ _ (let above = c.if-rank.false in let a = c.rank.ensures.value in let b = c.rank-2.ensures.value in omega arith) (rw c.requires.log at c.in-Some.ensures.found) (c.if-not-is_of_other_ring.ensures.0 refl) (c.if-not-is.ensures.0 refl))
