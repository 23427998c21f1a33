use Rattle.totem_member.proofs.Common.{◌≡◌, ap, ◌∙◌, sym, false, has, with_process, union, Gather, turning_away, joined}
use Rattle.totem_member.proofs.GatherFacts.{turned, heard, room, made_is, standing_so}
use Rattle.totem_member.proofs.gather.Gather.sets_after.Goals as goal

pub made-requires : goal.made-requires
made-requires c =
    let same : c.self.inside.sets ≡ c.args.self.now.sets = ap (λ (g : Gather). g.sets) c.self.view_is in
    room c.with.result (with_process c.args.self.now.sets.processes c.args.join.now.sender) (rw same at c.with.ensures)
    (turned c.args.self.now c.args.join.now c.keeps_its_rule.ensures c.as_slice.ensures.processes c.requires).processes

pub made-requires-then-contains : goal.made-requires-then-contains
made-requires-then-contains c =
    let same : c.self.inside.sets ≡ c.args.self.now.sets = ap (λ (g : Gather). g.sets) c.self.view_is in
    room c.with-then-contains.result (with_process c.args.self.now.sets.failed c.args.join.now.sender) (rw same at c.with-then-contains.ensures)
    (turned c.args.self.now c.args.join.now c.keeps_its_rule.ensures c.as_slice.ensures.processes c.requires).failed

pub returns-then-contains-clause-standing : goal.returns-then-contains-clause-standing
returns-then-contains-clause-standing c =
    let same : c.self.inside.sets ≡ c.args.self.now.sets = ap (λ (g : Gather). g.sets) c.self.view_is in
    standing_so c.args.self.now.me (turning_away c.args.self.now.sets c.args.join.now) c.made.result c.made-then-contains.result
    (made_is c.with.result c.made.result _ c.made.ensures (rw same at c.with.ensures))
    (made_is c.with-then-contains.result c.made-then-contains.result _ c.made-then-contains.ensures (rw same at c.with-then-contains.ensures))
    (turned c.args.self.now c.args.join.now c.keeps_its_rule.ensures c.as_slice.ensures.processes c.requires).standing

pub made-requires-3 : goal.made-requires-3
made-requires-3 c =
    let same : c.self.inside.sets ≡ c.args.self.now.sets = ap (λ (g : Gather). g.sets) c.self.view_is in
    let still : has c.args.join.now.failed c.args.self.now.me ≡ false = ap (λ p. has c.args.join.now.failed p) (sym (ap (λ (g : Gather). g.me) c.self.view_is)) ∙ sym c.contains.ensures ∙ c.if-contains.false in
    room c.union-2.result (union c.args.self.now.sets.failed c.args.join.now.failed) (rw same at c.union-2.ensures)
    (heard c.args.self.now c.args.join.now c.keeps_its_rule.ensures c.as_slice.ensures.processes c.requires c.as_slice-2.ensures.processes still).failed

pub returns-clause-standing : goal.returns-clause-standing
returns-clause-standing c =
    let same : c.self.inside.sets ≡ c.args.self.now.sets = ap (λ (g : Gather). g.sets) c.self.view_is in
    let still : has c.args.join.now.failed c.args.self.now.me ≡ false = ap (λ p. has c.args.join.now.failed p) (sym (ap (λ (g : Gather). g.me) c.self.view_is)) ∙ sym c.contains.ensures ∙ c.if-contains.false in
    standing_so c.args.self.now.me (joined c.args.self.now.sets c.args.join.now) c.made-2.result c.made-3.result
    (made_is c.union.result c.made-2.result _ c.made-2.ensures (rw same at c.union.ensures))
    (made_is c.union-2.result c.made-3.result _ c.made-3.ensures (rw same at c.union-2.ensures))
    (heard c.args.self.now c.args.join.now c.keeps_its_rule.ensures c.as_slice.ensures.processes c.requires c.as_slice-2.ensures.processes still).standing
