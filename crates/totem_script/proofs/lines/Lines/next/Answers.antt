use Rattle.totem_script.proofs.Common.{◌∙◌, sym, arith, rules, take_rest}
use Rattle.totem_script.proofs.LineEnds.{line_ends, too_long, is_cut, no_line}
use Rattle.totem_script.proofs.lines.Lines.next.Goals as goal
use Rattle.totem_script.proofs.lines.Lines.next.Goals.{then-self, else-self}

pub returns-then-is_empty : goal.returns-then-is_empty
returns-then-is_empty c = sym c.self.view_is ∙ no_line c.self.inside.room c.self.inside.rest.now (search rules)

pub returns-in-Some : goal.returns-in-Some
returns-in-Some c =
    let found = line_ends c.self.inside.room c.if-self.within c.self.inside.rest.now (elim c.if-self.branch [ then-self w ↦ omega arith | else-self w ↦ omega arith ]) c.in-Some.i (elim c.if-self.branch [ then-self w ↦ omega arith | else-self w ↦ omega arith ]) (search rules) (search rules) (search rules) in
    rw take_rest (sym c.self.view_is ∙ found)

pub returns-in-None : goal.returns-in-None
returns-in-None c = sym c.self.view_is ∙ too_long c.self.inside.room c.if-self.within c.self.inside.rest.now (elim c.if-self.branch [ then-self w ↦ omega arith | else-self w ↦ omega arith ]) (elim c.if-self.branch [ then-self w ↦ omega arith | else-self w ↦ omega arith ]) (search rules) (search rules)

pub returns-in-None-2 : goal.returns-in-None-2
returns-in-None-2 c = sym c.self.view_is ∙ is_cut c.self.inside.room c.if-self.within c.self.inside.rest.now (elim c.if-self.branch [ then-self w ↦ omega arith | else-self w ↦ omega arith ]) (search rules) (elim c.if-self.branch [ then-self w ↦ omega arith | else-self w ↦ omega arith ]) (elim c.if-self.branch [ then-self w ↦ omega arith | else-self w ↦ omega arith ]) (search rules)
