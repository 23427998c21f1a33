use Rattle.std.proofs.Common.{◌∙◌, sym, rules}
use Rattle.totem_script.proofs.LineEnds.{no_line, some_line}
use Rattle.totem_script.proofs.lines.Lines.is_empty.Goals as goal

pub returns : goal.returns
returns c = (
  (λ h. sym c.self.view_is ∙ no_line c.self.inside.room c.self.inside.rest.now (search rules)),
  (λ h. let none = some_line c.self.inside.room c.self.inside.rest.now (c.self.view_is ∙ h) in search rules),
)
