use Rattle.totem_books.proofs.Entering.{seen_before}
use Rattle.totem_books.proofs.kept.Kept.apply.Goals as goal

pub returns-clause-seen : goal.returns-clause-seen
returns-clause-seen g c =
    let noted = c.note.ensures in
    seen_before c.args.pen.now.seen c.args.self.now.journal.entries c.note.new.self.entries c.note.new.pen.seen (c.args.pen.now.mark, c.in-Ok.made.0) noted.5 noted.1 noted.4
