use Rattle.std.proofs.Common.{sym}
use Rattle.totem_judge_certificate.proofs.Ascent.{above_all}
use Rattle.totem_judge_certificate.proofs.ascending.Ascending.is_next.Goals as goal

pub returns-in-Some : goal.returns-in-Some
returns-in-Some c =
    let last = rw c.deref.ensures.value at c.in-Some.ensures.value in
    above_all _ _ _ _ c.args.self.now.ascends (sym last) (rw c.cmp.ensures at c.is_lt.ensures)
