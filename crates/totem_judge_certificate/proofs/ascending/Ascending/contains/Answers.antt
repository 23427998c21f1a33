use Rattle.totem_judge_certificate.proofs.Ascent.{searched}
use Rattle.totem_judge_certificate.proofs.ascending.Ascending.contains.Goals as goal

pub returns-then-not-is_next : goal.returns-then-not-is_next
returns-then-not-is_next c =
    let found = searched _ _ _ c.args.self.now.ascends (rw c.as_slice.ensures.value at c.binary_search.ensures.bound) (rw c.as_slice.ensures.value at c.binary_search.ensures.position) in
    rw c.is_ok.ensures.value found
