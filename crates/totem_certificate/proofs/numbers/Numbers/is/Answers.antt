use Rattle.std.proofs.lemmas.Slice.Eq.{slice_eq-Decides}
use Rattle.std.proofs.lemmas.Bool.Decides.{Decides-eqb}
use Rattle.totem_certificate.proofs.numbers.Numbers.is.Goals as goal

pub returns : goal.returns
returns c = slice_eq-Decides Decides-eqb _ _ _ (rw (c.as_slice.ensures.value, c.as_slice-2.ensures.value) at c.eq.ensures)
