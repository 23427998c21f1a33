use Rattle.std.proofs.Common.{refl}
use Rattle.totem_pass_d.proofs.Coming.{are_rings}
use Rattle.totem_pass_d.proofs.jobs.Jobs.over.Goals as goal

pub returns : goal.returns
returns c = record {
  logs = refl;
  meets = c.requires.meets;
  rings = rw (c.in_ok-rings.ensures.keys) (are_rings _ c.in_ok-comings.comings.rings c.in_ok-comings.comings.indices _ c.in_ok-comings.ensures c.in_ok-rings.ensures.ordered);
  observed = c.requires.observed;
  comings = c.in_ok-comings.ensures;
}
