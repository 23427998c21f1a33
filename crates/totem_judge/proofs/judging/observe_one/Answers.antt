use Rattle.std.proofs.Common.{refl}
use Rattle.totem_judge.proofs.judging.observe_one.Goals as goal

pub returns : goal.returns
returns c = record {
  verified = record { ring = refl; seen = rw c.in-Some.is at c.in_ok-traffic.ensures };
  adds = c.in_ok-add_pending.ensures;
}
