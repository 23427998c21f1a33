use Rattle.std.proofs.Common.{sym}
use Rattle.totem_cluster.proofs.weaving.write_weave.Goals as goal

pub returns-in_ok-write_woven-in-Ok : goal.returns-in_ok-write_woven-in-Ok
returns-in_ok-write_woven-in-Ok g c = record {
  first = c.in-Some.first.now;
  is_first = sym c.in-Some.ensures.value;
  woven = c.in-Ok.woven;
  is_woven = rw (← c.ring.ensures, ← c.members.ensures.value) c.in-Ok.ensures.woven;
  written = c.in_ok-write_woven-in-Ok.ensures;
}
