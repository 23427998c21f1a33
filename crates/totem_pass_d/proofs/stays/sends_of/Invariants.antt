use Rattle.totem_pass_d.specs.Sends.{HasSends}
use Rattle.totem_pass_d.proofs.stays.sends_of.Given as goal

abbrev pub invariant-loop-stay : goal.invariant-loop-stay
invariant-loop-stay l = HasSends l.list l.stay-index l.sends
