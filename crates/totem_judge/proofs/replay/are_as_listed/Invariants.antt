use Rattle.totem_judge.specs.Lists.{AreAsListed, AreSentIn}
use Rattle.totem_judge.proofs.replay.are_as_listed.Given as goal

abbrev pub invariant-loop-at : goal.invariant-loop-at
invariant-loop-at l = record {
  listed : AreAsListed l.entries l.numbers l.gathered l.stay l.at l.got;
  sends : AreSentIn l.entries l.numbers l.gathered l.stay l.sent;
}
