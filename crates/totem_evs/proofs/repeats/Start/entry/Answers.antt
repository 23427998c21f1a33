use Rattle.std.proofs.Common.{rules}
use Rattle.totem_evs.proofs.LineStarting.{hand_settles}
use Rattle.totem_evs.proofs.repeats.Start.entry.Goals as goal

pub returns : goal.returns
returns c = record {
  settles = λ version some failed.
      rw c.entry.ensures.entry
      (hand_settles version some failed c.args.bytes.now c.args.self.now.text.items c.as_slice-text.result.now c.args.self.now.said c.in_ok-number.number c.in_ok-number.byte c.in_ok-number.count
      c.if-not-begins.ensures.value c.as_slice-text.ensures.value c.args.self.now.spelled c.in_ok-number.ensures.number c.if-byte-ne10.false);
  members = c.entry.ensures.members;
  within = search rules;
}
