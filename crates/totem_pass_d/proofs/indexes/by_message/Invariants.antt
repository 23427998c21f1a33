use Rattle.std.specs.BTreeMap as tree
use Rattle.totem_names.specs.contracts.message.MsgIdOrd.TheImpl as message
use Rattle.totem_pass_d.specs.Indexes.{Tells}
use Rattle.totem_pass_d.proofs.indexes.by_message.Given as goal

abbrev pub invariant-loop-at : goal.invariant-loop-at
invariant-loop-at l = Tells (tree.get message.cmp-value.it l.map) l.log l.from l.end l.at
