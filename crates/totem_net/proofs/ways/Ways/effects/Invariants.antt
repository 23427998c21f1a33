use Rattle.std.proofs.Common.{◌≡◌, ◌+◌, ◌++◌, drop}
use Rattle.totem_net.specs.Ways.{all_handed, past_all}
use Rattle.totem_net.specs.Settling.{all_changed}
use Rattle.totem_net.proofs.ways.Ways.effects.Given as goal

abbrev pub invariant-loop-place : goal.invariant-loop-place
invariant-loop-place l = record {
  handed :
      all_handed l.address l.packet 1 l.self.to_come l.self.held
      ≡ l.effects.handed.items ++ all_handed l.address l.packet (l.place + 1) l.effects.fates (drop l.place l.self.held);
  changed :
      all_changed l.address l.packet 1 l.self.to_come l.self.held
      ≡ l.effects.changed.items ++ all_changed l.address l.packet (l.place + 1) l.effects.fates (drop l.place l.self.held);
  fates :
      past_all l.address 1 l.self.to_come l.self.held
      ≡ past_all l.address (l.place + 1) l.effects.fates (drop l.place l.self.held);
}
