use Rattle.totem_recover.proofs.Common.{◌≡◌, ◌+◌, ◌≤◌, length, drop, fold, max, filter_map, sent_anew}
use Rattle.totem_recover.proofs.sending.count_anew.Given as goal

abbrev pub invariant-loop-to : goal.invariant-loop-to
invariant-loop-to l = record {
  few : l.count ≤ l.to-index;
  count : l.count + length (filter_map (sent_anew l.me l.sent) (drop l.to-index l.packets)) ≡ length (filter_map (sent_anew l.me l.sent) l.packets);
  greatest : fold max l.greatest (filter_map (sent_anew l.me l.sent) (drop l.to-index l.packets)) ≡ fold max l.sent (filter_map (sent_anew l.me l.sent) l.packets);
}
