use Rattle.totem_walk.proofs.Joining.{kept_so, broken_so}
use Rattle.totem_walk.proofs.between.is_causal.Goals as goal

pub returns-clause-kept : goal.returns-clause-kept
returns-clause-kept c =
    kept_so c.args.run.now.logs c.args.ring c.args.sender c.args.receiver c.in_ok-deliveries.deliveries _ _ _ c.requires.meets c.entries_of-sending.ensures.entries c.entries_of-delivering.ensures.entries
    c.in_ok-deliveries.ensures.are c.keeps_order.ensures.kept

pub returns-clause-broken : goal.returns-clause-broken
returns-clause-broken c =
    broken_so c.args.run.now.logs c.args.ring c.args.sender c.args.receiver c.in_ok-deliveries.deliveries _ _ _ c.requires.meets c.entries_of-sending.ensures.entries c.entries_of-delivering.ensures.entries
    c.in_ok-deliveries.ensures.are c.keeps_order.ensures.broken
