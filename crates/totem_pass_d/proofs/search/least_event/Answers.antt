use Rattle.totem_pass_d.proofs.Searching.{begins_inside, finds_event}
use Rattle.totem_pass_d.proofs.search.least_event.Goals as goal

pub least_found-requires-clause-begins : goal.least_found-requires-clause-begins
least_found-requires-clause-begins g c = begins_inside _ _ c.requires.alone.inside

pub returns : goal.returns
returns g c = let s = c.args.stays.now in finds_event s.run.now.logs s.ring s.list.items _ c.least_found.result _ c.requires.alone c.least_found.ensures
