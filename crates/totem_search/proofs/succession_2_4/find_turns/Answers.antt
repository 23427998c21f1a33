use Rattle.totem_search.proofs.Turning.{turn_faults_begin}
use Rattle.totem_search.proofs.succession_2_4.find_turns.Goals as goal

pub least_places-requires-clause-begins : goal.least_places-requires-clause-begins
least_places-requires-clause-begins g c = rw c.run.ensures (turn_faults_begin _)
