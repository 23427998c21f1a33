use Rattle.totem_names.specs.Sources.{seen}
use Rattle.totem_cluster.proofs.ScriptReading.{SoFar}
use Rattle.totem_cluster.proofs.simulating.read_script.Given as goal

abbrev pub invariant-loop-count : goal.invariant-loop-count
invariant-loop-count g l =
    let known = seen g.R.Source.remaining g.R.Source.failures in
    SoFar (known l.fn.input) (known l.input) l.bytes.items l.count
