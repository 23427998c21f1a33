-- The steps of readers that call one reader after the other.
use Rattle.totem_names.proofs.Readers.{begins, called, failed, handed, chosen, passed, stops}

pub ruleset reader_steps = (begins, called, failed, handed, chosen, passed, stops)
