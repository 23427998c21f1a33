-- What the result of a call means, given its answer.
use Rattle.totem_pass_d.proofs.Common.{List, Result, Ok, Err, IfOk, Log}
use Rattle.totem_evs.specs.Answers.{IsAnswered}
use Rattle.totem_evs.specs.Meanings.{IsSound}
use Rattle.totem_evs.proofs.Synchronous.{sound}
use Rattle.totem_audit.specs.declared.verdict.Verdict.{Verdict}
use Rattle.totem_audit.specs.Verdicts.{answer_of}

pub sound_if_ok : {E : Type 0} (run : List Log) (r : Result Verdict E) → IfOk r (λ verdict. IsAnswered run (answer_of verdict)) → IfOk r (λ verdict. IsSound run (answer_of verdict))
sound_if_ok run (Ok verdict) answered = sound run (answer_of verdict) answered
sound_if_ok run (Err e) answered = tt
