use Rattle.totem_certificate.proofs.Common.{◌-◌, length, take, Wrote, held, numbers_text}
use Rattle.totem_certificate.proofs.writing.put_numbers.Given as goal

abbrev pub invariant-loop-done : goal.invariant-loop-done
invariant-loop-done g l =
    let known = held g.S.Sink.contents g.S.Sink.failures in
    Wrote (known l.fn.pieces l.fn.sink) (known l.pieces l.sink) (numbers_text (take l.done l.numbers))

abbrev pub decreases-loop-done : goal.decreases-loop-done
decreases-loop-done g l = length l.numbers - l.done
