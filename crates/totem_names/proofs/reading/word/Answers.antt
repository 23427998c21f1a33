use Rattle.totem_names.proofs.Common.{refl, err_from_is_err_and}
use Rattle.totem_names.proofs.Readers.{called, failed, picks, skips, stops, same_left, word_step, word_none}
use Rattle.totem_names.proofs.reading.word.Goals as goal

pub returns-in_err-byte-clause-read : goal.returns-in_err-byte-clause-read
returns-in_err-byte-clause-read g c =
    let p = err_from_is_err_and c.from_residual.result c.from_residual.ensures.1 in
    rw (p.1, p.2) (failed _ _ _ _ _ _ _ (same_left _ _ _ _ _ c.loop-want.invariant (word_step c.args.fault c.args.word.now c.loop-want.want-index _ c.loop-want-test.true refl)) c.in_err-byte.ensures.read)

pub returns-then-byte-want-clause-read : goal.returns-then-byte-want-clause-read
returns-then-byte-want-clause-read g c =
    stops _ _ _ _ (skips _ _ _ _ _ _ _ (called _ _ _ _ _ _ _ (same_left _ _ _ _ _ c.loop-want.invariant (word_step c.args.fault c.args.word.now c.loop-want.want-index _ c.loop-want-test.true refl)) c.in_ok-byte.ensures.read) c.if-byte-want.true) c.requires

pub loop-want-preserved : goal.loop-want-preserved
loop-want-preserved g c =
    picks _ _ _ _ _ _ _ (called _ _ _ _ _ _ _ (same_left _ _ _ _ _ c.loop-want.invariant (word_step c.args.fault c.args.word.now c.loop-want.want-index _ c.loop-want-test.true refl)) c.in_ok-byte.ensures.read) c.if-byte-want.false

pub returns-clause-read : goal.returns-clause-read
returns-clause-read g c = same_left _ _ _ _ _ c.loop-want.invariant (λ more. word_none c.args.fault c.args.word.now more c.loop-want.want-index c.loop-want-test.false)
