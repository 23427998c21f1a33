use Rattle.std.proofs.Common.{Ok}
use Rattle.std.proofs.lemmas.Option.{IfSome_then}
use Rattle.totem_names.proofs.Readers.{begins, called, handed, picks, skips}
use Rattle.totem_evs.specs.RunGrammar.{line_at}
use Rattle.totem_evs.proofs.whole_lines.entry_in.Goals as goal

pub returns-then-letter-eq99 : goal.returns-then-letter-eq99
unfolding line_at
returns-then-letter-eq99 c = λ some failed. IfSome_then _ c.change_in.ensures (λ e.
    handed _ _ _ _ _ (Ok _) (picks _ _ _ _ _ _ _ (called _ _ _ _ _ _ _ (begins _ _) c.in_ok-letter.ensures) c.if-letter-eq99.true))

pub returns-then-letter-eq115 : goal.returns-then-letter-eq115
unfolding line_at
returns-then-letter-eq115 c = λ some failed. IfSome_then _ c.send_in.ensures (λ e.
    handed _ _ _ _ _ (Ok _) (picks _ _ _ _ _ _ _ (skips _ _ _ _ _ _ _ (called _ _ _ _ _ _ _ (begins _ _) c.in_ok-letter.ensures) c.if-letter-eq99.false) c.if-letter-eq115.true))

pub returns-then-letter-eq100 : goal.returns-then-letter-eq100
unfolding line_at
returns-then-letter-eq100 c = λ some failed. IfSome_then _ c.delivery_in.ensures (λ e.
    handed _ _ _ _ _ (Ok _) (picks _ _ _ _ _ _ _ (skips _ _ _ _ _ _ _ (skips _ _ _ _ _ _ _ (called _ _ _ _ _ _ _ (begins _ _) c.in_ok-letter.ensures) c.if-letter-eq99.false) c.if-letter-eq115.false) c.if-letter-eq100.true))
