-- A pen names no thread's key, so it may go to another thread.
use denote.RattleType.{RattleType}
use denote.Param.Send.{IsSend}
use base.Growing.{latest, at_least}
use Rattle.totem_journal.specs.Tokens.{pen_owns}
use Rattle.totem_journal.specs.contracts.journal.Pen.{the_row}

pub send : (E : RattleType) → IsSend (the_row E)
unfolding latest at_least pen_owns
send E = record { owned = λ d vs. ((λ vss. (tt, ((λ uss. (tt, tt)), tt))), (tt, tt)); leaving = λ k f vs. tt }
