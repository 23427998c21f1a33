use Rattle.totem_judge_run.proofs.Common.{◌<◌, length, refl, arith, slice_get_read}
use Rattle.totem_search.proofs.Turning.{succession_to_next, no_succession_to_end, next_is_change}
use Rattle.totem_search.proofs.neighbours.succession_at.Goals as goal

pub returns-then-next_at-log-clause-none : goal.returns-then-next_at-log-clause-none
returns-then-next_at-log-clause-none c = no_succession_to_end c.args.log.now c.args.at _ c.walk_to_change-next_at.ensures c.if-next_at-log.true

pub returns-in_default-log : goal.returns-in_default-log
returns-in_default-log c =
    let within : c.walk_to_change-next_at.result < length c.args.log.now = (let h = c.if-next_at-log.false in omega arith) in
    let at = slice_get_read c.args.log.now _ _ c.index-log-next_at.result refl within c.index-log-next_at.is in
    absurd (next_is_change c.args.log.now c.args.at _ _ c.walk_to_change-next_at.ensures within at c.in_default-log.not-Conf)

pub returns-clause-found : goal.returns-clause-found
returns-clause-found c =
    let log = c.args.log.now in
    let within : c.walk_to_change-next_at.result < length c.args.log.now = (let h = c.if-next_at-log.false in omega arith) in
    let at = slice_get_read log _ c.args.at c.index-log-at.result refl c.requires c.index-log-at.is in
    let next = slice_get_read log _ _ c.index-log-next_at.result refl within c.index-log-next_at.is in
    succession_to_next log c.args.at _ _ _ _ _ (rw c.in-Conf.is at at) (rw c.in-Conf-log.is at next) c.walk_to_change-next_at.ensures
