use Rattle.totem_core.proofs.Common.{ap, ◌∙◌, unwrap_or}
use Rattle.totem_core.proofs.Telling.{finishing}
use Rattle.totem_core.proofs.leaving.finishing_entries.Goals as goal

pub returns : goal.returns
returns c =
    finishing c.args.recovery.now c.args.installed.now c.args.ring.now c.args.handed.now c.unwrap_or-last.result c.ring.result _ _ _ _ _
    (c.unwrap_or-last.ensures ∙ ap (λ o. unwrap_or o 0) c.last_mark.ensures) c.ring.ensures c.new-entries.ensures.items
    (c.in_ok-write_up_to.ensures {u = tt}) (c.in_ok-finish.ensures {u = tt}) (c.in_ok-append.ensures {u = tt}) (c.in_ok-write_above.ensures {u = tt})
