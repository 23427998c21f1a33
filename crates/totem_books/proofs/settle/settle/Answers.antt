use Rattle.totem_books.proofs.Common.{◌∙◌, ap, rules, receipts_in, shares_in}
use Rattle.totem_books.proofs.Covering.{covers, written_back}
use Rattle.totem_books.proofs.settle.settle.Goals as goal

pub returns-clause-shares : goal.returns-clause-shares
returns-clause-shares g c =
    c.closed_with.ensures.amount ∙ c.merged.ensures.shares ∙ ap shares_in (written_back _ _ _ (c.meet_all.ensures.seats ∙ c.as_mut_slice.ensures.value) (search rules))

pub returns-clause-receipts : goal.returns-clause-receipts
returns-clause-receipts g c =
    c.closed_with.ensures.amount ∙ c.merged.ensures.receipts ∙ ap receipts_in (written_back _ _ _ (c.meet_all.ensures.seats ∙ c.as_mut_slice.ensures.value) (search rules))

pub returns-clause-covers : goal.returns-clause-covers
returns-clause-covers g c =
    covers c.closed_with.result.calls c.args.seats.items (search rules)
    (c.closed_with.ensures.amount ∙ c.merged.ensures.receipts ∙ ap receipts_in (written_back _ _ _ (c.meet_all.ensures.seats ∙ c.as_mut_slice.ensures.value) (search rules)))
