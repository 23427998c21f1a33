use Rattle.totem_pass_d.proofs.Common.{◌≡◌, ◌∙◌, get_or_from_slice_get, AreFindings}
use Rattle.totem_pass_d.proofs.Listing.{none_found}
use Rattle.totem_pass_d.proofs.jobs.Jobs.findings.Goals as goal

pub returns-then-is_all : goal.returns-then-is_all
returns-then-is_all c =
    let run = c.args.self.now.run.now.logs in
    let ring = c.index.result.now in
    let none : AreFindings run ring c.none.result = none_found run ring c.shown-shown.result c.none.result c.shown-shown.ensures c.if-is_all.ensures c.none.ensures in
    record { at = λ d stands. (let same : ring ≡ d = c.index.ensures ∙ get_or_from_slice_get c.args.self.now.rings.items c.args.index d ring stands in rw same at none) }
