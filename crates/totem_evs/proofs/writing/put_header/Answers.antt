use Rattle.totem_evs.proofs.Common.{[], ◌∷◌, append_assoc, wrote_then, version_digit}
use Rattle.totem_evs.proofs.writing.put_header.Goals as goal

pub returns : goal.returns
returns g c =
    rw (append_assoc g.F.Form.words.title (version_digit c.args.version ∷ []) (10 ∷ [])) (wrote_then _ _ _ _ _ _ (rw c.title.ensures at c.in_ok-put.ensures) c.put_version.ensures)
