use Rattle.totem_cert.proofs.Common.{◌∙◌, ap, take, ◌++◌, List, Place}
use Rattle.totem_cert.proofs.Written.{begins_least, rest_all}
use Rattle.totem_cert.proofs.closed.turned.Goals as goal

pub returns-clause-least : goal.returns-clause-least
returns-clause-least c = begins_least _ _ _ c.least_of-least.ensures.within c.least_of-least.ensures.least
    (c.in_ok-extend_from_slice.ensures.items ∙ ap (λ (xs : List Place). xs ++ take c.least_of-least.result c.args.places.now) (c.in_ok-list.ensures.items ∙ rest_all c.args.places.now c.least_of-least.result))
