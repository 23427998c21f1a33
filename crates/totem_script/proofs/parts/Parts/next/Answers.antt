use Rattle.totem_script.proofs.Common.{rules, take_rest}
use Rattle.totem_script.proofs.Cuts.{cut_found, cut_nowhere, goes_on}
use Rattle.totem_script.proofs.parts.Parts.next.Goals as goal

pub returns-in-Some-position : goal.returns-in-Some-position
returns-in-Some-position c =
    let text = c.in-Some.rest.now in
    let found = cut_found c.self.inside.at text c.in-Some-position.i (search rules) (search rules) (search rules) in
    rw take_rest (goes_on c.self.inside.at c.self.inside.rest c.in-Some.rest c.args.self.now _ _ c.self.view_is c.in-Some.is found)

pub returns-in-None : goal.returns-in-None
returns-in-None c =
    goes_on c.self.inside.at c.self.inside.rest c.in-Some.rest c.args.self.now _ _ c.self.view_is c.in-Some.is (cut_nowhere c.self.inside.at c.in-Some.rest.now (search rules))
