use Rattle.totem_threads.proofs.Common.{◌≡◌, map, ap, sym, ◌∙◌, start_of}
use Rattle.std.proofs.lemmas.Iterator.Adapters.{YieldsList-from_vec}
use Rattle.std.proofs.lemmas.Iterator.Consumers.{YieldsList-end}
use Rattle.std.proofs.lemmas.List.{map-id}
use Rattle.totem_threads.proofs.Starting.{starts_of}
use Rattle.totem_threads.proofs.run.fn.run_network.scope.Goals as goal

pub returns : goal.returns
returns g c =
    let made = c.into_iter-ends-iterator in
    let road = YieldsList-from_vec {s = made.result} _ made.ensures.into_iter_gives.0 (made.ensures.into_iter_gives.1 ∙ c.captures.nodes.ok.0) in
    let end = YieldsList-end road c.loop-ends.yielded c.loop-ends.ends-iterator c.loop-ends.yielded_by c.next.result c.next.new.self c.in-None.is c.next.ensures.steps in
    let all : c.loop-ends.yielded ≡ c.captures.nodes.items = sym (map-id c.loop-ends.yielded) ∙ end.0 in
    record {
      books =
          c.in_ok-books.ensures.books
          ∙ c.loop-ends.invariant
          ∙ ap (map (λ e. start_of c.captures.count e.node)) all
          ∙ starts_of c.captures.count c.captures.nodes.items c.requires.nodes;
      first = c.in_ok-books.ensures.first;
      fault = tt;
    }
