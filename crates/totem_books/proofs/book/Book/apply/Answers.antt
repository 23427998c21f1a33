use Rattle.totem_books.proofs.Common.{◌+◌, subst, vec_len, start_with}
use Rattle.totem_books.specs.Replies.{answer_of}
use Rattle.totem_books.specs.Taking.{IsTaken}
use Rattle.totem_books.proofs.Steps.{goes_on}
use Rattle.totem_books.proofs.book.Book.apply.Goals as goal

pub invariant_of-self-2 : goal.invariant_of-self-2
invariant_of-self-2 c =
    let b = c.self.inside in
    let stored = c.give_and_store.new in
    let stub = c.in_ok-stub.stub in
    let reply = answer_of c.in_ok-stub.reply in
    let given = c.in_ok-stub.ensures in
    goes_on (start_with b.me b.ring b.members) b.calls.items stored.calls.items b.node stored.node c.follow.new.self b.entries.items stored.log.items c.args.input (vec_len b.calls + 1) stub reply c.self.invariant
    (subst (λ n. IsTaken n c.args.input (vec_len b.calls + 1) stored.node stub reply) c.in_ok-copy.ensures.copy given.taken) given.added c.follow.ensures
