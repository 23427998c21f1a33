use Rattle.std.proofs.Common.{inr}
use Rattle.totem_evs.proofs.roster.Roster.note_members.Goals as goal

pub invariant_of-self-2 : goal.invariant_of-self-2
invariant_of-self-2 c = λ q has none.
    let named = rw (c.as_slice.ensures.value, c.deref.ensures.value) at c.in_ok-wait_for.ensures in
    (named q).1 (inr (rw c.in_ok-try_clone.ensures at has, none))

pub returns-clause-waiting : goal.returns-clause-waiting
returns-clause-waiting c = rw (← c.self.view_is) (rw (c.as_slice.ensures.value, c.deref.ensures.value) at c.in_ok-wait_for.ensures)
