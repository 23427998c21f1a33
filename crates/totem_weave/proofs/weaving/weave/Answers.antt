use Rattle.totem_weave.proofs.Common.{ℕ, ◌<◌, List, length, ◌∙◌, ap, arith, IsUnderWay, IsThrough, IsFirstLeft, HasTaken, steps_of, start_of, up_of_tracks, IsStuck}
use Rattle.totem_weave.specs.declared.track.Track.{Track}
use Rattle.totem_weave.proofs.RecordedOf.{as_many}
use Rattle.totem_weave.proofs.FromBooks.{is_ready, is_left, next_is_recorded, orphan_is, woven_is, one_order_is}
use Rattle.totem_weave.proofs.weaving.weave.Goals as goal

pub weave_tracks-requires-clause-apart : goal.weave_tracks-requires-clause-apart
weave_tracks-requires-clause-apart c =
    (is_ready c.args.ring c.args.members.now c.args.books.now c.deref.result.now c.if-not-can_weave.ensures (rw c.deref.ensures.value c.in_ok-tracks.ensures)).apart

pub first_left-requires-clause-apart : goal.first_left-requires-clause-apart
first_left-requires-clause-apart c =
    (is_ready c.args.ring c.args.members.now c.args.books.now c.deref-2.result.now c.if-not-can_weave.ensures (rw c.deref-2.ensures.value c.in_ok-tracks.ensures)).apart

pub bounds-members-place : goal.bounds-members-place
bounds-members-place c =
    let tracks : List Track = c.in_ok-tracks.tracks.items in
    let first : IsFirstLeft tracks c.in_ok-weaver.weaver c.in-Some.place = rw (← c.deref-2.ensures.value) c.in-Some.ensures.left in
    omega (arith, first.within, as_many c.args.ring c.args.books.now c.args.members.now tracks c.in_ok-tracks.ensures)

pub call_at-call-requires : goal.call_at-call-requires
call_at-call-requires c =
    let tracks : List Track = c.in_ok-tracks.tracks.items in
    let first : IsFirstLeft tracks c.in_ok-weaver.weaver c.in-Some.place = rw (← c.deref-2.ensures.value) c.in-Some.ensures.left in
    let taken : HasTaken tracks c.in_ok-weaver.weaver c.in-Some.place c.taken-step.result = rw (← c.deref-in-Some.ensures.value) c.taken-step.ensures in
    let left = is_left c.args.ring c.args.members.now c.args.books.now tracks c.in-Some.place c.index-members-place.result c.in_ok-tracks.ensures first.within c.index-members-place.is in
    next_is_recorded c.args.ring c.args.members.now c.args.books.now tracks c.in_ok-weaver.weaver c.in-Some.place c.taken-step.result c.index-members-place.result left first taken

pub returns-in-Some-clause-refused : goal.returns-in-Some-clause-refused
returns-in-Some-clause-refused c =
    let tracks : List Track = c.in_ok-tracks.tracks.items in
    let under_way : IsUnderWay tracks c.in_ok-weaver.weaver = rw (← c.deref.ensures.value) c.in_ok-weaver.ensures.under_way.0 in
    let stuck : IsStuck (start_of c.in_ok-weaver.weaver.ring tracks) (steps_of tracks) c.in_ok-weaver.weaver.moves.items = rw (← c.deref.ensures.value) c.in_ok-weaver.ensures.stuck in
    let first : IsFirstLeft tracks c.in_ok-weaver.weaver c.in-Some.place = rw (← c.deref-2.ensures.value) c.in-Some.ensures.left in
    let taken : HasTaken tracks c.in_ok-weaver.weaver c.in-Some.place c.taken-step.result = rw (← c.deref-in-Some.ensures.value) c.taken-step.ensures in
    let left = is_left c.args.ring c.args.members.now c.args.books.now tracks c.in-Some.place c.index-members-place.result c.in_ok-tracks.ensures first.within c.index-members-place.is in
    orphan_is c.args.ring c.args.members.now c.args.books.now tracks c.in_ok-weaver.weaver c.in-Some.place c.taken-step.result c.index-members-place.result c.call_at-call.result
    c.if-not-can_weave.ensures c.in_ok-tracks.ensures under_way c.in_ok-weaver.ensures.under_way.1 stuck left first taken c.call_at-call.ensures

pub handed_up-requires-clause-each : goal.handed_up-requires-clause-each
handed_up-requires-clause-each c = rw c.deref-3.ensures.value (as_many c.args.ring c.args.books.now c.args.members.now c.in_ok-tracks.tracks.items c.in_ok-tracks.ensures)

pub returns-clause-woven : goal.returns-clause-woven
returns-clause-woven c =
    let tracks : List Track = c.in_ok-tracks.tracks.items in
    let under_way : IsUnderWay tracks c.in_ok-weaver.weaver = rw (← c.deref.ensures.value) c.in_ok-weaver.ensures.under_way.0 in
    let through : (k : ℕ) → k < length tracks → IsThrough tracks c.in_ok-weaver.weaver k = rw (← c.deref-2.ensures.value) c.in_default.ensures.through in
    woven_is c.args.ring c.args.members.now c.args.books.now tracks c.in_ok-weaver.weaver _
    c.if-not-can_weave.ensures c.in_ok-tracks.ensures under_way c.in_ok-weaver.ensures.under_way.1 through
    (ap (λ moves. moves.items) c.into_moves.ensures) (c.in_ok-handed.ensures ∙ ap (up_of_tracks c.args.ring c.args.members.now) c.deref-3.ensures.value)

pub returns-clause-one_order : goal.returns-clause-one_order
returns-clause-one_order c = one_order_is c.args.ring c.args.members.now c.args.books.now _ (returns-clause-woven c)
