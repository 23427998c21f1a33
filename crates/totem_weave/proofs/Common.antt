-- The names that most proofs here cite, passed on from one place. Declares nothing.
pub use Rattle.std.proofs.Common.{◌≡◌, ℕ, arith, ◌∙◌, List, sym, refl, ◌<◌, length, ap, Some, [], subst, map, take, ◌+◌, ◌∷◌, false, true, ◌≤◌, Bool, inl, inr, slice_get, ◌++◌, Contains, Err, None, Ok, Option, drop, if◌then◌else◌, ◌==◌, All, IfOk, Result, eqb-true, get_or, ◌⊎◌, append-nil, append_assoc, is_some, suc, ◌≢◌, length-append, zero, zip, ◌-◌, ◌^◌, cond, filter, nat_lt, not, ◌&&◌, ◌||◌, IsOk, fold, max, nat_le, set, slice_index}
pub use Rattle.totem_core.proofs.Common.{RingName, Message, Ring, Done, Token, true≢false, Node, Stepped, Outcome, first_token, Sending, and_parts, All-nil, is_sealed, by_member, on_commit, Gather, CommitView, CommitToken, Body, given, on_message, take_more, All-append, All-cons, All-map, All-weaker, filter-append, commit_begun, gather_begun, look_at_consensus, taking, to_gather, Told, commit_view, on_its_ring, report, sending, by_ring, first_commit, consensus, gathered, on_join, on_timeout, ◌>>=◌, has, is_least, same_processes, Report, Join, Leaving, is_done, next_bodies, on_ring, message_refusal, token_refusal, same_ring, after_message, after_token, unless_refused}
pub use Rattle.totem_ring.proofs.Common.{run, start, cases_eq, IsPrefixOf, act_on, World, map-append, IsSchedule, happens, MayCome, world_after, cases_lt, on_token, not-true, All-contains, All-head, All-tail, ranks, MatchOrdering, is_eq, nat_cmp, Ordering, Equal, Greater, Less, holding, submitted}
pub use Rattle.totem_evs.proofs.Common.{nat_tests, id_of, get_or_from_slice_get, slice_get_within, length_push, Contains-append_left, Contains-append_right, Contains-push, Contains-push_cases, take_all, All-push, Contains-append_cases, slice_get-get_or}
pub use Rattle.totem_packets.proofs.Common.{length-map, eq-eqb, ne_eqb, drop_more, length-set}
pub use Rattle.totem_books.proofs.Common.{Called, fold-append}
pub use Rattle.totem_recover.proofs.Common.{ids_of}
pub use Rattle.totem_names.proofs.Common.{PlaceName}
pub use Rattle.std.proofs.lemmas.Bool.{cond_both}
pub use Rattle.std.proofs.lemmas.Grind.{common_steps}
pub use Rattle.std.proofs.lemmas.List.{get_or-map, get_or-set_other, get_or-set_same, map_more}
pub use Rattle.std.proofs.lemmas.List.Elements.{All-same}
pub use Rattle.std.proofs.lemmas.Option.{slice_get-map, slice_get_read, slice_get_cases}
pub use Rattle.std.specs.List.Sorted.{IsStrictlyIncreasing}
pub use Rattle.totem_packets.specs.declared.packet.Packet.{Packet}
pub use Rattle.totem_ring.proofs.OneOrderHolds.{one_order_holds, at_start, run_keeps}
pub use Rattle.totem_ring.specs.Rings.{new_ring}
pub use Rattle.totem_ring.specs.declared.fault.RingFault.{RingFault}
pub use Rattle.totem_ring.specs.declared.moves.Act.{Act}
pub use Rattle.totem_ring.specs.declared.moves.RingMove.{RingMove}
pub use Rattle.totem_ring.specs.declared.outcome.RingOut.{RingOut}
pub use Rattle.totem_core.specs.declared.state.State.{State}
pub use Rattle.totem_books.specs.Seats.{Closed}
pub use Rattle.totem_weave.specs.Folds.{acts_of, own_start, with_acts, IsAt, with_act, Own, own_after, own_of}
pub use Rattle.totem_weave.specs.Index.{AddsAll, Puts, AreOne, IsEmpty, IsIndexOf, IsComing}
pub use Rattle.totem_weave.specs.Laws.{IsAsOwn, LeftIsOrphan, OthersLeave, OwnSentGrows, SentGrows, SentIsOwn, StateIsOwn, StuckIsGreatest, WholeIsFound, WholeIsOneOrder, up_of}
pub use Rattle.totem_weave.specs.Recorded.{AreTracksOf, calls_acts, recorded, recorded_of, acts_on, IsCallOf, call_acts}
pub use Rattle.totem_weave.specs.Tracks.{IsUnderWay, IsThrough, steps_of, IsFirstLeft, procs_of, start_of, AreApart, up_by, up_of_tracks, HasTaken, IsHeldUpAt, GoesRound, Steps, seat_after}
pub use Rattle.totem_weave.specs.Weaves.{IsStuck, CanAct, IsWeave, NoneRefused, next_step, IsWhole}
pub use Rattle.totem_weave.specs.Weaving.{first_seats, Tries, IsHeldUp, IsTaken, TakesNext}
pub use Rattle.totem_weave.specs.Woven.{IsOfMember, handed_by, process_of, AreOneOrder, CanWeave, IsOrphan, IsWoven}
