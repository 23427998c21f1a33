-- The names that most proofs here cite, passed on from one place. Declares nothing.
pub use Rattle.std.proofs.Common.{◌≡◌, arith, length, List, ℕ, refl, ◌++◌, take, ◌<◌, ◌≤◌, ◌∙◌, Ok, [], ap, drop, sym, ◌∷◌, true, false, nat_lt, Bool, All, Err, suc, append_assoc, filter, Some, ◌+◌, ◌==◌, zero, ◌^◌, None, Option, cond, inl, inr, IfSome, subst, Result, ◌||◌, ◌↔◌, ◌⊎◌, fold, get_or, nat_le, not, rules, ⊎_elim, ◌-◌, AllPairs, IfOk, IsErr, IsTrue, drop-cons, if◌then◌else◌, map, max, min, replicate, slice_get, slice_set, ◌%◌, ◌≢◌}
pub use Rattle.totem_names.proofs.Common.{◌>>=◌, IsProcess, eqb-true, take_all, RingName, err_from_is_err_and, append-nil, drop_all, take-append-drop, cases_lt, drop-append-le, get_or-take, length-take-le, take-append-le, IsRing, IsUpTo}
pub use Rattle.std.proofs.lemmas.Bool.{le-ltb, eqb-false, lt-ltb, ne_eqb, ltb-false, ltb-true, cases_Bool, cases_order, false≢true, leb-true, and_from, and_parts, and_right, both_ways, eq-eqb, le-leb, or_from, or_parts, true≢false}
pub use Rattle.std.proofs.lemmas.List.{length-append, drop_more, length-map, drop-replicate, drop-set-lt, drop_at, get_or-drop, get_or_past, length-replicate, length-set, length-take, length_push, nil_from_length, take_at}
pub use Rattle.std.proofs.lemmas.List.Elements.{All-filter, All-from_recursion, All-push, All-cons, All-head, All-tail, recursion_from_All, All-append, All-map}
pub use Rattle.std.proofs.lemmas.List.Kept.{AllPairs-filter, AllPairs-cons}
pub use Rattle.std.specs.Int.{w8, w16, w32, Width, w64, byte_len, from_be_bytes, to_be_bytes}
pub use Rattle.std.specs.List.{flat_map, AllByRecursion}
pub use Rattle.totem_names.proofs.Steps.{parsed_is, after, guard_then, taken, guard_else, bind_ok}
pub use Rattle.totem_packets.specs.CommitMembers.{IsCommitMember, IsCommitMembers, IsReport, IsBelowMember, IsLife}
pub use Rattle.totem_packets.specs.Laws.{HasMore, IsFirstWrong, IsOfKind, IsOfNoKind, TellsLaterLife}
pub use Rattle.totem_packets.specs.Lives.{has_later_life, reported_life, member_ranks, transitional_ranks, member_rank}
pub use Rattle.totem_packets.specs.OldRings.{processes_of, reports_from, reports_ring, obligation_union, transitional_set, greatest_delivered, least_aru, least_aru_of, those_from}
pub use Rattle.totem_packets.specs.Parsing.{Parsed, AreBytes, Fails, Gives}
pub use Rattle.totem_packets.specs.Ranges.{IsPacket, IsBody, IsCommitToken, IsJoin, IsMessage, IsToken}
pub use Rattle.totem_packets.specs.Rising.{IsProcesses, IsNumber, IsRequests, IsBelow}
pub use Rattle.totem_packets.specs.Sets.{has, union, with_process, first_or, same_processes, Makes, behind, next_after}
