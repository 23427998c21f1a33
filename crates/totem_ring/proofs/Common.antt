-- The names that most proofs here cite, passed on from one place. Declares nothing.
pub use Rattle.std.proofs.Common.{◌≡◌, ◌∙◌, ap, ℕ, [], ◌+◌, arith, refl, sym, ◌∷◌, ◌++◌, ◌<◌, List, Some, length, false, true, None, Bool, ◌==◌, Option, ◌≤◌, append-nil, if◌then◌else◌, not, take, All, inl, inr, append_assoc, cond, eqb-true, filter, ◌^◌, Ok, length-append, nat_le, slice_get, subst, suc, zero, is_some, nat_lt, ◌&&◌, ◌-◌, Global, Vec, ltb-true, ◌⊎◌, Contains, drop, get_or, le-leb, lt-ltb, ltb-false, map, min, AllPairs, Err, add-one, drop-cons, eq-eqb, insert, le-ltb, leb-false, max, ne_eqb, ◌||◌}
pub use Rattle.totem_packets.proofs.Common.{cases_lt, eqb-false, All-cons, All-append, All-head, All-tail, RingName, and_parts, or_parts, length-take-le, AllPairs-cons, IsBelow, IsNumber, IsRequests, has}
pub use Rattle.totem_names.proofs.Common.{take_more, get_or_default}
pub use Rattle.std.proofs.lemmas.Bool.{cases_eq, lt-leb, not-true}
pub use Rattle.std.proofs.lemmas.List.{map-append}
pub use Rattle.std.proofs.lemmas.List.Elements.{All-nil, All-contains, filter-append, All-weaker, filter_map-append}
pub use Rattle.std.specs.BTreeMap.{insert_entry, is_at}
pub use Rattle.std.specs.Cmp.{ranks}
pub use Rattle.std.specs.List.{filter_map, cons_option}
pub use Rattle.std.specs.Ordering.{nat_cmp, MatchOrdering, match_ordering, is_eq}
pub use Rattle.std.specs.declared.cmp.Ordering.{Ordering}
pub use Rattle.std.specs.declared.cmp.Ordering.TheVariants.{Equal, Greater, Less}
pub use Rattle.totem_packets.specs.declared.message.Body.{Body}
pub use Rattle.totem_packets.specs.declared.message.Message.{Message}
pub use Rattle.totem_packets.specs.declared.token.Token.{Token}
pub use Rattle.totem_ring.specs.Invariant.{RisesFrom, IsWholeTo, KeepsAru}
pub use Rattle.totem_ring.specs.Order.{bodies_of, IsPrefixOf, IsOneOrder, OneOrder}
pub use Rattle.totem_ring.specs.Refusals.{token_refusal, holds_above, message_refusal, is_token_in_range, has_room, is_above, is_none_or_member, is_sound, submit_refusal}
pub use Rattle.totem_ring.specs.Requests.{with_number, with_requests, numbers_above}
pub use Rattle.totem_ring.specs.Rings.{Held, Ring, holds, message_at, going_up, with_message, with_messages, taker_of, up_to, aru_of, may_go_up, same_ring, without, after_hand_up, handed_up, whole_above, first_token, next_of}
pub use Rattle.totem_ring.specs.Steps.{Done, after_token, on_message, after_message, kept_after, unless_refused, act_on, after_submit, given, holding, on_resend, on_token, resent, submit}
pub use Rattle.totem_ring.specs.Undoing.{AnswersUndoably, IsDoneUndoably, kept_again, taken_back}
pub use Rattle.totem_ring.specs.Visits.{numbered, broadcasts, missing, Sending, answer_requests, arrival, aru_set, hand_up_safe, leaving, number_waiting, request_missing, set_aru, visit}
pub use Rattle.totem_ring.specs.Worlds.{World, world_after, submitted, IsSchedule, MayCome, happens, run, start}
