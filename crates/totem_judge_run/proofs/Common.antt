-- The names that most proofs here cite, passed on from one place. Declares a set of lemmas.
pub use Rattle.std.proofs.Common.{refl, ◌∙◌, ap, arith, ◌≡◌, length, ◌<◌, sym, ℕ, List, inl, inr, ◌+◌, Some, slice_get, [], ◌≤◌, false, ◌∷◌, Bool, ◌↔◌, IsTrue, None, Option, take, ◌++◌, Contains, below_more, suc, get_or, true, ◌⊎◌, ◌-◌, All, AllPairs, Err, IfOk, Ok, Result, rules, zero, Global, MatchOption, Vec, append_assoc, cond, option_to_list, ◌==◌, ◌≢◌}
pub use Rattle.totem_evs.proofs.Common.{slice_get_within, ConfId, log_of, RunRecord, StaysInPlace, IsChange, MsgId, RingId, get_or_from_slice_get, slice_get-get_or, Regular, ChangesTo, Transitional, take_all, IsTransitional, Place, Contains-append_left, StandsIn, TakesTurns, IsRegular, Com, Follows, IsFirstChange, IsNextChange, IsFailure, append-nil, take_more, All-cons, All-nil, All-push, Contains-append_cases, Contains-append_right, Contains-push, Contains-push_cases, HasCertificate, Certified, IsBelow, Numbering, number_at, Delivers, IsEvent, IsClosedBy, id_of, life_of}
pub use Rattle.totem_names.proofs.Common.{get_or_default}
pub use Rattle.std.proofs.lemmas.Grind.{common_steps, flat_map-append}
pub use Rattle.std.proofs.lemmas.List.Elements.{filter_map-append, AllWithin-more, at_read, All-append, All-contains_itself, All-from_all_within, All-head, All-tail, Contains-get_or}
pub use Rattle.std.proofs.lemmas.Option.{slice_get_read}
pub use Rattle.std.specs.Bool.{OnTrue}
pub use Rattle.std.specs.List.{AllWithin}
pub use Rattle.std.specs.Ordering.{eq_by_cmp, MatchOrdering, is_eq, is_ge, nat_cmp, ordering_then, partial_ge}
pub use Rattle.totem_evs.proofs.LogOf.{less_or_not, log_of_cases, Rising, log_of_at, in_order, Rising-tail}
pub use Rattle.totem_evs.proofs.NextChanges.{NoneBetween, one_next, none_between_more, same_first}
pub use Rattle.totem_evs.proofs.Pushing.{Along, along_more, before_push, stands_before, stands_last}
pub use Rattle.totem_evs.specs.Changes.{ChangesNext, Names, NamesOnly, EndsTogether, HasOneOrigin, SharesEnd}
pub use Rattle.totem_evs.specs.Events.{ChangesWith, Fails, ending_of, IsMember, IsQuiet}
pub use Rattle.totem_evs.specs.Following.{LastChange, NeverFails, FailedIn, IsLastChange, IsNextOrEnd, StaysIn}
pub use Rattle.totem_evs.specs.LogRecord.{LogRecord}
pub use Rattle.totem_evs.specs.Unsettled.{EndsIn, ArePending, AreWaiting, IsWaiting, PendingBelow, WaitingBelow}
pub use Rattle.totem_evs.specs.declared.entry.Entry.{Entry}
pub use Rattle.totem_evs.specs.declared.entry.Entry.TheVariants.{Conf, Deliver, Fail, Send}
pub use Rattle.totem_evs.specs.declared.log.Log.{Log}
pub use Rattle.totem_judge_run.specs.Endings.{EndsNowhere, StandsAtEnd, AreWaitingAt, HoldsPending, IsEnd, IsInOrder}
pub use Rattle.totem_judge_run.specs.Ends.{IsLast, GoesOn, HasNoChange, HasNoLog, IsChangeTo, StandsLast, AllShare, EndsWithAll, IsLogEnd, IsLogOf, LogShares, NeverChangesTo, SomeStrays, StraysAt}
pub use Rattle.totem_judge_run.specs.FirstChanges.{IsLastBefore, AreRight, ComesFrom, Enters, Keeps, EntersLog, IsMet, IsRight, Meets, NoneBefore, StandsBefore}
pub use Rattle.totem_judge_run.specs.Once.{IsNoSendBetween, messages_in, sent_in, message_in, message_order, AddsSend, RisesByOrder}
pub use Rattle.totem_judge_run.specs.Orderly.{AllStayInPlace, ChangesAgree, IsOrderly, SendsAreOnce, DeliveriesAreOnce}

-- the steps of a loop that gathers, element by element
pub ruleset gathered = (common_steps, filter_map-append, at_read)
