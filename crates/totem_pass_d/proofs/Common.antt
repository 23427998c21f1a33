-- The names that most proofs here cite, passed on from one place. Declares nothing.
pub use Rattle.std.proofs.Common.{refl, arith, ◌≡◌, ℕ, inl, inr, sym, List, Some, length, ◌<◌, slice_get, ◌∙◌, ◌≤◌, true, ◌+◌, Bool, IsTrue, [], ◌↔◌, ◌∷◌, None, ap, false, Option, rules, ◌++◌, ◌⊎◌, below_more, Contains, IfSome, not, subst, Err, IfNone, IfOk, Ok, Result, get_or, suc, take, tests, zero, All, MatchOption, append-nil, nat_lt}
pub use Rattle.totem_judge_run.proofs.Common.{slice_get_read, RingId, Entry, Log, log_of, ConfId, MsgId, Regular, slice_get_within, Com, ChangesTo, Delivers, Deliver, slice_get-get_or, OnTrue, get_or_from_slice_get, less_or_not, Names, Send, Place, Conf, one_next, Along, IsChange, IsMember, IsQuiet, IsTransitional, FailedIn, Follows, StaysIn, Transitional, take_all, take_more, in_order, log_of_at, log_of_cases, same_first, along_more, before_push, stands_before, stands_last, IsRegular, ending_of, IsNextChange, NeverFails, LogRecord, RunRecord, Fail, GoesOn}
pub use Rattle.totem_evs.proofs.Common.{MeetsPasses, DeliversIn, Sends, AreRings, at_place, entry_at, SendsAt, IsRing, ListsConfigurations, ListsEach, specs_d, members_of, IsHop, BreaksAtomicityIn, BreaksCausalityIn, BreaksIn, MeetsIn, Safe}
pub use Rattle.totem_judge_traffic.proofs.Common.{HasDelivered, DeliversOrEnds, IsSafe, IsTrafficOf}
pub use Rattle.totem_table.proofs.Common.{Ordering, Keeps, StaysSound}
pub use Rattle.std.proofs.lemmas.Bool.{cases_lt}
pub use Rattle.std.proofs.lemmas.Option.{slice_get_cases}
pub use Rattle.std.specs.Bool.{OnFalse, MatchBool}
pub use Rattle.std.specs.Option.{IsSome, is_some, unwrap_or}
pub use Rattle.totem_names.proofs.Exact.{apart_or_at, equal_at, exact_message, exact_ring}
pub use Rattle.totem_names.specs.declared.message.Service.{Service}
pub use Rattle.totem_evs.proofs.Pushing.{nothing}
pub use Rattle.totem_evs.specs.AgreementFaults.{BreaksGapIn, GoesAt, IsGap, IsNotDeliveredFirst, IsNotInstalled, IsNotOwned, IsNotReached}
pub use Rattle.totem_evs.specs.Answers.{ComesFirst, IsLeast, FindsIn}
pub use Rattle.totem_evs.specs.Events.{WasSentIn}
pub use Rattle.totem_evs.specs.Following.{OpenIn}
pub use Rattle.totem_judge_run.proofs.Decisions.{both_or_not}
pub use Rattle.totem_judge_run.proofs.Staying.{names_no_change, same_change, change_within, is_stay}
pub use Rattle.totem_judge_run.specs.Stays.{IsStay}
pub use Rattle.totem_search.proofs.Searching.{started, Starts, event_at}
pub use Rattle.totem_search.specs.Search.{HoldsOfNone, IsOneEvent, NoneFrom, place, IsLeastFrom}
pub use Rattle.totem_judge_traffic.proofs.Rowing.{before_or_at}
pub use Rattle.totem_pass_d.specs.Acts.{DeliversNot, IsAmong, IsSendingOf, HasCome, NeverComes, NobodySent}
pub use Rattle.totem_pass_d.specs.Findings.{AreFindings, AreFound, AreMet, AreNone, GrowsBy, all_found}
pub use Rattle.totem_pass_d.specs.Indexes.{Tells, IsDelivery, IsNoDelivery, IsTold, delivered_at, told}
pub use Rattle.totem_pass_d.specs.Pendings.{IsPendingIn, IsPendingFor}
pub use Rattle.totem_pass_d.specs.Reached.{AreMembersAt, IsSafeIn, AreMembersAfter, HoldsNotOfAll}
pub use Rattle.totem_pass_d.specs.Search.{IsInside, BeginsWithin, EachBeginsWithin, IsLeastWithin, NoneBelow, NoneWithin, IsBrokenAlone, EachStandsInside, IsOfOne, StandsInside}
pub use Rattle.totem_pass_d.specs.Searched.{HasPassed, IsLast, AllKeepUp, AreLasts, IsAhead, IsAnywhere, IsApart, IsBeyond, IsLack, IsLater, IsNoChange, IsPartner, IsPassed, IsSpan, KeepsUp, NeverDelivers, TellsMember}
pub use Rattle.totem_pass_d.specs.Sends.{HasSends, NotesSends, AreSends, HasSendsTo, IsSendOf, IsSendOfOne}
pub use Rattle.totem_pass_d.specs.Stays.{AreStays, HasStay, IsStayOf, IsExcused, IsStayFrom}
pub use Rattle.totem_pass_d.specs.Suspects.{AreSuspects, ComesNotBefore, AreNoted, AreNotedFrom, ComesBefore, Handles, HasAllOf, IsEarlier, IsNoted, IsSuspect}
