-- The names that most proofs here cite, passed on from one place. Declares nothing.
pub use Rattle.std.proofs.Common.{refl, arith, ◌≡◌, List, ℕ, ◌∙◌, [], ap, Some, inl, inr, slice_get, sym, ◌∷◌, length, ◌<◌, Bool, IsTrue, ◌↔◌, true, ◌+◌, false, ◌≤◌, Option, not, suc, zero, ◌++◌, ◌⊎◌, None, below_more, rules, take, ◌==◌, ◌≢◌, Contains, Err, Global, IfNone, IfSome, Ok, Result, Vec, append-nil, get_or, slice_index_or, vec_len}
pub use Rattle.totem_judge_run.proofs.Common.{Log, slice_get_read, slice_get_within, Entry, log_of, ConfId, RingId, MsgId, LogRecord, Place, slice_get-get_or, Conf, Send, get_or_from_slice_get, less_or_not, RunRecord, Deliver, Regular, Rising, log_of_cases, Numbering, ChangesTo, Delivers, IsChange, Com, IsQuiet, ending_of, IsFirstChange, LastChange, take_all, take_more, eq_by_cmp, nat_cmp, ordering_then, log_of_at, one_next, Certified, EndsTogether, SharesEnd, StandsIn, StaysInPlace, Fails, FailedIn, IsNextChange, NeverFails, StaysIn, ArePending, AreWaiting, IsWaiting, PendingBelow, WaitingBelow, Fail, id_of, life_of, Transitional}
pub use Rattle.totem_evs.proofs.Common.{HasLog, Sends, DeliversIn, Decides-eqb, ListsRings, InstalledIn, OwnDeliveryIn, SafetyIn, AreRings, ListsEach, No, Matches, IsHop, BreaksAtomicityIn, BreaksCausalityIn, SendsAt, Safe}
pub use Rattle.totem_outcome.proofs.Common.{Answers}
pub use Rattle.std.proofs.lemmas.Result.{IfOk-weaker}
pub use Rattle.totem_evs.specs.AgreementFaults.{BreaksGapIn, GoesAt, IsNotDeliveredFirst, IsNotInstalled, IsNotOwned, IsNotReached}
pub use Rattle.totem_evs.specs.Answers.{FindsIn, IsAnswered}
pub use Rattle.totem_evs.specs.Events.{IsSafe}
pub use Rattle.totem_evs.specs.Following.{HasDelivered, DeliversOrEnds}
pub use Rattle.totem_outcome.proofs.Checking.{broken_first, passed_on}
pub use Rattle.totem_outcome.proofs.Matching.{as_many, matches_at}
pub use Rattle.totem_judge_run.proofs.SentOrNot.{first_change_or_not, in_or_not, same_conf_or_not}
pub use Rattle.totem_search.proofs.Listing.{lists_then, rings_then}
pub use Rattle.totem_search.specs.Adding.{Adds}
pub use Rattle.totem_search.proofs.Loops.{NoneBelow, no_is, denied, none_more, HasLogAt, none_yet, at_log, none_at}
pub use Rattle.totem_search.proofs.Searching.{Starts, started, begins_at, nowhere, told_at}
pub use Rattle.totem_search.specs.Entries.{HasOne, SomeLog}
pub use Rattle.totem_search.specs.Search.{EachBegins, HoldsOfNone, place, AreEvents, Begins, IsOneEvent, NoneFrom, listed}
pub use Rattle.totem_plain.specs.Gathered.{AreListed, WaitsFor, GivesPending, GivesRing, GivesWaiting, IsInOrder, Misses, ring_of, sent_in}
pub use Rattle.totem_plain.specs.Plain.{DeliversInConf, IsLastChangeBefore, SomeMember, DeliversBefore, FailsInAt, HasNoLog, IsEntryMember, IsEntrySafe, IsEntrySend, IsFailureAt, IsLogOf, IsSomeBefore}
pub use Rattle.totem_plain.specs.Rings.{GoesFrom, HasSent, IsGoing, IsLack, IsLater, IsParting}
