-- The names that most proofs here cite, passed on from one place. Declares nothing.
pub use Rattle.std.proofs.Common.{◌≡◌, Some, slice_get, arith, refl, sym, ◌∙◌, subst, ap, ℕ, List, length, inl, inr, ◌<◌, ◌≤◌, Contains, [], rules, ◌++◌, ◌↔◌, ◌∷◌, ◌⊎◌, append-nil, ◌+◌, IsTrue, append_assoc, length-set, replicate, slice_index, slice_set, suc, true, zero, ◌≢◌}
pub use Rattle.totem_judge_run.proofs.Common.{before_push, stands_last, Log, slice_get_within, Numbering, log_of, slice_get_read, Entry, Conf, Deliver, Regular, ConfId, MsgId, RingId, Certified, ChangesTo, Follows, LogRecord, slice_get-get_or, less_or_not, Delivers, Send, IsOrderly, Rising, IsChange, Com, IsNextChange, StaysIn, log_of_at, one_next, EndsTogether, Names, ChangesWith, IsMember, IsQuiet, IsRegular, IsTransitional, ending_of, FailedIn, NeverFails, RunRecord, IsFailure, Fail, HoldsPending, IsInOrder, Transitional}
pub use Rattle.totem_judge_traffic.proofs.Common.{IsLogAt, Sends, IsBy, MeetsPasses, DeliversIn, AreLogsOf, HasSent, IsTrafficOf, IsSafe, HasDelivered, ShowsAgreement, AreMembers}
pub use Rattle.totem_judge_certificate.proofs.Common.{at_index, Matches, Stands, place, RisesBefore}
pub use Rattle.totem_evs.proofs.Common.{OnTrue_from, IsRing, EndsInFail, IsLog}
pub use Rattle.totem_evs.specs.Following.{OpenIn}
pub use Rattle.totem_evs.specs.Runs.{IsRun}
pub use Rattle.totem_evs.specs.declared.pending.Pending.{Pending}
pub use Rattle.totem_judge_run.proofs.Staying.{change_within, same_change, is_stay, names_no_change}
pub use Rattle.totem_judge_traffic.proofs.Facts.{has_log, all_at, one_log}
pub use Rattle.totem_judge_traffic.proofs.Rowing.{read_at, before_or_at, one_at}
pub use Rattle.totem_judge_traffic.specs.Clean.{AgreesIn}
pub use Rattle.totem_judge_traffic.specs.Pending.{IsPendingIn, AddsPending}
pub use Rattle.totem_judge_traffic.specs.Traffics.{IsGotIn, AreTraffic, HasFollowing, IsFollowingAs}
pub use Rattle.totem_judge_traffic.specs.declared.observed.Observed.{Observed}
pub use Rattle.totem_judge_traffic.specs.declared.traffic.Got.{Got}
pub use Rattle.totem_judge_traffic.specs.declared.traffic.Sent.{Sent}
pub use Rattle.totem_judge_traffic.specs.declared.traffic.Traffic.{Traffic}
pub use Rattle.totem_judge.specs.Covered.{AreCovered, AreRisingTo, AreCoveredTo, IsCoveredTo}
pub use Rattle.totem_judge.specs.Ends.{HasSuch, IsAny, IsExcusedIn, IsOpenAt, Selects}
pub use Rattle.totem_judge.specs.Events.{IsEventAt}
pub use Rattle.totem_judge.specs.Judged.{AreObserved, AgreesAt, AllAreTraffic, IsVerified, Agree, Covers, IsObserved, IsView}
pub use Rattle.totem_judge.specs.Lists.{EachBelow, AreAsListed, IsGotAt, AreSentIn, AreSkipped, AreUnsent, ComesBefore, IsLinked, IsOriginAt, IsSentAt, IsThere, IsDeliveryOf, IsDeliveredAt, IsListed, IsSentIn, is_safe}
pub use Rattle.totem_judge.specs.Members.{AreLogsOfMembers, AreMemberLogs, IsLogOfMember}
pub use Rattle.totem_judge.specs.Pending.{AddsAll, IsPendingFrom, IsPendingTo}
pub use Rattle.totem_judge.specs.Seen.{IsReplayed, IsSeen}
pub use Rattle.totem_judge.specs.Turns.{HasFollowingOf, HasFollowings, IsFollowing, LeavesFrom, TurnsToConf, TurnsTo}
