-- The names that most proofs here cite, passed on from one place. Declares nothing.
pub use Rattle.std.proofs.Common.{◌≡◌, inl, inr, Some, slice_get, ℕ, List, arith, ◌⊎◌, ◌<◌, length, refl, sym, All, ap, ◌+◌, subst, ◌↔◌, ◌∙◌, ◌≤◌, [], length-set, slice_index, slice_index_or, slice_set, suc, ◌≢◌, Contains, IsTrue, bit_and, bit_or, get_or, max, min, replicate, w32, zero, ◌%◌, ◌*◌, ◌++◌, ◌-◌, ◌/◌, ◌^◌, ◌∷◌}
pub use Rattle.totem_judge_run.proofs.Common.{Log, MsgId, RingId, log_of, Delivers, Regular, slice_get_within, less_or_not, ConfId, Deliver, ChangesTo, IsMember, Com, get_or_from_slice_get, Entry, Contains-append_left, Contains-push, Contains-push_cases, slice_get-get_or, Rising, in_order, log_of_cases, one_next, StandsIn, Follows, IsNextChange, Conf, Send, Place}
pub use Rattle.totem_evs.proofs.Common.{MeetsPasses, Sends, DeliversIn, at_place, IsHop, SendsAt}
pub use Rattle.totem_evs.specs.Events.{IsSafe}
pub use Rattle.totem_evs.specs.Following.{HasDelivered, DeliversOrEnds}
pub use Rattle.totem_judge_traffic.specs.Clean.{Shows, IsBy, LacksTo, AreCausalTo, NoGapsTo, AreFewerTo, AreInOrderTo, HasAllBehind, LacksBehindTo, AllHaveCome, AreAllAmong, HasNoGap, IsAtomic, IsBehindWith, IsCausal, IsLacking, IsNotSafeThere, IsOwned, IsSafeBehind, IsTogether, IsWhole, ReachesAll, ShowsAgreement}
pub use Rattle.totem_judge_traffic.specs.Lacking.{AddsToRows, KeepsRows, RowIsApart, RowsAreApart, RowHas}
pub use Rattle.totem_judge_traffic.specs.Traffics.{IsTrafficOf, IsLogAt, HasGot, HasSent, AreLogsOf, AreMembers, DeliversBehind}
