-- The names that most proofs here cite, passed on from one place. Declares nothing.
pub use Rattle.std.proofs.Common.{refl, [], ◌≡◌, List, Some, ap, inl, inr, true, ◌∙◌, ◌∷◌, Bool, arith, ℕ, false, subst, sym, IsTrue, Option, length, slice_get, ◌<◌, Contains, None, not, rules, ◌++◌, ◌+◌, ◌≢◌, ◌≤◌, Err, IfOk, IfSome, Ok, Result, below_more, get_or, nat_lt, slice_range, ◌-◌, ◌==◌, ◌↔◌, ◌⊎◌}
pub use Rattle.totem_judge_run.proofs.Common.{slice_get_read, log_of, Entry, Log, Place, ConfId, slice_get_within, IsChange, RunRecord, Conf, ChangesNext, StaysInPlace, LogRecord, Send, Regular, MsgId, RingId, common_steps, All-push, Contains-append_left, Contains-append_right, get_or_from_slice_get, OnTrue, Rising, log_of_at, log_of_cases, IsTransitional, Follows, IsFirstChange, Deliver, DeliveriesAreOnce, SendsAreOnce}
pub use Rattle.totem_table.proofs.Common.{Ordering, Keeps, KnowsRun, Equal, KnowsLog, StaysSound}
pub use Rattle.std.proofs.lemmas.Grind.{not_there}
pub use Rattle.std.proofs.lemmas.Result.{IfOk-weaker, on_ok_weaker}
pub use Rattle.std.specs.BTreeMap.{BTreeMap, IsUnchanged, is_at}
pub use Rattle.std.specs.Bool.{OnFalse}
pub use Rattle.std.specs.Cmp.{IsTotalOrder}
pub use Rattle.totem_names.proofs.Exact.{apart_or_at, equal_at, both_equal, exact_message, exact_ring}
pub use Rattle.totem_evs.specs.Events.{WasSentIn}
pub use Rattle.totem_judge_run.proofs.Placed.{EachBefore, all_logs, one_more}
pub use Rattle.totem_search.specs.Search.{HoldsOfNone, place, IsOneEvent, Begins, EachBegins, IsLeastInLog}
pub use Rattle.totem_table.proofs.Exact.{change_by, exact_change}
pub use Rattle.totem_pass_ab.specs.Met.{IsMet, Knows}
pub use Rattle.totem_pass_ab.specs.Noted.{AreFollowed, DeliverOnceBut, DeliversEachOnce, IsWithin, KnowsAct, KnowsChange, KnowsOrigin, KnowsRegularChange, WereSent, Widens, sending}
