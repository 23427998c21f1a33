-- The names that most proofs here cite, passed on from one place. Declares nothing.
pub use Rattle.std.proofs.Common.{◌∙◌, arith, ◌≡◌, ap, length, ◌<◌, List, refl, ℕ, Some, sym, inl, inr, suc, slice_get, ◌≤◌, zero, ◌⊎◌, [], ◌+◌, ◌∷◌, get_or, None, ◌++◌, ◌-◌, Option, Bool, drop, false, true, map, ◌≢◌, take, ◌==◌, All, IsTrue, below_more, length-append, length-drop, set, ◌*◌, ◌↔◌, cond, option_map, subst, Contains, IfNone, IfSome, append_assoc, if◌then◌else◌, is_some, nat_le, nat_lt, rules, unwrap_or, ◌^◌}
pub use Rattle.totem_evs.proofs.Common.{Place, slice_get_within, Numbering, number_at, RunRecord, get_or_from_slice_get, numbers_of, IsEvent, slice_get-get_or, MsgId, log_of, Strict, number_in, append-nil, Certified, IsBelow, Matches, entry_at, ConfId, length_push, take_all, Contains-append_cases, Contains-append_left, Contains-append_right, at_place, Breaks, IsLog, IsLogIn, IsRunIn, SendsAt, IsProcessIn, Version, Three}
pub use Rattle.totem_table.proofs.Common.{Log, common_steps, Entry, slice_get_read, IsEntryAt, LogRecord, IsTable, less_or_not, log_of_at, before_push, stands_last, kind_of, Equal, log_of_cases, kinds_in}
pub use Rattle.std.proofs.Math.ListN.{length-map}
pub use Rattle.std.proofs.Math.Nat.{eq-zero-or-pos, eq-or-lt_of_le, lt_of_not-le}
pub use Rattle.std.proofs.lemmas.Bool.{cases_eq, le-leb, leb-true, lt-ltb, ltb-true}
pub use Rattle.std.proofs.lemmas.List.{length-set, get_or_past, map-id}
pub use Rattle.std.proofs.lemmas.Option.{slice_get-map, slice_get_past, slice_get_cases}
pub use Rattle.totem_evs.proofs.LogOf.{Rising, in_order, Rising-tail}
pub use Rattle.totem_evs.specs.Classes.{InClass, IsAtMost, WaitsFor, AreSendAndDelivery, AreOfOneClass, ClassAtMost}
pub use Rattle.totem_evs.specs.ClosedLists.{Step, forward, IsClosedList, unless, BeginsLeast, HoldsUp, IsBrokenBy, IsLeft, IsStepOf, IsTurned, Placed, placed, AreTwinDeliveries, ComesBack, IsWalk, HasTwinDeliveries, IsLeastLeft, IsLeastSend, IsLeftSend, IsPrevious}
pub use Rattle.totem_evs.specs.Positions.{IsNumberedBelow, IsPositions, IsReadyAt}
pub use Rattle.totem_evs.specs.Runs.{IsRun}
pub use Rattle.totem_evs.specs.Steps.{DeliversAt, SameClass}
pub use Rattle.totem_evs.specs.declared.entry.Entry.TheVariants.{Deliver, Send, Conf, Fail}
pub use Rattle.totem_evs.specs.declared.spec.SpecNo.{SpecNo}
pub use Rattle.totem_table.proofs.Checking.{HoldsTo, holds_more}
pub use Rattle.totem_table.specs.declared.table.Table.{Table}
pub use Rattle.totem_cert.specs.Counts.{given_at, Counts, class_at, class_fed, count_of, class_in, one, shared_by, Adds, CountsTo, Pushes, Takes, kept_at, kept_behind, kept_by, kept_in, sum_to, AtMost, HasHead, class_kept, fed_by, passed}
pub use Rattle.totem_cert.specs.Firsts.{AreFirstsTo, AreFirsts, IsWanted, AreFirstsOf, IsPast, Notes, class_wanted}
pub use Rattle.totem_cert.specs.Laws.{ClosedListsAreOne, ClosedListsExcludeCertificates, PositionsAreOne}
pub use Rattle.totem_cert.specs.Progress.{Fits, IsSound, IsNumbered, IsReady, empty_line, IsForwardFrom, IsNumberedSoFar, NoneReady, entries_left, IsClassOf, IsFree, IsFull, IsGiven, IsLeastUpTo, IsNext, IsNextHead, IsNextIn, IsNotVisited, IsRound, IsVisitedAt, IsWalking, Sound, BothAre, IsFirstLeft, IsHeldBy, IsLogOf, NeverDelivers, NotBelow, StandsBefore, StandsNext, message_of}
pub use Rattle.totem_cert.specs.Search.{place}
