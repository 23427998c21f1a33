-- The names that most proofs here cite, passed on from one place. Declares nothing.
pub use Rattle.std.proofs.Common.{◌∙◌, ◌≡◌, ap, [], subst, ◌+◌, All, List, arith, sym, take, ℕ, ◌++◌, ◌∷◌, refl, vec_len, ◌<◌, ◌≤◌, Bool, None, Option, Some, append-nil, cond, false, length, rules, suc, true, zero, ◌-◌, ◌==◌, AllPairs, Err, IfSome, Ok, append_assoc, drop, fold, get_or, length-append, map, option_map, set, slice_get}
pub use Rattle.totem_core.proofs.Common.{Node, Stepped, Outcome, Entry}
pub use Rattle.totem_packets.proofs.Common.{eqb-false, eqb-true}
pub use Rattle.totem_ring.proofs.Common.{map-append}
pub use Rattle.totem_evs.proofs.Common.{slice_get_within}
pub use Rattle.std.proofs.lemmas.List.Sums.{sum_by-cons, fold-append}
pub use Rattle.totem_books.specs.Calls.{Receipt, Called}
pub use Rattle.totem_books.specs.History.{called, start_with}
pub use Rattle.totem_books.specs.Journals.{AreEntered, IsMet, BeginWith, Entered, IsEntered, calls_in}
pub use Rattle.totem_books.specs.Receipts.{ShareNoPlace, FitRising, receipts_in, Agree, count_at, count_in, shares_in, Covers}
pub use Rattle.totem_books.specs.Seats.{SeatRecord}
