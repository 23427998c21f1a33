-- The names that most proofs here cite, passed on from one place. Declares nothing.
pub use Rattle.std.proofs.Common.{◌≡◌, arith, map, All, List, [], ap, length, refl, sym, take, ℕ, ◌+◌, ◌<◌, ◌∙◌, ◌∷◌, AllPairs, Bool, Err, IfOk, IfSome, Ok, false, fold, get_or, slice_get, suc, true, zero, ◌++◌, ◌-◌, ◌==◌, ◌≢◌, ◌≤◌}
pub use Rattle.totem_evs.proofs.Common.{eqb-true, All-cons, All-nil, All-push, AreFirst, AreLoud, HasFirstLives, IsFirstVersion, IsBelowLog, life_of, Version, One, Three, Two}
pub use Rattle.totem_books.proofs.Common.{sum_by-cons, Called, Receipt, Agree, Covers, FitRising, count_at, count_in, Stepped, Outcome, Entry}
pub use Rattle.totem_packets.proofs.Common.{All-append, All-head, All-map, All-tail}
pub use Rattle.totem_recover.proofs.Common.{first_rank, first_ranks, IsRingMembers}
pub use Rattle.totem_net.specs.Nodes.{node_numbers}
pub use Rattle.totem_threads.specs.Books.{AreLogsOf, IsReplayed}
pub use Rattle.totem_threads.specs.FirstLives.{IsFirstBook, IsFirstSeat}
pub use Rattle.totem_threads.specs.Starts.{start_of, starts, first_ring}
