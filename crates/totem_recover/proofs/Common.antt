-- The names that most proofs here cite, passed on from one place. Declares nothing.
pub use Rattle.std.proofs.Common.{◌≡◌, length, List, ℕ, [], arith, ◌++◌, ◌+◌, ◌<◌, ◌∷◌, ◌≤◌, ap, drop, refl, subst, sym, take, ◌∙◌, Bool, IsTrue, append_assoc, false, fold, true, ⊎_elim, AllPairs, Some, filter, get_or, inl, inr, length-append, map, max, nat_lt, slice_index, ◌&&◌, ◌==◌, ◌⊎◌}
pub use Rattle.totem_packets.proofs.Common.{cases_lt, length-map, RingName, transitional_set, has, cases_Bool, lt-ltb, IsCommitMembers, member_ranks, transitional_ranks, processes_of, reports_from, reports_ring, union, with_process}
pub use Rattle.totem_ring.proofs.Common.{Held, going_up, cases_eq, filter_map-append, filter_map, Ring, RisesFrom, may_go_up, message_at, whole_above}
pub use Rattle.totem_evs.proofs.Common.{id_of, nat_tests, ConfId, Regular, Transitional}
pub use Rattle.totem_evs.specs.declared.entry.Entry.{Entry}
pub use Rattle.totem_recover.specs.Exchange.{held_above, Leaving, mark_of, IsReady, at_least, greatest_of_all, new_recovery, reported_obligation, sent_again, sent_anew}
pub use Rattle.totem_recover.specs.Finish.{deliveries, rest_from, finish, owed_of, between_rings, delivery}
pub use Rattle.totem_recover.specs.Lives.{ids_of, IsRingMembers, first_ranks, first_rank}
