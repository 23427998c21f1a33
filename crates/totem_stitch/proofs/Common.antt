-- The names that most proofs here cite, passed on from one place. Declares nothing.
pub use Rattle.std.proofs.Common.{Some, refl, sym, ◌∙◌, ◌≡◌, List, Option, ap, arith, inl, inr, ◌≤◌, None, length, subst, ℕ, ◌+◌, ◌<◌, ◌⊎◌, false, slice_get, true, Bool, [], is_some, unwrap_or, ◌↔◌}
pub use Rattle.totem_evs.proofs.Common.{ConfId, RingId, slice_get_within, Regular, ChangesTo, Follows, IsNextChange, IsChange, log_of, Com, IsFirstChange, RunRecord, Transitional}
pub use Rattle.std.proofs.lemmas.Option.{slice_get_read}
pub use Rattle.std.specs.BTreeMap.{BTreeMap, is_at}
pub use Rattle.totem_evs.proofs.NextChanges.{NoneBetween, one_next, none_between_more, same_first}
pub use Rattle.totem_evs.specs.declared.entry.Entry.{Entry}
pub use Rattle.totem_stitch.specs.Building.{IsTable, KnowsLog, MovesNext, NoneComesNext, HasCome, HasNoOrigin, HasNotCome, IsNoRegular, KnowsFollower, KnowsOrigin}
pub use Rattle.totem_stitch.specs.Followers.{IsFollower, IsOrigin, FollowsFirst, NothingFollows}
