-- The names that most proofs here cite, passed on from one place. Declares nothing.
pub use Rattle.std.proofs.Common.{◌+◌, ◌≡◌, arith, refl, ◌∙◌, List, Some, ap, inl, inr, slice_get, sym, ℕ, ◌⊎◌, Bool, None, Option, false, length, subst, true, ◌<◌, ◌≤◌, IsTrue, [], max, suc, zero, ◌&&◌, ◌↔◌}
pub use Rattle.totem_evs.proofs.Common.{slice_get_within, log_of, ConfId, MsgId, DeliversIn, Regular, RingId, MeetsPasses, Delivers, Sends, at_place, entry_at, Com, IsHop, RunRecord, SendsAt, id_of, life_of, rank_of, Place}
pub use Rattle.totem_stitch.proofs.Common.{Entry, slice_get_read, BTreeMap, is_at}
pub use Rattle.totem_evs.proofs.LogOf.{less_or_not, log_of_at, log_of_cases}
pub use Rattle.totem_evs.specs.Events.{WasSentIn}
pub use Rattle.totem_evs.specs.declared.entry.Entry.TheVariants.{Send, Conf, Deliver, Fail}
pub use Rattle.totem_walk.specs.Acts.{Handles, DeliversNothing, DeliversThere, HandlesIn, HandlesNothing, SendsIn}
pub use Rattle.totem_walk.specs.Deliveries.{AreDeliveries, AreDeliveriesBefore, IsDelivered, IsFollowedBy, index_in, IsDeliveredBefore, message_order}
pub use Rattle.totem_walk.specs.Order.{BreaksOrder, KeepsOrder, KeepsOrderBefore}
