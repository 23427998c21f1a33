-- The names that most proofs here cite, passed on from one place. Declares nothing.
pub use Rattle.std.proofs.Common.{List, refl, arith, ◌≡◌, Some, [], ap, inl, inr, length, slice_get, sym, ℕ, ◌+◌, ◌<◌, ◌∙◌, ◌∷◌, Err, Ok, Result, suc, zero, IsOk, add-one, below_more, false, get_or, rules, slice_index_or, subst, true, ◌==◌, ◌↔◌, ◌≢◌, ◌≤◌}
pub use Rattle.totem_evs.proofs.Common.{Numbering, Certified, Matches, numbers_of, slice_get_within, entry_at, Place, slice_get-get_or, IsBelow, number_in, IsEvent, at_place, log_of}
pub use Rattle.totem_evs.proofs.LogOf.{Rising, Rising-tail, in_order, log_of_at, log_of_cases}
pub use Rattle.totem_evs.specs.declared.log.Log.{Log}
pub use Rattle.totem_outcome.specs.Certifying.{Answers, ClassesAreOne, DoesNotRise, OthersAreApart, OthersShare, Rise, SendIsLate, SendsAreBelow, TwinsAreApart}
