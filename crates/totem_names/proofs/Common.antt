-- The names that most proofs here cite, passed on from one place. Declares nothing.
pub use Rattle.std.proofs.Common.{ℕ, ◌≡◌, refl, ◌<◌, List, ap, arith, ◌≤◌, ◌∙◌, Err, sym, take, Ok, [], length, ◌++◌, ◌+◌, true, Bool, append_assoc, cond, false, inl, inr, rules, ◌-◌, ◌==◌, ◌∷◌, ◌^◌, Result, decimal, drop, get_or, ◌⊎◌, All, None, Some, subst, ◌%◌, ◌*◌, AllPairs, IfSome, codes, nat_le, suc, zero, ◌≢◌, Option, add-one, drop-cons, length-append, length-drop, map, not, ◌&&◌, ◌/◌, ◌↔◌}
pub use Rattle.std.proofs.lemmas.Bool.{cases_lt, eqb-true}
pub use Rattle.std.proofs.lemmas.List.{append-nil, length-take-le, take_more, get_or-take, take_all, drop-append-le, drop-drop, drop-take, drop_all, get_or_default, take-append-drop, take-append-le}
pub use Rattle.std.proofs.lemmas.Result.{err_from_is_err_and}
pub use Rattle.std.specs.Io.KnownBytes.{Keeps, Consumes, Appends, IsAtEnd, prepend_known}
pub use Rattle.totem_names.specs.Names.{MessageName, PlaceName, RingName}
pub use Rattle.totem_names.specs.Numbers.{byte_at, is_digit}
pub use Rattle.totem_names.specs.Processes.{IsProcessIn, process_text, writes_lives}
pub use Rattle.totem_names.specs.Sources.{◌>>=◌, Comes, Parsed, Steady, Seen, is_short, seen, Breaks, BreaksAt, EndsAtBreak, FirstBreak, Follows, Reads, Settles, Stops, WantsLast}
pub use Rattle.totem_names.specs.Texts.{IsProcess, IsUpTo, IsConf, IsMessage, IsRing, conf_text, message_text, ring_text, service_text}
