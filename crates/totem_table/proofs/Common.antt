-- The names that most proofs here cite, passed on from one place. Declares nothing.
pub use Rattle.std.proofs.Common.{◌≡◌, arith, length, refl, ap, ℕ, ◌+◌, ◌∙◌, List, Some, [], slice_get, ◌≤◌, get_or, inl, inr, map, take, sym, ◌++◌, ◌<◌, ◌∷◌, Err, below_more, drop, false, suc, zero, Bool, Contains, MatchResult, Ok, Result, flat_map, true, ◌&&◌, ◌*◌, ◌-◌, ◌↔◌, ◌⊎◌}
pub use Rattle.totem_evs.proofs.Common.{slice_get_within, slice_get-get_or, log_of, RunRecord, ConfId, get_or_from_slice_get, IsChange, MsgId, Contains-append_left, Contains-append_right, id_of, life_of}
pub use Rattle.std.proofs.lemmas.Grind.{common_steps}
pub use Rattle.std.proofs.lemmas.Option.{slice_get_read}
pub use Rattle.std.specs.declared.cmp.Ordering.{Ordering}
pub use Rattle.std.specs.declared.cmp.Ordering.TheVariants.{Less, Equal, Greater}
pub use Rattle.totem_evs.proofs.LogOf.{less_or_not, log_of_at, log_of_cases}
pub use Rattle.totem_evs.proofs.Pushing.{Along, along_more, before_push, stands_before, stands_last}
pub use Rattle.totem_evs.specs.LogRecord.{LogRecord}
pub use Rattle.totem_evs.specs.declared.entry.Entry.{Entry}
pub use Rattle.totem_evs.specs.declared.log.Log.{Log}
pub use Rattle.totem_table.specs.Changes.{ListsChanges, IsListed}
pub use Rattle.totem_table.specs.Names.{ListsNames, all_names, names_in}
pub use Rattle.totem_table.specs.Registers.{Keeps, KnowsLog, StaysSound, KnowsRun}
pub use Rattle.totem_table.specs.Tables.{kind_of, NamedBy, RowNames, kinds_in, Rises, IsEntryAt, IsTable, NamesConf, NamesMessage, RowsName, number_at}
