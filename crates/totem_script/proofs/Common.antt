-- The names that most proofs here cite, passed on from one place. Declares nothing.
pub use Rattle.std.proofs.Common.{◌≡◌, arith, ◌∙◌, rules, length, ap, ◌+◌, [], true, sym, ◌∷◌, List, ℕ, false, refl, ◌<◌, drop, ◌≤◌, Bool, Ok, ◌++◌, ◌==◌, Err, get_or, cond, nat_lt, suc, zero, take, ◌≢◌, All, Some, not, None, ◌-◌, Option, append-nil, ◌&&◌, AllPairs, slice_get, Contains, IfOk, IfSome, IsTrue, Result, Vec, append_assoc, codes, if◌then◌else◌, is_some, length-append, map, nat_le, slice_index_or, ◌*◌, ◌||◌}
pub use Rattle.totem_evs.proofs.Common.{id_of, nat_tests, RingName, ◌>>=◌, All-cons, All-push, life_of, RunRecord, eqb-true, take_more, All-nil, AreFirst, AreLoud, HasFirstLives, EndsInFail, IsBelowLog, IsClosedBy, IsFailure, is_digit}
pub use Rattle.totem_packets.proofs.Common.{drop_more, ne_eqb, drop_all, eq-eqb, get_or-take, All-append, All-head, All-tail, AllPairs-cons, length-take-le, take-append-drop, IsBelow}
pub use Rattle.totem_core.proofs.Common.{Sending, Node, Entry, list_all, Stepped, IsRefused, Outcome, is_least}
pub use Rattle.totem_recover.proofs.Common.{first_ranks, first_rank}
pub use Rattle.totem_ring.proofs.Common.{get_or_default}
pub use Rattle.std.proofs.lemmas.List.{take_rest, length-drop}
pub use Rattle.std.proofs.lemmas.Bool.{cond_both}
pub use Rattle.std.proofs.lemmas.List.Elements.{All-drop, All-from_get_or, All-map, All-take}
pub use Rattle.std.proofs.lemmas.List.Sums.{sum_by-cons}
pub use Rattle.std.specs.List.{concat, insert, onto_first, position, position_or_len, prefix_len}
pub use Rattle.totem_packets.specs.declared.packet.Packet.{Packet}
pub use Rattle.totem_evs.specs.LogRecord.{LogRecord}
pub use Rattle.totem_evs.specs.declared.ending.Ending.TheVariants.{Quiet, Failed, Standing}
pub use Rattle.totem_core.specs.Nodes.{new_node}
pub use Rattle.totem_core.specs.Replay.{first_change}
pub use Rattle.totem_core.specs.declared.input.Input.{Input}
pub use Rattle.totem_script.specs.Actors.{Actor, may_return, IsBelowAll, IsHistory, Rises, log_of, next_life, AreLives, logs_of, procs_in}
pub use Rattle.totem_script.specs.Casts.{lives_of, IsCast, ids_in, logs_in}
pub use Rattle.totem_script.specs.Commands.{some_processes, command_of}
pub use Rattle.totem_script.specs.Judged.{Judged, Fails, by_line}
pub use Rattle.totem_script.specs.Numbers.{process_in, only, ring_in}
pub use Rattle.totem_script.specs.Scenes.{Scene, carried_out, empty_scene}
pub use Rattle.totem_script.specs.Versions.{FitVersion, run_of, AreRunLogs, version_of}
