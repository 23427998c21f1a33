-- The names that most proofs here cite, passed on from one place. Declares nothing.
pub use Rattle.std.proofs.Common.{◌≡◌, ◌∙◌, ap, false, filter, not, refl, ◌==◌, List, [], arith, length, sym, take, true, ℕ, Bool, Err, map, ⊎_elim, ◌&&◌, ◌<◌, ◌∷◌, ◌≤◌, Ok, Result, drop, if◌then◌else◌, subst, IfSome, IsOk, IsTrue, None, Some, nat_lt, ◌||◌}
pub use Rattle.totem_packets.proofs.Common.{take_all, has, and_from, and_parts, cases_Bool, eq-eqb, eqb-true, IsProcesses, union, with_process, and_right, cases_order, eqb-false, false≢true, ltb-false, ne_eqb, or_from, or_parts, length-map, All-map, err_from_is_err_and, IsCommitMember, IsCommitMembers, IsReport, Makes}
pub use Rattle.std.proofs.lemmas.Bool.{or_cases, or_left, or_right, not-false, not-true}
pub use Rattle.totem_packets.proofs.SetFacts.{Up, part_is, has_union, has_with, up_of, up_union, up_with}
pub use Rattle.totem_packets.specs.Sets.{is_within}
pub use Rattle.totem_member.specs.Commits.{filled_by, report_of, unfilled}
pub use Rattle.totem_member.specs.Gathers.{agrees, Gather, gathered, joined, turning_away, IsGather, IsStanding, after_timeout, consensus, is_stranger, noted_equal, noting, same_sets}
