-- The names that most proofs here cite, passed on from one place. Declares nothing.
pub use Rattle.std.proofs.Common.{◌≡◌, ap, ◌∙◌, take, ◌++◌, List, Option, refl, ℕ, Bool, None, Some, [], false, filter, length, nat_le, true, Err, arith, if◌then◌else◌, nat_lt, sym, ◌+◌, ◌∷◌, Ok, Result, not, subst, unwrap_or, ◌<◌, ◌≤◌, map, max, ⊎_elim, ◌&&◌, ◌==◌, ◌^◌, All, IfOk, IfSome, IsErr, append_assoc, cond, get_or, length-append, rules, suc, ◌||◌, ◌≢◌}
pub use Rattle.totem_ring.proofs.Common.{Ring, numbered, has, Body, Message, given, cons_option, Token, message_refusal, token_refusal, Done, after_message, unless_refused, Sending, and_parts, length-take-le, take_more, All-append, All-cons, All-nil, All-weaker, filter-append, filter_map-append, filter_map, RingName, is_token_in_range, first_token, holds, same_ring, after_token, on_message, resent, AnswersUndoably, broadcasts, visit}
pub use Rattle.totem_recover.proofs.Common.{deliveries, Regular, cases_Bool, Entry, ConfId, Leaving, delivery, finish, lt-ltb, nat_tests, member_ranks, union, with_process, IsReady, held_above, new_recovery, between_rings, rest_from}
pub use Rattle.totem_packets.proofs.Common.{◌>>=◌, same_processes, false≢true, le-ltb, true≢false, append-nil, All-filter, All-map, member_rank, reported_life}
pub use Rattle.totem_member.proofs.Common.{Gather, consensus, gathered, filled_by, report_of, unfilled, agrees, is_stranger}
pub use Rattle.totem_evs.proofs.Common.{AreFirst, life_of}
pub use Rattle.std.proofs.lemmas.Bool.{cond-false, cond-true}
pub use Rattle.std.specs.List.{list_all}
pub use Rattle.totem_packets.specs.Sets.{is_least}
pub use Rattle.totem_packets.specs.declared.commit.CommitToken.{CommitToken}
pub use Rattle.totem_packets.specs.declared.commit_member.Report.{Report}
pub use Rattle.totem_packets.specs.declared.join.Join.{Join}
pub use Rattle.totem_member.specs.Commits.{may_enter, first_commit, is_first, is_report, may_fill, may_start, on_commit}
pub use Rattle.totem_member.specs.Gathers.{after_join, new_gather, on_join, on_timeout}
pub use Rattle.totem_member.specs.declared.views.CommitView.{CommitView}
pub use Rattle.totem_recover.specs.Exchange.{last_mark, is_done, next_bodies, on_ring}
pub use Rattle.totem_recover.specs.Finish.{regular_part}
pub use Rattle.totem_core.specs.Gathering.{gathering_anew, join_broadcast, look_at_consensus, to_gather, commit_begun, committing, gather_base, gather_begun, makes_commit, set_of, taking}
pub use Rattle.totem_core.specs.Nodes.{Node, Gathering, Stepped, report, sending, Committing, InRecovery, Operational, Recovering, State, Told, commit_view, committed_to, is_sealed, on_its_ring}
pub use Rattle.totem_core.specs.Outcomes.{Outcome, by_member, Fails, IsRefused, by_ring}
pub use Rattle.totem_core.specs.Visiting.{sends, finishing_entries, message_told, send, after_visit, send_of, submits, visit_entries, visit_new, visit_told}
