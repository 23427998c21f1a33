-- The names that most proofs here cite, passed on from one place. Declares nothing.
pub use Rattle.std.proofs.Common.{ℕ, List, refl, ◌≡◌, [], arith, sym, ◌∙◌, ◌∷◌, ap, Some, ◌++◌, ◌==◌, false, inr, inl, ◌<◌, Bool, Ok, Err, Option, suc, true, None, append_assoc, ◌⊎◌, zero, ◌≤◌, length, ◌+◌, cond, subst, ◌↔◌, codes, ◌≢◌, take, nat_le, ◌-◌, Contains, nat_lt, slice_get, ◌&&◌, All, rules, AllPairs, not, ◌*◌, decimal, IsTrue, get_or, ◌^◌, drop, length-append, length-drop, unwrap_or}
pub use Rattle.totem_names.proofs.Common.{◌>>=◌, Parsed, process_text, err_from_is_err_and, IsProcessIn, eqb-true, append-nil, is_digit, MessageName, writes_lives, is_short, IsConf, conf_text, cases_lt, Comes, Seen, IsMessage, message_text, RingName, FirstBreak, seen, IsUpTo, service_text, take_all, take_more, Consumes, Keeps, Reads, Settles, Steady}
pub use Rattle.std.proofs.lemmas.Bool.{OnTrue_from}
pub use Rattle.std.proofs.lemmas.Bool.Decides.{nat_tests, Decides-eqb}
pub use Rattle.std.proofs.lemmas.List.{length_push, get_or_append_left, get_or_push}
pub use Rattle.std.proofs.lemmas.List.Elements.{All-from_recursion, recursion_from_All, All-push, Contains-append_left, Contains-push, Contains-push_cases, All-cons, All-nil, Contains-append_cases, Contains-append_right}
pub use Rattle.std.proofs.lemmas.Option.{slice_get-get_or, get_or_from_slice_get, slice_get_within}
pub use Rattle.std.specs.List.{flat_map, AllByRecursion, starts_with}
pub use Rattle.totem_names.proofs.Lives.{process_then_is, process_then_again, process_then_steady}
pub use Rattle.totem_names.proofs.Readers.{begins, called, failed, picks, handed, skips, passed, stops, breaks_at, chosen, gives, is_above, is_within, next_digit, next_other, next_over, same_left, first_other, last_of, passes_byte, wants_both, wants_rest}
pub use Rattle.totem_names.proofs.ServiceSpelling.{service_is, service_again, service_steady}
pub use Rattle.totem_names.proofs.Spelled.{word_is, byte_is, word_again, conf_is, conf_again, decimal_push, number_to_is, message_again, message_is, number_again, number_is, reads_decimal, ring_is}
pub use Rattle.totem_names.proofs.Steps.{after, parsed_is, taken, guard_else, guard_then}
pub use Rattle.totem_names.proofs.Writers.{wrote_then, wrote_both}
pub use Rattle.totem_names.specs.Ranks.{id_of, life_of, rank_of}
pub use Rattle.totem_names.specs.Writing.{held, Wrote, Writes}
pub use Rattle.totem_names.specs.declared.conf.ConfId.{ConfId}
pub use Rattle.totem_names.specs.declared.conf.ConfId.TheVariants.{Regular, Transitional}
pub use Rattle.totem_names.specs.declared.fault.TextFault.{TextFault}
pub use Rattle.totem_names.specs.declared.message.MsgId.{MsgId}
pub use Rattle.totem_names.specs.declared.message.Service.TheVariants.{Agreed, Safe}
pub use Rattle.totem_names.specs.declared.place.Place.{Place}
pub use Rattle.totem_names.specs.declared.ring.RingId.{RingId}
pub use Rattle.totem_names.specs.declared.version.Version.{Version}
pub use Rattle.totem_names.specs.declared.version.Version.TheVariants.{Three, One, Two}
pub use Rattle.totem_evs.specs.Agreement.{InstalledIn, NoGapsIn, OwnDeliveryIn, SafetyIn, FailureAtomicity, NoGaps, Numbers, SafeDelivery, SelfDelivery}
pub use Rattle.totem_evs.specs.Answers.{IsRing, Meets, MeetsPasses, AreRings, HasCertificate, Lists, ListsConfigurations, ListsCycle, ListsEach, ListsRings, No, Yes, pass_a, pass_b, specs_d}
pub use Rattle.totem_evs.specs.Certificates.{Numbering, Certified, IsBelow, number_at, Matches, number_in, numbers_of}
pub use Rattle.totem_evs.specs.Changes.{StandsIn, StaysInPlace, TakesTurns}
pub use Rattle.totem_evs.specs.Endings.{writes_quiet, IsEndingIn}
pub use Rattle.totem_evs.specs.Events.{log_of, ChangesTo, Sends, Delivers, IsChange, IsRegular, IsTransitional, at_place, entry_at, IsEvent}
pub use Rattle.totem_evs.specs.Faults.{Breaks}
pub use Rattle.totem_evs.specs.Following.{Com, DeliversIn, IsNextChange, Follows, IsFirstChange}
pub use Rattle.totem_evs.specs.Gathered.{GatheredLogs, gathered, none_gathered, MayGather}
pub use Rattle.totem_evs.specs.Laws.{BreaksAreBreaks, CertifiedIsOrdered, EachLogIsOrdered, EachTwinsAgree}
pub use Rattle.totem_evs.specs.Lives.{HasFirstLives, AreFirst, AreLoud, IsFirstVersion}
pub use Rattle.totem_evs.specs.Members.{IsMembersIn}
pub use Rattle.totem_evs.specs.Missing.{members_of, EachHasLog, HasLog, IsLeastMissing, all_members}
pub use Rattle.totem_evs.specs.Parts.{next_stage, part_at, first_stage, with_entry}
pub use Rattle.totem_evs.specs.ReadState.{ReadState, ComesIn, MayCome, IsReadState, Goes, AreNoted, ComesBetween, ComesWithin, IsFirst, IsPart, begun_by, named_by}
pub use Rattle.totem_evs.specs.Reading.{BeginsRun, FitsPart, HasBegun, HasPart, LacksLog, ReadsAs, ReadsPart, FitsRun, HasEnded, IsRead, LacksRun, ReadsRun}
pub use Rattle.totem_evs.specs.RingAgreement.{AtomicityIn, CausalityIn, IsHop}
pub use Rattle.totem_evs.specs.RingFaults.{BreaksAtomicityIn, BreaksCausalityIn, BreaksIn, MeetsIn}
pub use Rattle.totem_evs.specs.RunGrammar.{is_failure}
pub use Rattle.totem_evs.specs.RunRecord.{RunRecord}
pub use Rattle.totem_evs.specs.RunText.{line, ending_text, entry_text, members_text, run_text, version_digit, header_text, log_text, known_text}
pub use Rattle.totem_evs.specs.Runs.{IsLogIn, IsEntryIn, IsRunOf, EndsInFail, IsClosedBy, IsEntry, IsFailure, IsRunIn, IsBelowLog, IsEntries, IsLog}
pub use Rattle.totem_evs.specs.Steps.{Precedes, here, strict, Leads, Twin, twin, Strict, ChangesAt, SendsAt}
pub use Rattle.totem_evs.specs.TextFaults.{BeginsEntry, BreaksHeader, BreaksNumber, ClosesWrong, EndIn, HasEnd, HasFault, HasManyMembers, HasMembers, HasNoOther, HasOrder, HasTooMany, IsInPart, IsMemberBelow, IsNoNumber, IsPast, MembersIn, OrderIn, ReadsTo, TooManyIn}
pub use Rattle.totem_evs.specs.TextFronts.{IsLooseEntry, IsLooseLog, IsLooseMembers, IsLooseRun, but_last, IsFirstWrong, IsFront, IsLooseEntries, IsLooseFront}
