-- The names that most proofs here cite, passed on from one place. Declares nothing.
pub use Rattle.std.proofs.Common.{List, ◌≡◌, ℕ, arith, refl, Err, ap, ◌∙◌, [], suc, ◌++◌, ◌-◌, false, length, zero, ◌∷◌, Ok, sym, take, ◌==◌, Some, ◌<◌, ◌≤◌, All, None, Option, append_assoc, cond, decimal, inr, subst, ◌+◌, codes, drop, inl, Bool, true, ◌↔◌, AllPairs, get_or, ◌*◌, ◌≢◌, ◌⊎◌}
pub use Rattle.totem_evs.proofs.Common.{Numbering, Version, ◌>>=◌, TextFault, Parsed, err_from_is_err_and, Comes, Two, nat_tests, append-nil, flat_map, called, failed, same_left, number_is, process_text, is_short, held, eqb-true, length_push, All-from_recursion, recursion_from_All, AllByRecursion, begins, stops, number_again, after, parsed_is, wrote_both, FirstBreak, Seen, seen, Wrote, One, Three, All-push, slice_get-get_or, Consumes, line, BreaksNumber, breaks_at, gives, picks, skips, guard_then, taken, wrote_then, IsProcessIn, writes_lives, Reads, Steady, Writes}
pub use Rattle.totem_names.proofs.Common.{get_or_default, Follows}
pub use Rattle.std.proofs.lemmas.List.{take_rest}
pub use Rattle.totem_evs.proofs.RunLoops.{full_is, none_before, one_more, records_none, records_step, with_records}
pub use Rattle.totem_evs.proofs.SpelledHeads.{header_is, IsHead, head_is, head_text, begin_parts, head_again, header_again, IsClear}
pub use Rattle.totem_certificate.specs.CertGrammar.{numbering, lines_at}
pub use Rattle.totem_certificate.specs.CertLives.{HasFirstLife, IsFirstVersion}
pub use Rattle.totem_certificate.specs.CertRecord.{CertRecord}
pub use Rattle.totem_certificate.specs.CertText.{numbers_text, cert_text, header_text, line_text}
pub use Rattle.totem_certificate.specs.Keeping.{IsNumber, IsLineIn, IsCertificateOf, IsCertificateIn, IsNumbers, IsOfText, IsBelowLine}
