-- The answer of a verdict (docs/SPECIFICATIONS.md, "Passes").
use Rattle.std.specs.Prelude.{◌≡◌}
use Rattle.totem_names.specs.declared.version.Version.{Version}
use Rattle.totem_evs.specs.Answers.{Answer, Yes, No}
use Rattle.totem_audit.specs.declared.verdict.Verdict.{Verdict}
use Rattle.totem_audit.specs.declared.verdict.Verdict.TheVariants as verdicts

-- the answer that a verdict gives
abbrev pub answer_of : Verdict → Answer
answer_of (verdicts.Yes certificate pending waiting) = Yes certificate.lines pending.items waiting.items
answer_of (verdicts.No faults) = No faults.items

-- the certificate, if there is one, has this version
abbrev pub HasVersion : Version → Verdict → Type 0
HasVersion version (verdicts.Yes certificate pending waiting) = certificate.version ≡ version
HasVersion version (verdicts.No faults) = Unit {0}
