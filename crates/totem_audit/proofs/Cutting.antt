-- Spans, when one more is cut.
use Rattle.std.proofs.Common.{◌<◌, ℕ, List, [], ◌∷◌, ◌++◌, refl, sym, arith}
use Rattle.totem_audit.specs.declared.spans.Span.{Span}
use Rattle.totem_audit.specs.Spans.{AreCut}

-- one more span after the others
pub one_more : (from : ℕ) (spans : List Span) (span : Span) → AreCut from spans span.from → span.from < span.to → AreCut from (spans ++ span ∷ []) span.to
one_more from [] span cut some = (sym cut, omega (arith, cut, some), refl)
one_more from (first ∷ spans) span cut some = (cut.0, cut.1, one_more first.to spans span cut.2 some)
