-- Jobs cut into spans.
use Rattle.std.specs.Prelude.{◌≡◌, ◌<◌, ℕ, List, [], ◌∷◌}
use Rattle.totem_audit.specs.declared.spans.Span.{Span}

-- the spans follow each other from one index up to another, and none is empty: each index between is in one of them
abbrev pub AreCut : ℕ → List Span → ℕ → Type 0
AreCut from [] to = from ≡ to
AreCut from (span ∷ spans) to = (span.from ≡ from) × (from < span.to) × AreCut span.to spans to
