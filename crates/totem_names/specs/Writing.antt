-- What a writer of a text returns, and what the sink then holds.
use Rattle.std.specs.Prelude.{◌≡◌, ℕ, ◌+◌, ◌%◌, ◌^◌, List, Result, Ok, Err}
use Rattle.std.specs.declared.option.Option.{Option}
use Rattle.std.specs.Io.KnownBytes.{Appends, append_known}

-- what is known of a sink and the bytes gathered for it: all these bytes together, and how often the sink failed
pub record Held : Type 0 where
  pub contents : Option (List ℕ)
  pub failures : ℕ

-- what the members of a sink say about it
abbrev pub held : {S : Type 0} → (S → Option (List ℕ)) → (S → ℕ) → List ℕ → S → Held
held contents failures gathered s = record { contents = append_known (contents s) gathered; failures = failures s }

-- the text was written, and the sink did not fail
pub record Wrote (old new : Held) (text : List ℕ) : Type 0 where
  pub grown : Appends old.contents new.contents text
  pub failures : new.failures ≡ old.failures

-- a writer writes the text, unless the sink failed in this call
abbrev pub Writes : {A E : Type 0} → Held → Held → Result A E → List ℕ → Type 0
Writes old new (Ok a) text = Wrote old new text
Writes old new (Err e) text = new.failures ≡ (old.failures + 1) % 2 ^ 64
