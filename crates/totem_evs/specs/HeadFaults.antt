-- Where the faults of a first line and of the beginning of a record are (docs/SPECIFICATIONS.md, "Run text" and
-- "Certificate text").
use Rattle.std.specs.Prelude.{◌≡◌, ◌≢◌, ℕ, ◌≤◌, ◌⊎◌, List, [], ◌∷◌, ◌++◌, Bool, false}
use Rattle.totem_names.specs.Numbers.{is_digit}
use Rattle.totem_names.specs.declared.version.Version.{Version}
use Rattle.totem_names.specs.Processes.{process_text, IsProcessIn}
use Rattle.totem_evs.specs.RunText.{line, version_digit}
use Rattle.totem_evs.specs.Heads.{Words, HasVersion}

-- ---- the first line

-- the bytes begin as this word, and then one differs
pub record Differs (word bytes : List ℕ) : Type 0 where
  pub front : List ℕ
  pub wanted : ℕ
  pub behind : List ℕ
  pub byte : ℕ
  pub rest : List ℕ
  pub is_word : word ≡ front ++ wanted ∷ behind
  pub is_bytes : bytes ≡ front ++ byte ∷ rest
  pub differs : byte ≢ wanted

-- the words of the first line differ; or its digit is of no version; or no line end follows the digit
abbrev pub BreaksFirstLine : Words → List ℕ → Type 0
BreaksFirstLine words bytes =
    Differs words.title bytes
    ⊎ ((byte : ℕ) × (rest : List ℕ) × (bytes ≡ words.title ++ byte ∷ rest) × ((version : Version) → HasVersion words version → byte ≢ version_digit version))
    ⊎ ((version : Version) × (rest : List ℕ) × HasVersion words version × (bytes ≡ words.title ++ version_digit version ∷ rest) × Differs (line []) rest)

-- ---- a record

-- a record begins whose process is complete at the byte after it and not above `last`, where a record may begin
pub record BeginsBelow (words : Words) (version : Version) (full : Bool) (last : ℕ) (bytes : List ℕ) : Type 0 where
  pub proc : ℕ
  pub byte : ℕ
  pub rest : List ℕ
  pub room : full ≡ false
  pub fits : IsProcessIn version proc
  pub below : proc ≤ last
  pub complete : is_digit byte ≡ false
  pub is : bytes ≡ words.letter ∷ words.word ++ (process_text version proc ++ byte ∷ rest)
