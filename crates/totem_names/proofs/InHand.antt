-- Names in bytes at hand.
use Rattle.totem_names.proofs.Common.{◌==◌, ◌≡◌, length, drop, get_or, ℕ, ◌+◌, ◌-◌, ◌<◌, rules, List, [], ◌∷◌, ◌++◌, true, take, Ok, IfSome, ◌≤◌, subst, Seen, Comes, Consumes, refl, sym, ◌∙◌, ap, length-drop, take-append-drop, drop-drop, byte_at, Parsed, Settles}
use Rattle.std.proofs.Math.Seq.{take-length}
use Rattle.std.proofs.lemmas.List.{append_cancel_right, drop_more}
use Rattle.std.specs.Io.{StartsWith}
use Rattle.std.proofs.lemmas.Slice.Eq.{starts_is}
use Rattle.std.proofs.lemmas.Bool.Decides.{Decides-eqb}
use Rattle.std.specs.List.{starts_with}
use Rattle.totem_names.specs.declared.fault.TextFault.{TextFault}
use Rattle.totem_names.specs.Sources.{Stands}
use Rattle.totem_names.specs.Streams.{Skips}
use Rattle.totem_names.specs.Numbers.{word_at, number_at, number_to}
use Rattle.totem_names.proofs.Readers.{front_is}
use Rattle.totem_names.proofs.AtHand.{skips_front, word_settles}

-- all that is behind an index
rest_is : (bytes : List ℕ) (at : ℕ) → take (length bytes - at) (drop at bytes) ≡ drop at bytes
rest_is bytes at = ap (λ k. take k (drop at bytes)) (sym (length-drop at bytes)) ∙ take-length (drop at bytes)

-- the first bytes behind an index settle a value
pub stands : {Y : Type 0} (parse : List ℕ → Parsed Y) (bytes rest : List ℕ) (at count : ℕ) (y : Y) → rest ≡ take (length bytes - at) (drop at bytes) → Settles parse (take count rest) y
    → Stands bytes at (at + count) parse y
stands parse bytes rest at count y is settles =
    let same : rest ≡ drop at bytes = is ∙ rest_is bytes at in
    record {
      read = take count rest;
      taken = sym (ap (λ xs. take count xs ++ drop (at + count) bytes) same ∙ ap (λ ys. take count (drop at bytes) ++ ys) (sym (drop-drop count at bytes)) ∙ take-append-drop count (drop at bytes));
      failures = refl;
      left = settles.left;
      before = settles.before;
    }

-- a number and the byte after it
to_settles : (max end n byte : ℕ) (bytes : List ℕ) → Settles (number_at max) bytes (n, byte) → byte ≡ end → Settles (number_to max end) bytes n
unfolding number_to
to_settles max end n byte bytes h e =
    let test : (byte == end) ≡ true = search (rules, e) in
    record { left = λ more. rw (h.left more, test) refl; before = λ front last w. rw (h.before front last w) refl }

pub number_stands : (max end n byte : ℕ) (bytes rest : List ℕ) (at count : ℕ) → rest ≡ take (length bytes - at) (drop at bytes) → Settles (number_at max) (take count rest) (n, byte) → byte ≡ end
    → Stands bytes at (at + count) (number_to max end) n
number_stands max end n byte bytes rest at count is settles e = stands (number_to max end) bytes rest at count n is (to_settles max end n byte (take count rest) settles e)

pub byte_stands : (bytes : List ℕ) (at b : ℕ) → at < length bytes → b ≡ get_or bytes at 0 → Stands bytes at (at + 1) byte_at b
byte_stands bytes at b within is = record {
  read = b ∷ [];
  taken = drop_more bytes at 0 within ∙ ap (λ (x : ℕ). x ∷ drop (at + 1) bytes) (sym is);
  failures = refl;
  left = λ more. refl;
  before = λ front last h. ap byte_at (sym (front_is [] front b last h));
}

-- a text behind an index settles a value
pub text_stands : {Y : Type 0} (parse : List ℕ → Parsed Y) (bytes rest text : List ℕ) (at : ℕ) (y : Y) → rest ≡ take (length bytes - at) (drop at bytes) → true ≡ starts_with (λ (x y : ℕ). x == y) rest text → Settles parse text y
    → Stands bytes at (at + length text) parse y
text_stands parse bytes rest text at y is begins settles =
    let same : rest ≡ drop at bytes = is ∙ rest_is bytes at in
    let whole : rest ≡ text ++ drop (length text) rest = (starts_is Decides-eqb rest text true begins).0 refl in
    let behind : drop (length text) rest ≡ drop (at + length text) bytes = ap (drop (length text)) same ∙ drop-drop (length text) at bytes in
    record { read = text; taken = sym same ∙ whole ∙ ap (λ xs. text ++ xs) behind; failures = refl; left = settles.left; before = settles.before }

pub word_stands : (fault : TextFault) (bytes rest word : List ℕ) (at : ℕ) → rest ≡ take (length bytes - at) (drop at bytes) → true ≡ starts_with (λ (x y : ℕ). x == y) rest word
    → Stands bytes at (at + length word) (word_at fault word) tt
word_stands fault bytes rest word at is begins = text_stands (word_at fault word) bytes rest word at tt is begins (word_settles fault word)

-- a value is spelled by the first bytes at hand, and these were taken
pub taken_stands : {Y : Type 0} (a b : Seen) (parse : List ℕ → Parsed Y) (hand : List ℕ) (count : ℕ) (y : Y) → IfSome a.remaining (λ bytes. StartsWith bytes hand) → count ≤ length hand → Stands hand 0 count parse y
    → Skips a.remaining b.remaining count → b.failures ≡ a.failures → Comes a b parse (λ more. Ok (y, more))
taken_stands a b parse hand count y starts within stood skipped same =
    let front : take count hand ≡ stood.read = append_cancel_right (take count hand) stood.read (drop count hand) (take-append-drop count hand ∙ stood.taken) in
    let P : List ℕ → Type 0 = Consumes a.remaining b.remaining in
    record {
      read = stood.read;
      taken = subst P front (skips_front hand count a.remaining b.remaining within starts skipped);
      failures = same;
      left = stood.left;
      before = stood.before;
    }
