-- Bytes at hand: what they settle, how they are taken, and those that a buffer holds.
use Rattle.std.proofs.lemmas.Grind.{common_steps}
use Rattle.totem_names.proofs.Common.{Some, None, IfSome, ◌==◌, ◌≡◌, ℕ, ◌+◌, ◌-◌, ◌<◌, ◌≤◌, arith, rules, List, [], ◌∷◌, ◌++◌, true, length, take, drop, get_or, Result, Ok, Err, refl, sym, ◌∙◌, ap, subst, append_assoc, length-drop, length-append, append-nil, take_more, take-append-le, take-append-drop, drop-append-le, drop-drop, drop-take, length-take-le, Consumes, Keeps, prepend_known, Seen, Parsed, Comes, Settles}
use Rattle.std.specs.declared.option.Option.{Option}
use Rattle.std.specs.Io.{StartsWith}
use Rattle.std.proofs.KnownBytes.{prepend_known-front, Keeps-refl, starts_with_rest}
use Rattle.totem_names.specs.declared.fault.TextFault.{TextFault}
use Rattle.totem_names.specs.declared.fault.TextFault.TheVariants.{Truncated}
use Rattle.totem_names.specs.Streams.{Skips}
use Rattle.totem_names.specs.Numbers.{word_at}
use Rattle.totem_names.proofs.Readers.{wants_none, front_is, keeps_none}

-- ---- what is parsed from bytes at hand

-- no byte was taken
pub kept_none : {Y : Type 0} (a b : Seen) (parse : List ℕ → Result Y TextFault) → Keeps a.remaining b.remaining → b.failures ≡ a.failures → Comes a b parse parse
kept_none a b parse keeps same = record { read = []; taken = keeps_none a.remaining b.remaining keeps; failures = same; left = λ more. refl; before = wants_none parse }

-- the first of the bytes at hand were skipped
pub skips_front : (hand : List ℕ) (count : ℕ) (old new : Option (List ℕ)) → count ≤ length hand → IfSome old (λ bytes. StartsWith bytes hand) → Skips old new count → Consumes old new (take count hand)
skips_front hand count old new h k m = grind (arith, common_steps, starts_with_rest, take-append-le)

-- bytes at hand settle a value, and they were taken
pub skipped_value : {Y : Type 0} (a b : Seen) (parse : List ℕ → Parsed Y) (hand : List ℕ) (count : ℕ) (y : Y)
    → IfSome a.remaining (λ bytes. StartsWith bytes hand) → count ≤ length hand → Settles parse (take count hand) y
    → Skips a.remaining b.remaining count → b.failures ≡ a.failures → Comes a b parse (λ more. Ok (y, more))
skipped_value a b parse hand count y starts le settles skipped same = grind (arith, skips_front)

-- one byte more at hand
pub one_more : {Y : Type 0} (parse rest other : List ℕ → Result Y TextFault) (bytes : List ℕ) (at b : ℕ)
    → ((more : List ℕ) → parse (take at bytes ++ more) ≡ rest more) → at < length bytes → b ≡ get_or bytes at 0
    → ((more : List ℕ) → rest (b ∷ more) ≡ other more) → (more : List ℕ) → parse (take (at + 1) bytes ++ more) ≡ other more
one_more parse rest other bytes at b so_far lt is next more = grind (arith, common_steps, take_more, append_assoc)

-- the byte at hand that settles the value
pub settles_at : {Y : Type 0} (parse rest : List ℕ → Parsed Y) (bytes : List ℕ) (at b : ℕ) (y : Y)
    → ((more : List ℕ) → parse (take at bytes ++ more) ≡ rest more) → rest [] ≡ Err Truncated → at < length bytes → b ≡ get_or bytes at 0
    → ((more : List ℕ) → rest (b ∷ more) ≡ Ok (y, more)) → Settles parse (take (at + 1) bytes) y
settles_at parse rest bytes at b y so_far short lt is next = grind (arith, common_steps, one_more, front_is, take_more, append-nil)

word_whole : (fault : TextFault) (word more : List ℕ) → word_at fault word (word ++ more) ≡ Ok (tt, more)
unfolding word_at
word_whole fault [] more = refl
word_whole fault (w ∷ word) more = let test : (w == w) ≡ true = search rules in rw test (word_whole fault word more)

word_short : (fault : TextFault) (front : List ℕ) (byte : ℕ) → word_at fault (front ++ byte ∷ []) front ≡ Err Truncated
unfolding word_at
word_short fault [] byte = refl
word_short fault (w ∷ front) byte = let test : (w == w) ≡ true = search rules in rw test (word_short fault front byte)

pub word_settles : (fault : TextFault) (word : List ℕ) → Settles (word_at fault word) word tt
word_settles fault word = record { left = word_whole fault word; before = λ front byte h. rw h (word_short fault front byte) }

-- ---- what a buffer holds

-- what a buffer holds follows next
pub held_front : (items hand : List ℕ) (at filled : ℕ) (inner : Option (List ℕ)) → at ≤ filled → hand ≡ take (filled - at) (drop at items)
    → IfSome (prepend_known (drop at (take filled items)) inner) (λ bytes. StartsWith bytes hand)
held_front items hand at filled inner le is =
    let bs = drop at (take filled items) in
    let whole : filled ≡ at + (filled - at) = omega (arith, le) in
    let same : bs ≡ hand = ap (λ (n : ℕ). drop at (take n items)) whole ∙ drop-take at (filled - at) items ∙ sym is in
    let P : List ℕ → Type 0 = λ h. IfSome (prepend_known bs inner) (λ bytes. StartsWith bytes h) in
    subst P same (prepend_known-front (prepend_known bs inner) inner bs (Keeps-refl (prepend_known bs inner)))

held_length : (items : List ℕ) (at filled count : ℕ) → filled ≤ length items → count ≤ filled - at → count ≤ length (drop at (take filled items))
held_length items at filled count room fits = omega (arith, fits, length-drop at (take filled items), length-take-le filled items room)

-- bytes that a buffer holds are skipped
pub held_skip : (items : List ℕ) (at filled count : ℕ) (inner : Option (List ℕ)) → filled ≤ length items → count ≤ filled - at
    → Skips (prepend_known (drop at (take filled items)) inner) (prepend_known (drop (at + count) (take filled items)) inner) count
held_skip items at filled count None room fits = tt
held_skip items at filled count (Some ys) room fits =
    let bs = drop at (take filled items) in
    let within = held_length items at filled count room fits in
    let rest : drop count (bs ++ ys) ≡ drop (at + count) (take filled items) ++ ys =
    drop-append-le count bs ys within ∙ ap (λ (w : List ℕ). w ++ ys) (drop-drop count at (take filled items)) in
    (omega (arith, within, length-append bs ys), sym (take-append-drop count (bs ++ ys)) ∙ ap (λ (w : List ℕ). take count (bs ++ ys) ++ w) rest)
