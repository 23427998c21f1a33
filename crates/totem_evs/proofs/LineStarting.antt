-- Lines of sends and deliveries, by what they begin with.
use Rattle.std.proofs.Common.{arith}
use Rattle.totem_evs.proofs.Common.{codes, ◌==◌, ◌≡◌, ◌+◌, ◌-◌, ℕ, List, [], ◌∷◌, ◌++◌, Bool, true, false, Ok, Err, length, take, drop, refl, sym, ◌∙◌, ap, subst, append_assoc, length-drop, starts_with, eqb-true, Decides-eqb, Version, RingName, MessageName, Parsed, Settles, ◌>>=◌, wants_both, gives}
use Rattle.std.proofs.Math.Seq.{take-append-add, take-length}
use Rattle.std.proofs.lemmas.Slice.Eq.{starts_is}
use Rattle.totem_names.specs.declared.fault.TextFault.TheVariants as faults
use Rattle.totem_names.specs.Numbers.{word_at, number_at, number_to}
use Rattle.totem_names.specs.Parsers.{conf_at, ring_at, message_at}
use Rattle.totem_names.specs.Services.{service_at}
use Rattle.totem_evs.specs.declared.entry.Entry.TheVariants as entries
use Rattle.totem_evs.specs.declared.lines.Line.{Line}
use Rattle.totem_evs.specs.declared.lines.Line.TheVariants as lines
use Rattle.totem_evs.specs.declared.repeats.Said.{Said}
use Rattle.totem_evs.specs.declared.repeats.Said.TheVariants.{Send, Deliver}
use Rattle.totem_evs.specs.RunGrammar.{line_at, send_at, delivery_at}
use Rattle.totem_evs.specs.LineStarts.{start_at, send_start, delivery_start, entry_of}

-- what follows the start of a line: the number of the message, and the end of the line
abbrev rest_at : Said → List ℕ → Parsed Line
rest_at said bytes = number_to 4294967295 10 bytes >>= λ n. gives (lines.Entry (entry_of said n.0)) n.1

-- a message of a ring that was read
message_rest : (ring : RingName × List ℕ) (k : MessageName → Line) (said : Said) → ((n : ℕ) → k (record { ring = ring.0; number = n }) ≡ lines.Entry (entry_of said n))
    → ((number_to 4294967295 10 ring.1 >>= λ n. gives {A = MessageName} (record { ring = ring.0; number = n.0 }) n.1) >>= λ m. gives (k m.0) m.1) ≡ rest_at said ring.1
message_rest ring k said same = grind (arith, gives)

-- a message, where only its ring was read
message_of : (bytes : List ℕ) (k : MessageName → Line) (said : RingName → Said) → ((ring : RingName) (n : ℕ) → k (record { ring = ring; number = n }) ≡ lines.Entry (entry_of (said ring) n))
    → (message_at 10 bytes >>= λ m. gives (k m.0) m.1) ≡ ((ring_at 35 bytes >>= λ ring. gives (said ring.0) ring.1) >>= λ s. rest_at s.0 s.1)
unfolding message_at
message_of bytes k said same = grind (arith, gives, message_rest)

-- a step that both take
both : {A : Type 0} (r : Parsed A) (p : A × List ℕ → Parsed Line) (q : A × List ℕ → Parsed Said)
    → ((x : A × List ℕ) → p x ≡ (q x >>= λ s. rest_at s.0 s.1)) → (r >>= p) ≡ ((r >>= q) >>= λ s. rest_at s.0 s.1)
both (Ok x) p q same = same x
both (Err f) p q same = refl

sent : (bytes : List ℕ) → send_at false bytes ≡ (send_start bytes >>= λ s. rest_at s.0 s.1)
unfolding send_at send_start
sent bytes =
    both (word_at faults.Word (codes "end ") bytes) _ _ (λ w.
    both (conf_at 32 w.1) _ _ (λ x.
    both (service_at x.1) _ _ (λ service.
    both (word_at faults.Word (codes " ") service.1) _ _ (λ space.
    message_of space.1 (λ m. lines.Entry (entries.Send m x.0 service.0)) (λ (r : RingName). Send r x.0 service.0) (λ ring n. refl)))))

delivered : (bytes : List ℕ) → delivery_at false bytes ≡ (delivery_start bytes >>= λ s. rest_at s.0 s.1)
unfolding delivery_at delivery_start
delivered bytes =
    both (word_at faults.Word (codes "lv ") bytes) _ _ (λ w.
    both (conf_at 32 w.1) _ _ (λ x.
    message_of x.1 (λ m. lines.Entry (entries.Deliver m x.0)) (λ (r : RingName). Deliver r x.0) (λ ring n. refl)))

-- a line that begins with one of the two letters; any other letter begins no start
by_letter : {P : Type 0} (version : Version) (some failed : Bool) (bytes : List ℕ) → ((line_at version false some failed bytes ≡ (start_at bytes >>= λ s. rest_at s.0 s.1)) → P)
    → (start_at bytes ≡ Err faults.Word → P) → P
unfolding line_at start_at
by_letter version some failed [] same other = same refl
by_letter {P = P} version some failed (b ∷ bytes) same other = go (b == 115) refl (b == 100) refl
  where
    go : (s : Bool) → (b == 115) ≡ s → (d : Bool) → (b == 100) ≡ d → P
    go true s d e = let letter : b ≡ 115 = eqb-true b 115 s in same (rw letter (sent bytes))
    go false s true e = let letter : b ≡ 100 = eqb-true b 100 e in same (rw letter (delivered bytes))
    go false s false e = other (rw (s, e) refl)

-- after a start comes the number
line_after : (version : Version) (some failed : Bool) (bytes : List ℕ) (s : Said × List ℕ) → start_at bytes ≡ Ok s → line_at version false some failed bytes ≡ rest_at s.0 s.1
line_after version some failed bytes s e =
    by_letter version some failed bytes
    (λ same. same ∙ ap (λ (r : Parsed Said). r >>= λ t. rest_at t.0 t.1) e)
    (λ other. absurd (let h = sym other ∙ e in cc))

-- a start that is too short begins a line that is
line_short : (version : Version) (some failed : Bool) (bytes : List ℕ) → start_at bytes ≡ Err faults.Truncated → line_at version false some failed bytes ≡ Err faults.Truncated
line_short version some failed bytes e =
    by_letter version some failed bytes
    (λ same. same ∙ ap (λ (r : Parsed Said). r >>= λ t. rest_at t.0 t.1) e)
    (λ other. absurd (let h = sym other ∙ e in cc))

-- a start, a number and the end of the line are a line
pub line_settles : (version : Version) (some failed : Bool) (start number : List ℕ) (said : Said) (n : ℕ)
    → Settles start_at start said → Settles (number_at 4294967295) number (n, 10)
    → Settles (line_at version false some failed) (start ++ number) (lines.Entry (entry_of said n))
unfolding number_to
line_settles version some failed start number said n begins ends = record {
  left = λ more. ap (line_at version false some failed) (append_assoc start number more)
      ∙ line_after version some failed (start ++ (number ++ more)) (said, number ++ more) (begins.left (number ++ more))
      ∙ rw (ends.left more) refl;
  before = wants_both (line_at version false some failed) start number
      (λ front byte h. line_short version some failed front (begins.before front byte h))
      (λ front byte h. line_after version some failed (start ++ front) (said, front) (begins.left front) ∙ rw (ends.before front byte h) refl);
}

-- bytes that begin with the start, and then settle a number and the end of the line
pub hand_settles : (version : Version) (some failed : Bool) (hand start text : List ℕ) (said : Said) (n byte count : ℕ)
    → true ≡ starts_with (λ (x y : ℕ). x == y) hand text → text ≡ start → Settles start_at start said
    → Settles (number_at 4294967295) (take count (take (length hand - length text) (drop (length text) hand))) (n, byte) → byte ≡ 10
    → Settles (line_at version false some failed) (take (length text + count) hand) (lines.Entry (entry_of said n))
hand_settles version some failed hand start text said n byte count whole same begins ends line_end =
    let rest = drop (length text) hand in
    let split : hand ≡ text ++ rest = (starts_is Decides-eqb hand text true whole).0 refl in
    let all : take (length hand - length text) rest ≡ rest = ap (λ k. take k rest) (sym (length-drop (length text) hand)) ∙ take-length rest in
    let taken : take (length text + count) hand ≡ text ++ take count rest = ap (take (length text + count)) split ∙ take-append-add text rest count in
    let P : List ℕ → Type 0 = λ bytes. Settles (line_at version false some failed) bytes (lines.Entry (entry_of said n)) in
    subst P (sym taken) (line_settles version some failed text (take count rest) said n (rw same begins) (rw (line_end, all) at ends))
