-- The laws of the bytes of packets.
use Rattle.totem_packets.proofs.Common.{◌==◌, ◌⊎◌, IfOk, ◌≡◌, ◌≢◌, ℕ, ◌<◌, ◌↔◌, List, [], ◌∷◌, ◌++◌, length, false, cond, Result, Ok, Err, refl, sym, ap, subst, ◌∙◌, append_assoc, arith, w8, eqb-true, eqb-false, ne_eqb, append-nil, nil_from_length, length-append, ◌>>=◌, Parsed, AreBytes, Gives, IsOfNoKind, HasMore, IsFirstWrong, IsPacket, bind_ok, taken, guard_then, parsed_is}
use Rattle.std.proofs.lemmas.Bool.Decides.{nat_tests}
use Rattle.totem_packets.specs.declared.fault.PacketFault.{PacketFault}
use Rattle.totem_packets.specs.declared.fault.PacketFault.TheVariants.{Short, Kind, Range, Trailing, Memory}
use Rattle.totem_packets.specs.declared.packet.Packet as packet
use Rattle.totem_packets.specs.Grammar.{packet_of, packet_at, decode_packet}
use Rattle.totem_packets.specs.Spelling.{packet_bytes}
use Rattle.totem_packets.proofs.FirstByte.{kind_at, none_at}
use Rattle.totem_packets.proofs.Following.{Follows}
use Rattle.totem_packets.proofs.Staying.{IsParser, IsField, bind_field, cond_field, fault_field, number_field, message_packet_field, token_packet_field, join_packet_field, commit_packet_field, later_commit_packet_field}
use Rattle.totem_packets.proofs.TakenPackets.{packet_taking, packet_again}

-- ---- from a packet with what is left to a packet alone

-- the fault of the packet is the fault of the whole
whole_fault : (bytes : List ℕ) (f : PacketFault) → packet_at bytes ≡ Err f → decode_packet bytes ≡ Err f
unfolding decode_packet
whole_fault bytes f e = rw e refl

whole_more : (bytes : List ℕ) (p : packet.Packet) (b : ℕ) (rest : List ℕ) → packet_at bytes ≡ Ok (p, b ∷ rest) → decode_packet bytes ≡ Err Trailing
unfolding decode_packet
whole_more bytes p b rest e = let test : (length (b ∷ rest) == 0) ≡ false = ne_eqb _ _ (λ h. omega (arith, h)) in rw (e, test) refl

-- a fault of the whole is the packet's, or Trailing
data WhichFault (bytes : List ℕ) (f : PacketFault) : Type 0 where
  of_packet : packet_at bytes ≡ Err f → WhichFault bytes f
  of_rest : (p : packet.Packet) (b : ℕ) (rest : List ℕ) → packet_at bytes ≡ Ok (p, b ∷ rest) → f ≡ Trailing → WhichFault bytes f

which_fault : (bytes : List ℕ) (f : PacketFault) → decode_packet bytes ≡ Err f → WhichFault bytes f
unfolding decode_packet
which_fault bytes f e = go (packet_at bytes) refl e
  where
    go : (r : Parsed packet.Packet) → packet_at bytes ≡ r → (r >>= λ x. cond (length x.1 == 0) (Ok x.0) (Err Trailing)) ≡ Err f → WhichFault bytes f
    go (Ok (p, [])) is h = absurd cc
    go (Ok (p, b ∷ rest)) is h =
        let test : (length (b ∷ rest) == 0) ≡ false = ne_eqb _ _ (λ k. omega (arith, k)) in
        let fault : ◌≡◌ {A = Result packet.Packet PacketFault} (Err Trailing) (Err f) = rw test at h in
        of_rest p b rest is (let same : f ≡ Trailing = cc in same)
    go (Err g) is h = of_packet (is ∙ (let same : ◌≡◌ {A = PacketFault} g f = cc in ap (λ (k : PacketFault). Err k) same))

whole_read : (bytes : List ℕ) (p : packet.Packet) → decode_packet bytes ≡ Ok p → packet_at bytes ≡ Ok (p, [])
unfolding decode_packet
whole_read bytes p e = grind (arith, bind_ok, guard_then, nil_from_length, eqb-true)

-- ---- what is read is spelled, and what is spelled is read

pub read_spelled : (bytes : List ℕ) (p : packet.Packet) → AreBytes bytes → decode_packet bytes ≡ Ok p → IsPacket p × (bytes ≡ packet_bytes p)
read_spelled bytes p fits e =
    let f = packet_taking.takes bytes p [] fits (whole_read bytes p e) in
    (f.holds.1, f.parts ∙ append-nil f.text ∙ f.holds.0)

alone : (p : packet.Packet) → IsPacket p → packet_at (packet_bytes p) ≡ Ok (p, [])
alone p fits = ap packet_at (sym (append-nil (packet_bytes p))) ∙ packet_again p [] fits

pub spelled_read : (p : packet.Packet) → IsPacket p → decode_packet (packet_bytes p) ≡ Ok p
unfolding decode_packet
spelled_read p fits = rw (alone p fits) refl

pub begins_no_other : (a b : packet.Packet) (more rest : List ℕ) → IsPacket a → IsPacket b → packet_bytes a ++ more ≡ packet_bytes b ++ rest → (a ≡ b) × (more ≡ rest)
begins_no_other a b more rest fits others e = parsed_is a b more rest (sym (packet_again a more fits) ∙ ap packet_at e ∙ packet_again b rest others)

-- ---- what follows

abbrev IsOfPacket : PacketFault → Type 0
IsOfPacket Short = Unit {0}
IsOfPacket Kind = Unit {0}
IsOfPacket Range = Unit {0}
IsOfPacket Trailing = ⊥
IsOfPacket Memory = ⊥

-- a field's faults are a packet's
widen : {Y : Type 0} (parse : List ℕ → Parsed Y) → IsField parse → IsParser IsOfPacket parse
widen parse field = record { stays = field.stays; fault = λ bytes. grind (arith, field.fault bytes) }

packet_parser : IsParser IsOfPacket packet_at
unfolding packet_at packet_of
packet_parser = bind_field _ _ (widen _ (number_field w8)) (λ kind.
    cond_field _ _ _ (widen _ message_packet_field) (cond_field _ _ _ (widen _ token_packet_field) (cond_field _ _ _ (widen _ join_packet_field)
    (cond_field _ _ _ (widen _ commit_packet_field) (cond_field _ _ _ (widen _ later_commit_packet_field) (fault_field Kind tt))))))

-- what is read of the front of these bytes
data WhichFront (front more : List ℕ) : Type 0 where
  whole : (p : packet.Packet) (rest : List ℕ) → packet_at (front ++ more) ≡ Ok (p, rest ++ more) → WhichFront front more
  short : packet_at front ≡ Err Short → WhichFront front more
  wrong : (f : PacketFault) → packet_at front ≡ Err f → packet_at (front ++ more) ≡ Err f → WhichFront front more

which_front : (front more : List ℕ) → WhichFront front more
which_front front more = go (packet_at front) refl (packet_parser.stays front more)
  where
    go : (r : Parsed packet.Packet) → packet_at front ≡ r → Follows more r (packet_at (front ++ more)) → WhichFront front more
    go (Ok x) is later = whole x.0 x.1 later
    go (Err Short) is later = short is
    go (Err Kind) is later = wrong Kind is (later refl)
    go (Err Range) is later = wrong Range is (later refl)
    go (Err Trailing) is later = wrong Trailing is (later refl)
    go (Err Memory) is later = wrong Memory is (later refl)

-- before the end of a packet, or of what is Short, there is only Short
short_front : (front : List ℕ) (b : ℕ) (rest : List ℕ) (p : packet.Packet) → packet_at (front ++ b ∷ rest) ≡ Ok (p, []) → packet_at front ≡ Err Short
short_front front b rest p e = elim (which_front front (b ∷ rest)) [
  | whole q left later ↦ let same = parsed_is q p (left ++ b ∷ rest) [] (sym later ∙ e) in absurd (omega (arith, length-append left (b ∷ rest), ap length same.1))
  | short is ↦ is
  | wrong f is later ↦ absurd (let k = sym later ∙ e in cc)
]

pub cut_is_short : (p : packet.Packet) (front : List ℕ) (b : ℕ) (rest : List ℕ) → IsPacket p → packet_bytes p ≡ front ++ b ∷ rest → decode_packet front ≡ Err Short
cut_is_short p front b rest fits e = whole_fault front Short (short_front front b rest p (ap packet_at (sym e) ∙ alone p fits))

packet_short : (bytes : List ℕ) → decode_packet bytes ≡ Err Short → packet_at bytes ≡ Err Short
packet_short bytes e = elim (which_fault bytes Short e) [ of_packet h ↦ h | of_rest p b rest h k ↦ absurd cc ]

pub short_before : (front rest : List ℕ) → decode_packet (front ++ rest) ≡ Err Short → decode_packet front ≡ Err Short
short_before front rest e =
    let long : packet_at (front ++ rest) ≡ Err Short = packet_short (front ++ rest) e in
    whole_fault front Short (elim (which_front front rest) [
      | whole p left later ↦ absurd (let k = sym later ∙ long in cc)
      | short is ↦ is
      | wrong f is later ↦ let same : ◌≡◌ {A = Parsed packet.Packet} (Err f) (Err Short) = sym later ∙ long in is ∙ same
    ])

-- ---- Kind

packet_kind : (b : ℕ) (rest : List ℕ) → packet_at (b ∷ rest) ≡ packet_of b rest
unfolding packet_at
packet_kind b rest = rw (kind_at b rest) refl

packet_none : packet_at [] ≡ Err Short
unfolding packet_at
packet_none = rw none_at refl

-- a field's fault is not Kind, so Kind comes from another kind's parser
past : (n kind : ℕ) (parse : List ℕ → Parsed packet.Packet) (other : Parsed packet.Packet) → IsField parse → (rest : List ℕ) → cond (kind == n) (parse rest) other ≡ Err Kind → (kind ≢ n) × (other ≡ Err Kind)
past n kind parse other field rest e = grind (arith, taken, eqb-false)

kind_of : (kind : ℕ) (rest : List ℕ) → packet_of kind rest ≡ Err Kind → (kind ≡ 0) ⊎ (5 < kind)
unfolding packet_of
kind_of kind rest e = grind (arith, past, message_packet_field, token_packet_field, join_packet_field, commit_packet_field, later_commit_packet_field)

kind_from : (kind : ℕ) (rest : List ℕ) → (kind ≡ 0) ⊎ (5 < kind) → packet_of kind rest ≡ Err Kind
unfolding packet_of
kind_from kind rest other = grind (arith, nat_tests)

pub kind_is_first : (bytes : List ℕ) → (decode_packet bytes ≡ Err Kind) ↔ IsOfNoKind bytes
kind_is_first bytes = (λ e. there bytes e, λ h. back bytes h)
  where
    there : (bytes : List ℕ) → decode_packet bytes ≡ Err Kind → IsOfNoKind bytes
    there [] e = elim (which_fault [] Kind e) [ of_packet h ↦ absurd (let k = sym packet_none ∙ h in cc) | of_rest p b rest h k ↦ absurd cc ]
    there (kind ∷ rest) e = elim (which_fault (kind ∷ rest) Kind e) [ of_packet h ↦ kind_of kind rest (sym (packet_kind kind rest) ∙ h) | of_rest p b left h k ↦ absurd cc ]

    back : (bytes : List ℕ) → IsOfNoKind bytes → decode_packet bytes ≡ Err Kind
    back [] h = absurd h
    back (kind ∷ rest) h = whole_fault (kind ∷ rest) Kind (packet_kind kind rest ∙ kind_from kind rest h)

-- ---- the faults of a packet

pub never_memory : (bytes : List ℕ) → decode_packet bytes ≢ Err Memory
never_memory bytes e = elim (which_fault bytes Memory e) [ of_packet h ↦ rw h at (packet_parser.fault bytes) | of_rest p b rest h k ↦ absurd cc ]

pub trailing_is_last : (bytes : List ℕ) → AreBytes bytes → (decode_packet bytes ≡ Err Trailing) ↔ HasMore bytes
trailing_is_last bytes fits = (λ e. there e, λ h. back h)
  where
    there : decode_packet bytes ≡ Err Trailing → HasMore bytes
    there e = elim (which_fault bytes Trailing e) [
      | of_packet h ↦ absurd (rw h at (packet_parser.fault bytes))
      | of_rest p b rest h k ↦ let f = packet_taking.takes bytes p (b ∷ rest) fits h in record { packet = p; byte = b; rest = rest; fits = f.holds.1; whole = rw f.holds.0 at f.parts }
    ]

    back : HasMore bytes → decode_packet bytes ≡ Err Trailing
    back h = whole_more bytes h.packet h.byte h.rest (ap packet_at h.whole ∙ packet_again h.packet (h.byte ∷ h.rest) h.fits)

-- ---- Range

-- the byte at which the packet's fault becomes Range
record FirstRange (bytes : List ℕ) : Type 0 where
  front : List ℕ
  byte : ℕ
  rest : List ℕ
  whole : bytes ≡ front ++ byte ∷ rest
  before : packet_at front ≡ Err Short
  at : packet_at (front ++ byte ∷ []) ≡ Err Range

first_from : (front bytes : List ℕ) → packet_at front ≡ Err Short → packet_at (front ++ bytes) ≡ Err Range → FirstRange (front ++ bytes)
first_from front [] before e = absurd (let k = sym before ∙ ap packet_at (sym (append-nil front)) ∙ e in cc)
first_from front (b ∷ bytes) before e =
    let regrouped : (front ++ b ∷ []) ++ bytes ≡ front ++ b ∷ bytes = append_assoc front (b ∷ []) bytes in
    let all : packet_at ((front ++ b ∷ []) ++ bytes) ≡ Err Range = ap packet_at regrouped ∙ e in
    elim (which_front (front ++ b ∷ []) bytes) [
      | whole p left later ↦ absurd (let k = sym later ∙ all in cc)
      | short is ↦ subst FirstRange regrouped (first_from (front ++ b ∷ []) bytes is all)
      | wrong f is later ↦
          let same : ◌≡◌ {A = Parsed packet.Packet} (Err f) (Err Range) = sym later ∙ all in
          record { front = front; byte = b; rest = bytes; whole = refl; before = before; at = is ∙ same }
    ]

pub range_is_first : (bytes : List ℕ) → decode_packet bytes ≡ Err Range → IsFirstWrong bytes
range_is_first bytes e = elim (which_fault bytes Range e) [
  | of_rest p b rest h k ↦ absurd cc
  | of_packet h ↦
      let f = first_from [] bytes packet_none h in
      record {
        front = f.front;
        byte = f.byte;
        rest = f.rest;
        whole = f.whole;
        before = whole_fault f.front Short f.before;
        wrong = λ more.
            let regrouped : (f.front ++ f.byte ∷ []) ++ more ≡ f.front ++ f.byte ∷ more = append_assoc f.front (f.byte ∷ []) more in
            let later : packet_at ((f.front ++ f.byte ∷ []) ++ more) ≡ Err Range = (let k = packet_parser.stays (f.front ++ f.byte ∷ []) more in (rw f.at at k) refl) in
            whole_fault (f.front ++ f.byte ∷ more) Range (ap packet_at (sym regrouped) ∙ later);
      }
]

-- ---- what decoding returns

pub found : (bytes : List ℕ) (r : Result packet.Packet PacketFault) → AreBytes bytes → Gives r (decode_packet bytes) → IfOk r (λ p. IsPacket p × (bytes ≡ packet_bytes p))
found bytes (Ok p) fits given = read_spelled bytes p fits given
found bytes (Err f) fits given = tt
