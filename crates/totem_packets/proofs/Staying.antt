-- A parser's result does not change with what follows, unless there were too few bytes; and a field's fault is Short or Range.
use Rattle.totem_packets.proofs.Common.{ℕ, zero, suc, List, [], ◌++◌, Bool, true, false, cond, Ok, Err, refl, arith, Width, w8, w16, byte_len, ltb-false, le-ltb, take-append-le, drop-append-le, length-append, ◌>>=◌, Parsed}
use Rattle.totem_packets.specs.declared.fault.PacketFault.{PacketFault}
use Rattle.totem_packets.specs.declared.fault.PacketFault.TheVariants.{Range}
use Rattle.totem_packets.specs.declared.lives.Lives.{Lives}
use Rattle.totem_packets.specs.declared.lives.Lives.TheVariants.{Untold, Told}
use Rattle.totem_packets.specs.Fields.{bytes_at, number_at, above_at, up_to_at, rising_at, ring_at, payload_at, maybe_at, list_at}
use Rattle.totem_packets.specs.Grammar.{app_at, old_at, body_of, body_at, message_at, token_at, join_at, round_at, life_at, report_at, filled_at, maybe_report_at, member_at, members_at, commit_at, later_commit_at, message_packet_at, token_packet_at, join_packet_at, commit_packet_at, later_commit_packet_at}
use Rattle.totem_packets.proofs.Following.{Follows, HasFaultOf, IsOfField}

-- a parser whose result stays, and whose faults are these
pub record IsParser {Y : Type 0} (Allowed : PacketFault → Type 0) (parse : List ℕ → Parsed Y) : Type 0 where
  pub stays : (bytes more : List ℕ) → Follows more (parse bytes) (parse (bytes ++ more))
  pub fault : (bytes : List ℕ) → HasFaultOf Allowed (parse bytes)

-- a parser of at least one field
abbrev pub IsField : {Y : Type 0} → (List ℕ → Parsed Y) → Type 0
IsField parse = IsParser IsOfField parse

pub gives_field : {Y : Type 0} {Allowed : PacketFault → Type 0} (y : Y) → IsParser {Y = Y} Allowed (λ bytes. Ok (y, bytes))
gives_field y = record { stays = λ bytes more. refl; fault = λ bytes. tt }

pub fault_field : {Y : Type 0} {Allowed : PacketFault → Type 0} (fault : PacketFault) → Allowed fault → IsParser {Y = Y} Allowed (λ bytes. Err fault)
fault_field fault allowed = record { stays = λ bytes more long. refl; fault = λ bytes. allowed }

pub range_field : {Y : Type 0} → IsField {Y = Y} (λ bytes. Err Range)
range_field = fault_field Range tt

pub bind_field : {A Y : Type 0} {Allowed : PacketFault → Type 0} (sub : List ℕ → Parsed A) (k : A × List ℕ → Parsed Y) → IsParser Allowed sub → ((a : A) → IsParser Allowed (λ bytes. k (a, bytes))) → IsParser Allowed (λ bytes. sub bytes >>= k)
bind_field {A = A} {Y = Y} {Allowed = Allowed} sub k first next = record {
  stays = λ bytes more. go more (sub bytes) (sub (bytes ++ more)) (first.stays bytes more);
  fault = λ bytes. own (sub bytes) (first.fault bytes);
}
  where
    go : (more : List ℕ) (now later : Parsed A) → Follows more now later → Follows {Y = Y} more (now >>= k) (later >>= k)
    go more (Ok x) later h = rw h ((next x.0).stays x.1 more)
    go more (Err f) later h = λ long. rw (h long) refl

    own : (now : Parsed A) → HasFaultOf Allowed now → HasFaultOf {Y = Y} Allowed (now >>= k)
    own (Ok x) h = (next x.0).fault x.1
    own (Err f) h = h

pub cond_field : {Y : Type 0} {Allowed : PacketFault → Type 0} (t : Bool) (p q : List ℕ → Parsed Y) → IsParser Allowed p → IsParser Allowed q → IsParser Allowed (λ bytes. cond t (p bytes) (q bytes))
cond_field true p q hp hq = record { stays = λ bytes more. hp.stays bytes more; fault = λ bytes. hp.fault bytes }
cond_field false p q hp hq = record { stays = λ bytes more. hq.stays bytes more; fault = λ bytes. hq.fault bytes }

bytes_field : (n : ℕ) → IsField (bytes_at n)
unfolding bytes_at
bytes_field n = grind (arith, ltb-false, le-ltb, length-append, take-append-le, drop-append-le)

pub number_field : (w : Width) → IsField (number_at w)
unfolding number_at
number_field w = bind_field _ _ (bytes_field (byte_len w)) (λ front. gives_field _)

pub above_field : (w : Width) (least : ℕ) → IsField (above_at w least)
unfolding above_at
above_field w least = bind_field _ _ (number_field w) (λ n. cond_field _ _ _ (gives_field n) range_field)

pub up_to_field : (w : Width) (most : ℕ) → IsField (up_to_at w most)
unfolding up_to_at
up_to_field w most = bind_field _ _ (number_field w) (λ n. cond_field _ _ _ (gives_field n) range_field)

pub rising_field : {Y : Type 0} (one_above : ℕ → List ℕ → Parsed Y) (number_of : Y → ℕ) → ((last : ℕ) → IsField (one_above last)) → (count last : ℕ) → IsField (rising_at one_above number_of count last)
unfolding rising_at
rising_field one_above number_of one zero last = gives_field []
rising_field one_above number_of one (suc n) last = bind_field _ _ (one last) (λ first. bind_field _ _ (rising_field one_above number_of one n (number_of first)) (λ others. gives_field _))

pub ring_field : IsField ring_at
unfolding ring_at
ring_field = search (bind_field, gives_field, above_field)

list_field : (w : Width) (most : ℕ) → IsField (list_at w most)
unfolding list_at
list_field w most = bind_field _ _ (up_to_field w8 most) (λ count. rising_field (above_at w) (λ n. n) (above_field w) count 0)

-- what packets are made of
ruleset parts = (bind_field, cond_field, gives_field, range_field, bytes_field, number_field, above_field, up_to_field, ring_field, list_field)

life_field : (lives : Lives) → IsField (life_at lives)
unfolding life_at
life_field Untold = gives_field 1
life_field Told = above_field w16 0

member_field : (lives : Lives) (last : ℕ) → IsField (member_at lives last)
unfolding member_at maybe_report_at filled_at report_at
member_field lives last = search (parts, life_field) depth 40

members_field : (lives : Lives) → IsField (members_at lives)
unfolding members_at
members_field lives = search (parts, rising_field (member_at lives) (λ m. m.proc) (member_field lives)) depth 40

commit_field : (lives : Lives) → IsField (commit_at lives)
unfolding commit_at round_at
commit_field lives = search (parts, members_field) depth 40

-- ---- what the kinds of packets read

pub message_packet_field : IsField message_packet_at
unfolding message_packet_at message_at body_at body_of app_at old_at payload_at
message_packet_field = search parts depth 40

pub token_packet_field : IsField token_packet_at
unfolding token_packet_at token_at maybe_at
token_packet_field = search parts depth 40

pub join_packet_field : IsField join_packet_at
unfolding join_packet_at join_at
join_packet_field = search parts depth 40

pub commit_packet_field : IsField commit_packet_at
unfolding commit_packet_at
commit_packet_field = search (parts, commit_field) depth 40

-- a test after a parser is made as soon as the last field is read, and what follows does not change it
pub later_commit_packet_field : IsField later_commit_packet_at
unfolding later_commit_packet_at later_commit_at
later_commit_packet_field = search (parts, commit_field) depth 40
