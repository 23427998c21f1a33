-- Entries and steps that are written one after the other.
use Rattle.totem_core.proofs.Common.{◌≡◌, ℕ, suc, refl, ◌+◌, ◌<◌, ◌≤◌, List, [], ◌∷◌, ◌++◌, length, take, get_or, Bool, true, false, nat_le, nat_lt, filter, Option, None, Some, sym, ap, ◌∙◌, append_assoc, arith, unwrap_or, cons_option, cond-true, cond-false, nat_tests, take_more, length-take-le, append-nil, filter_map-append, filter-append, RingName, ConfId, Regular, Body, Message, Entry, Ring, numbered, given, Leaving, last_mark, delivery, deliveries, finish, send_of, send, sends, finishing_entries}
use Rattle.totem_ring.proofs.Missing.{numbered_push}

-- one more delivery
pub one_delivered : (x : ConfId) (before now items : List Entry) (ms : List Message) (i : ℕ) (m : Message)
    → now ≡ before ++ deliveries x (take i ms) → i < length ms → m ≡ get_or ms i m → items ≡ now ++ deliveries x (m ∷ [])
    → items ≡ before ++ deliveries x (take (i + 1) ms)
one_delivered x before now items ms i m far lt at put =
    put
    ∙ ap (λ es. es ++ deliveries x (m ∷ [])) far
    ∙ append_assoc before (deliveries x (take i ms)) (deliveries x (m ∷ []))
    ∙ ap (λ es. before ++ es) (sym (filter_map-append (delivery x) (take i ms) (m ∷ []))
    ∙ ap (deliveries x) (ap (λ k. take i ms ++ k ∷ []) at ∙ sym (take_more ms i m lt)))

numbered_more : (s : Ring) (seq i : ℕ) (bodies : List Body) (body : Body) → i < length bodies → body ≡ get_or bodies i body
    → numbered s seq (take (i + 1) bodies) ≡ numbered s seq (take i bodies) ++ record { ring = s.ring; number = (seq + i) + 1; sender = s.me; body = body } ∷ []
numbered_more s seq i bodies body lt at =
    let count : length (take i bodies) ≡ i = length-take-le i bodies (omega (arith, lt)) in
    ap (numbered s seq) (take_more bodies i body lt ∙ ap (λ b. take i bodies ++ b ∷ []) (sym at))
    ∙ numbered_push s seq (take i bodies) body
    ∙ ap (λ n. numbered s seq (take i bodies) ++ record { ring = s.ring; number = (seq + n) + 1; sender = s.me; body = body } ∷ []) count

-- one more send, if the body has one
one_sent : (s : Ring) (seq i number : ℕ) (bodies : List Body) (body : Body) (before entries : List Entry)
    → entries ≡ before ++ sends (Regular s.ring) (numbered s seq (take i bodies)) → number ≡ seq + i → i < length bodies → body ≡ get_or bodies i body
    → entries ++ cons_option (send_of (Regular s.ring) s.ring (number + 1) body) [] ≡ before ++ sends (Regular s.ring) (numbered s seq (take (i + 1) bodies))
one_sent s seq i number bodies body before entries far count lt at =
    let more : Message = record { ring = s.ring; number = (seq + i) + 1; sender = s.me; body = body } in
    let sent : List Entry = sends (Regular s.ring) (numbered s seq (take i bodies)) in
    ap (λ n. entries ++ cons_option (send_of (Regular s.ring) s.ring (n + 1) body) []) count
    ∙ ap (λ es. es ++ sends (Regular s.ring) (more ∷ [])) far
    ∙ append_assoc before sent (sends (Regular s.ring) (more ∷ []))
    ∙ ap (λ es. before ++ es) (sym (filter_map-append (send (Regular s.ring)) (numbered s seq (take i bodies)) (more ∷ []))
    ∙ ap (sends (Regular s.ring)) (sym (numbered_more s seq i bodies body lt at)))

pub some_sent : (s : Ring) (seq i number : ℕ) (bodies : List Body) (body : Body) (before entries items : List Entry) (ring : RingName) (sent : Option Entry) (e : Entry)
    → entries ≡ before ++ sends (Regular s.ring) (numbered s seq (take i bodies)) → number ≡ seq + i → i < length bodies → body ≡ get_or bodies i body
    → ring ≡ s.ring → sent ≡ send_of (Regular ring) ring (number + 1) body → sent ≡ Some e → items ≡ entries ++ e ∷ []
    → items ≡ before ++ sends (Regular s.ring) (numbered s seq (take (i + 1) bodies))
some_sent s seq i number bodies body before entries items ring sent e far count lt at on gives is put =
    let shown : send_of (Regular s.ring) s.ring (number + 1) body ≡ Some e = sym (gives ∙ ap (λ r. send_of (Regular r) r (number + 1) body) on) ∙ is in
    put ∙ sym (ap (λ o. entries ++ cons_option o []) shown) ∙ one_sent s seq i number bodies body before entries far count lt at

pub none_sent : (s : Ring) (seq i number : ℕ) (bodies : List Body) (body : Body) (before entries : List Entry) (ring : RingName) (sent : Option Entry)
    → entries ≡ before ++ sends (Regular s.ring) (numbered s seq (take i bodies)) → number ≡ seq + i → i < length bodies → body ≡ get_or bodies i body
    → ring ≡ s.ring → sent ≡ send_of (Regular ring) ring (number + 1) body → sent ≡ None
    → entries ≡ before ++ sends (Regular s.ring) (numbered s seq (take (i + 1) bodies))
none_sent s seq i number bodies body before entries ring sent far count lt at on gives is =
    let shown : send_of (Regular s.ring) s.ring (number + 1) body ≡ None = sym (gives ∙ ap (λ r. send_of (Regular r) r (number + 1) body) on) ∙ is in
    sym (append-nil entries) ∙ sym (ap (λ o. entries ++ cons_option o []) shown) ∙ one_sent s seq i number bodies body before entries far count lt at

numbered_given : (s : Ring) (more : List Body) (seq : ℕ) (bodies : List Body) → numbered (given s more) seq bodies ≡ numbered s seq bodies
numbered_given s more seq [] = refl
numbered_given s more seq (b ∷ bs) = ap (λ ms. record { ring = s.ring; number = seq + 1; sender = s.me; body = b } ∷ ms) (numbered_given s more (seq + 1) bs)

numbered_all : (s : Ring) (seq : ℕ) (front behind : List Body) → numbered s seq (front ++ behind) ≡ numbered s seq front ++ numbered s (seq + length front) behind
numbered_all s seq [] behind =
    let none : seq ≡ seq + 0 = omega arith in
    ap (λ n. numbered s n behind) none
numbered_all s seq (b ∷ bs) behind =
    let same : (seq + 1) + length bs ≡ seq + suc (length bs) = omega arith in
    ap (λ ms. record { ring = s.ring; number = seq + 1; sender = s.me; body = b } ∷ ms) (numbered_all s (seq + 1) bs behind
    ∙ ap (λ (n : ℕ). numbered s (seq + 1) bs ++ numbered s n behind) same)

-- what waited is sent, and then what was given
pub all_sent : (s : Ring) (bodies waiting : List Body) (seq from : ℕ) (none front whole : List Entry)
    → none ≡ [] → waiting ≡ s.waiting → from ≡ seq + length s.waiting
    → front ≡ none ++ sends (Regular s.ring) (numbered s seq waiting) → whole ≡ front ++ sends (Regular s.ring) (numbered s from bodies)
    → whole ≡ sends (Regular s.ring) (numbered (given s bodies) seq (s.waiting ++ bodies))
all_sent s bodies waiting seq from none front whole none_is waiting_is from_is front_is whole_is =
    let first : List Message = numbered s seq s.waiting in
    whole_is
    ∙ ap (λ es. es ++ sends (Regular s.ring) (numbered s from bodies)) (front_is ∙ ap (λ es. es ++ sends (Regular s.ring) (numbered s seq waiting)) none_is ∙ ap (λ w. sends (Regular s.ring) (numbered s seq w)) waiting_is)
    ∙ ap (λ n. sends (Regular s.ring) first ++ sends (Regular s.ring) (numbered s n bodies)) from_is
    ∙ sym (filter_map-append (send (Regular s.ring)) first (numbered s (seq + length s.waiting) bodies))
    ∙ ap (sends (Regular s.ring)) (sym (numbered_given s bodies seq (s.waiting ++ bodies) ∙ numbered_all s seq s.waiting bodies))

-- ---- chosen messages

chosen_from : (test : Message → Bool) (ms : List Message) (i : ℕ) (m : Message) → i < length ms → m ≡ get_or ms i m
    → filter test (take (i + 1) ms) ≡ filter test (take i ms) ++ filter test (m ∷ [])
chosen_from test ms i m lt at =
    ap (filter test) (take_more ms i m lt ∙ ap (λ k. take i ms ++ k ∷ []) (sym at)) ∙ filter-append test (take i ms) (m ∷ [])

-- the deliveries of chosen messages, and one more
chosen_with : (x : ConfId) (test : Message → Bool) (before : List Entry) (ms : List Message) (i : ℕ) (m : Message) (now : List Entry)
    → now ≡ before ++ deliveries x (filter test (take i ms)) → i < length ms → m ≡ get_or ms i m
    → now ++ deliveries x (filter test (m ∷ [])) ≡ before ++ deliveries x (filter test (take (i + 1) ms))
chosen_with x test before ms i m now far lt at =
    ap (λ es. es ++ deliveries x (filter test (m ∷ []))) far
    ∙ append_assoc before (deliveries x (filter test (take i ms))) (deliveries x (filter test (m ∷ [])))
    ∙ ap (λ es. before ++ es) (sym (filter_map-append (delivery x) (filter test (take i ms)) (filter test (m ∷ []))) ∙ ap (deliveries x) (sym (chosen_from test ms i m lt at)))

pub one_chosen : (x : ConfId) (test : Message → Bool) (before now items : List Entry) (ms : List Message) (i : ℕ) (m : Message)
    → now ≡ before ++ deliveries x (filter test (take i ms)) → i < length ms → m ≡ get_or ms i m → test m ≡ true → items ≡ now ++ deliveries x (m ∷ [])
    → items ≡ before ++ deliveries x (filter test (take (i + 1) ms))
one_chosen x test before now items ms i m far lt at passes put =
    put ∙ sym (ap (λ ps. now ++ deliveries x ps) (cond-true (test m) (m ∷ []) [] passes)) ∙ chosen_with x test before ms i m now far lt at

pub none_chosen : (x : ConfId) (test : Message → Bool) (before now : List Entry) (ms : List Message) (i : ℕ) (m : Message)
    → now ≡ before ++ deliveries x (filter test (take i ms)) → i < length ms → m ≡ get_or ms i m → test m ≡ false
    → now ≡ before ++ deliveries x (filter test (take (i + 1) ms))
none_chosen x test before now ms i m far lt at fails =
    sym (append-nil now) ∙ sym (ap (λ ps. now ++ deliveries x ps) (cond-false (test m) (m ∷ []) [] fails)) ∙ chosen_with x test before ms i m now far lt at

pub is_up_to : (number n last : ℕ) → n ≡ number → n ≤ last → nat_le number last ≡ true
is_up_to number n last is le = grind (arith, nat_tests)

pub not_up_to : (number n last : ℕ) → n ≡ number → last < n → nat_le number last ≡ false
not_up_to number n last is lt = grind (arith, nat_tests)

pub is_above_last : (number n last : ℕ) → n ≡ number → last < n → nat_lt last number ≡ true
is_above_last number n last is lt = grind (arith, nat_tests)

pub not_above_last : (number n last : ℕ) → n ≡ number → n ≤ last → nat_lt last number ≡ false
not_above_last number n last is le = grind (arith, nat_tests)

-- ---- the finish

abbrev finishing_at : Leaving → Ring → List Message → ℕ → RingName → List Entry
finishing_at r old handed last ring =
    deliveries (Regular ring) (filter (λ m. nat_le m.number last) handed) ++ finish r old ++ deliveries (Regular ring) (filter (λ m. nat_lt last m.number) handed)

pub finishing : (r : Leaving) (old ring : Ring) (handed : List Message) (last : ℕ) (name : RingName) (none front middle whole finished : List Entry)
    → last ≡ unwrap_or (last_mark r ring) 0 → name ≡ ring.ring → none ≡ []
    → front ≡ none ++ deliveries (Regular name) (filter (λ m. nat_le m.number last) handed) → finished ≡ finish r old → middle ≡ front ++ finished
    → whole ≡ middle ++ deliveries (Regular name) (filter (λ m. nat_lt last m.number) handed)
    → whole ≡ finishing_entries r old ring handed
finishing r old ring handed last name none front middle whole finished last_is name_is none_is front_is finished_is middle_is whole_is =
    let before : List Entry = deliveries (Regular name) (filter (λ m. nat_le m.number last) handed) in
    let behind : List Entry = deliveries (Regular name) (filter (λ m. nat_lt last m.number) handed) in
    whole_is ∙ ap (λ es. es ++ behind) (middle_is ∙ ap (λ es. es ++ finished) (front_is ∙ ap (λ es. es ++ before) none_is) ∙ ap (λ es. before ++ es) finished_is)
    ∙ ap (λ k. finishing_at r old handed k name) last_is ∙ ap (λ n. finishing_at r old handed (unwrap_or (last_mark r ring) 0) n) name_is
