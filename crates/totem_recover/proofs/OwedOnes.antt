-- What a process in O sent is delivered.
use Rattle.totem_recover.proofs.Common.{◌≡◌, ℕ, ◌+◌, ◌==◌, ◌<◌, ◌≤◌, ◌&&◌, ◌⊎◌, inl, inr, List, [], ◌∷◌, ◌++◌, length, filter, Bool, true, false, Some, IsTrue, nat_lt, refl, sym, ◌∙◌, ap, subst, append_assoc, arith, ⊎_elim, fold, nat_tests, filter_map-append, ConfId, Regular, transitional_set, reports_from, has, with_process, union, Entry, Ring, Held, message_at, going_up, may_go_up, Leaving, IsReady, new_recovery, held_above, delivery, deliveries, owed_of, rest_from, between_rings, finish}
use Rattle.std.proofs.lemmas.Bool.{cases_eq, cases_lt, cases_Bool, lt-leb, lt-ltb, eq-eqb, eqb-true, and_parts, or_cases, or_left, or_right, cases_order, cond-true, cond-false}
use Rattle.std.proofs.lemmas.List.Folds.{list_any-append}
use Rattle.totem_packets.specs.declared.commit.CommitToken.{CommitToken}
use Rattle.totem_packets.specs.declared.commit_member.Report.{Report}
use Rattle.totem_packets.specs.declared.message.Message as message
use Rattle.totem_evs.specs.declared.entry.Entry.TheVariants.{Conf}
use Rattle.totem_ring.proofs.Rising.{at_same, at_other}
use Rattle.totem_recover.specs.Owed.{Delivers}

-- the message is in the list
record Stands (m : message.Message) (ms : List message.Message) : Type 0 where
  front : List message.Message
  back : List message.Message
  all : ms ≡ front ++ m ∷ back

stands_first : (x m : message.Message) (ms : List message.Message) → x ≡ m → Stands m (x ∷ ms)
stands_first x m ms same = record { front = []; back = ms; all = ap (λ y. y ∷ ms) same }

stands_later : (x m : message.Message) (ms : List message.Message) → Stands m ms → Stands m (x ∷ ms)
stands_later x m ms in_rest = record { front = x ∷ in_rest.front; back = in_rest.back; all = ap (λ ys. x ∷ ys) in_rest.all }

stands_in : (m : message.Message) (xs ys : List message.Message) → xs ≡ ys → Stands m ys → Stands m xs
stands_in m xs ys same there = record { front = there.front; back = there.back; all = same ∙ there.all }

-- the message held under the number of the first one is the first one
is_first : (n : ℕ) (m : message.Message) (e : ℕ × message.Message) (es : Held) → n ≡ e.0 → message_at (e ∷ es) n ≡ Some m → e.1 ≡ m
is_first n m e es same at = let first = at_same e es n same in cc

is_behind : (n : ℕ) (m : message.Message) (e : ℕ × message.Message) (es : Held) → (n ≡ e.0 → ⊥) → message_at (e ∷ es) n ≡ Some m → message_at es n ≡ Some m
is_behind n m e es other at = sym (at_other e es n other) ∙ at

-- ---- the rest

in_owed : (obliged : List ℕ) (n : ℕ) (m : message.Message) (es : Held) → message_at es n ≡ Some m → has obliged m.sender ≡ true → Stands m (owed_of obliged es)
in_owed obliged n m [] at owed = absurd cc
in_owed obliged n m (e ∷ es) at owed =
    ⊎_elim
    (λ same.
    let first = is_first n m e es same at in
    let pass : has obliged e.1.sender ≡ true = ap (λ (x : message.Message). has obliged x.sender) first ∙ owed in
    rw pass (stands_first e.1 m (owed_of obliged es) first))
    (λ other.
    let later = in_owed obliged n m es (is_behind n m e es other at) owed in
    ⊎_elim (λ (pass : has obliged e.1.sender ≡ true). rw pass (stands_later e.1 m (owed_of obliged es) later)) (λ (no' : has obliged e.1.sender ≡ false). rw no' later) (cases_Bool (has obliged e.1.sender)))
    (cases_eq n e.0)

in_rest : (obliged : List ℕ) (last n : ℕ) (m : message.Message) (es : Held) → message_at es n ≡ Some m → has obliged m.sender ≡ true → Stands m (rest_from obliged last es)
in_rest obliged last n m [] at owed = absurd cc
in_rest obliged last n m (e ∷ es) at owed =
    ⊎_elim
    (λ (next : (e.0 == last + 1) ≡ true). rw next (⊎_elim
    (λ same. stands_first e.1 m (rest_from obliged (last + 1) es) (is_first n m e es same at))
    (λ other. stands_later e.1 m (rest_from obliged (last + 1) es) (in_rest obliged (last + 1) n m es (is_behind n m e es other at) owed))
    (cases_eq n e.0)))
    (λ (gap : (e.0 == last + 1) ≡ false). rw gap (in_owed obliged n m (e ∷ es) at owed))
    (cases_Bool (e.0 == last + 1))

at_above : (last n : ℕ) (m : message.Message) (es : Held) → message_at es n ≡ Some m → last < n → message_at (held_above last es) n ≡ Some m
at_above last n m [] at above = at
at_above last n m (e ∷ es) at above =
    ⊎_elim
    (λ same. rw (lt-ltb last e.0 (omega arith)) (at_same e (held_above last es) n same ∙ ap Some (is_first n m e es same at)))
    (λ other.
    let later = at_above last n m es (is_behind n m e es other at) above in
    ⊎_elim (λ (pass : nat_lt last e.0 ≡ true). rw pass (at_other e (held_above last es) n other ∙ later)) (λ (no' : nat_lt last e.0 ≡ false). rw no' later) (cases_Bool (nat_lt last e.0)))
    (cases_eq n e.0)

-- ---- the regular part

up_past : (handed high : ℕ) (e : ℕ × message.Message) (es : Held) → e.0 ≤ handed → going_up handed high (e ∷ es) ≡ going_up handed high es
up_past handed high e es past = grind (arith, nat_tests)

up_next : (handed high : ℕ) (e : ℕ × message.Message) (es : Held) → handed < e.0 → ((e.0 == handed + 1) && may_go_up high e) ≡ true → going_up handed high (e ∷ es) ≡ e.1 ∷ going_up (handed + 1) high es
up_next handed high e es above pass =
    rw (lt-leb e.0 handed above) (cond-true ((e.0 == handed + 1) && may_go_up high e) (e.1 ∷ going_up (handed + 1) high es) [] pass)

up_ends : (handed high : ℕ) (e : ℕ × message.Message) (es : Held) → handed < e.0 → ((e.0 == handed + 1) && may_go_up high e) ≡ false → going_up handed high (e ∷ es) ≡ []
up_ends handed high e es above no' =
    rw (lt-leb e.0 handed above) (cond-false ((e.0 == handed + 1) && may_go_up high e) (e.1 ∷ going_up (handed + 1) high es) [] no')

-- the message is among those to deliver, or these end before it
abbrev GoesOrNot : ℕ → ℕ → ℕ → message.Message → Held → Type 0
GoesOrNot handed high n m es = Stands m (going_up handed high es) ⊎ (handed + length (going_up handed high es) < n)

goes_along : (handed high n : ℕ) (m : message.Message) (es fs : Held) → going_up handed high es ≡ going_up handed high fs → GoesOrNot handed high n m fs → GoesOrNot handed high n m es
goes_along handed high n m es fs same (inl stands) = inl (stands_in m (going_up handed high es) (going_up handed high fs) same stands)
goes_along handed high n m es fs same (inr past) = inr (omega (arith, ap (λ (ms : List message.Message). length ms) same))

goes_behind : (handed high n : ℕ) (m : message.Message) (e : ℕ × message.Message) (es : Held) → going_up handed high (e ∷ es) ≡ e.1 ∷ going_up (handed + 1) high es → GoesOrNot (handed + 1) high n m es → GoesOrNot handed high n m (e ∷ es)
goes_behind handed high n m e es same (inl stands) = inl (stands_in m (going_up handed high (e ∷ es)) (e.1 ∷ going_up (handed + 1) high es) same (stands_later e.1 m (going_up (handed + 1) high es) stands))
goes_behind handed high n m e es same (inr past) = inr (omega (arith, ap (λ (ms : List message.Message). length ms) same))

in_regular : (handed high n : ℕ) (m : message.Message) (es : Held) → message_at es n ≡ Some m → handed < n → GoesOrNot handed high n m es
in_regular handed high n m [] at above = absurd cc
in_regular handed high n m (e ∷ es) at above =
    ⊎_elim
    (λ later. ⊎_elim
    (λ pass.
    let same = up_next handed high e es later pass in
    let next : e.0 ≡ handed + 1 = eqb-true e.0 (handed + 1) (and_parts (e.0 == handed + 1) (may_go_up high e) pass).0 in
    ⊎_elim
    (λ here. inl (stands_in m (going_up handed high (e ∷ es)) (e.1 ∷ going_up (handed + 1) high es) same (stands_first e.1 m (going_up (handed + 1) high es) (is_first n m e es here at))))
    (λ other. goes_behind handed high n m e es same (in_regular (handed + 1) high n m es (is_behind n m e es other at) (omega (arith, other))))
    (cases_eq n e.0))
    (λ no'. inr (omega (arith, ap (λ (ms : List message.Message). length ms) (up_ends handed high e es later no'))))
    (cases_Bool ((e.0 == handed + 1) && may_go_up high e)))
    (λ past. goes_along handed high n m (e ∷ es) es (up_past handed high e es past) (in_regular handed high n m es (is_behind n m e es (λ same. omega arith) at) above))
    (cases_lt handed e.0)

-- ---- what is written

-- the delivery of a message in a list is among the deliveries
spread : (x : ConfId) (m : message.Message) (ms : List message.Message) (stands : Stands m ms) → deliveries x ms ≡ deliveries x stands.front ++ (deliveries x (m ∷ []) ++ deliveries x stands.back)
spread x m ms stands =
    ap (λ ys. deliveries x ys) stands.all
    ∙ filter_map-append (delivery x) stands.front (m ∷ stands.back)
    ∙ ap (λ es. deliveries x stands.front ++ es) (filter_map-append (delivery x) (m ∷ []) stands.back)

delivers_first : (x : ConfId) (m : message.Message) (ms : List message.Message) (b c d : List Entry) → Stands m ms → Delivers (((deliveries x ms ++ b) ++ c) ++ d) x m
delivers_first x m ms b c d stands = record {
  before = deliveries x stands.front;
  after = ((deliveries x stands.back ++ b) ++ c) ++ d;
  all = ap (λ es. ((es ++ b) ++ c) ++ d) (spread x m ms stands) ∙ simp append_assoc;
}

delivers_third : (x : ConfId) (m : message.Message) (ms : List message.Message) (a b d : List Entry) → Stands m ms → Delivers (((a ++ b) ++ deliveries x ms) ++ d) x m
delivers_third x m ms a b d stands = record {
  before = (a ++ b) ++ deliveries x stands.front;
  after = deliveries x stands.back ++ d;
  all = ap (λ es. ((a ++ b) ++ es) ++ d) (spread x m ms stands) ∙ simp append_assoc;
}

pub owed_are_delivered : (r : Leaving) (old : Ring) (n : ℕ) (m : message.Message)
    → message_at old.held n ≡ Some m → old.handed < n → has r.obliged m.sender ≡ true
    → Delivers (finish r old) (Regular old.ring) m ⊎ Delivers (finish r old) (between_rings r) m
owed_are_delivered r old n m at above owed =
    let regular = going_up old.handed r.high old.held in
    let last = old.handed + length regular in
    let rest = rest_from r.obliged last (held_above last old.held) in
    ⊎_elim
    (λ stands. inl (delivers_first (Regular old.ring) m regular (Conf (between_rings r) r.transitional ∷ []) (deliveries (between_rings r) rest) (Conf (Regular r.ring) r.members ∷ []) stands))
    (λ past. inr (delivers_third (between_rings r) m rest (deliveries (Regular old.ring) regular) (Conf (between_rings r) r.transitional ∷ []) (Conf (Regular r.ring) r.members ∷ [])
    (in_rest r.obliged last n m (held_above last old.held) (at_above last n m old.held at past) owed)))
    (in_regular old.handed r.high n m old.held at above)

-- ---- O

has_part : (test : ℕ → Bool) (ps : List ℕ) (x : ℕ) → has ps x ≡ true → test x ≡ true → has (filter test ps) x ≡ true
has_part test [] x had pass = had
has_part test (p ∷ ps) x had pass =
    let F : List ℕ → Type 0 = λ qs. has qs x ≡ true in
    ⊎_elim
    (λ same.
    let here : test p ≡ true = ap test (eqb-true p x same) ∙ pass in
    subst F (sym (cond-true (test p) (p ∷ filter test ps) (filter test ps) here)) (or_left (p == x) (has (filter test ps) x) same))
    (λ later.
    let rest = has_part test ps x later pass in
    ⊎_elim
    (λ kept. subst F (sym (cond-true (test p) (p ∷ filter test ps) (filter test ps) kept)) (or_right (p == x) (has (filter test ps) x) rest))
    (λ gone. subst F (sym (cond-false (test p) (p ∷ filter test ps) (filter test ps) gone)) rest)
    (cases_Bool (test p)))
    (or_cases (p == x) (has ps x) had)

has_front : (ps qs : List ℕ) (x : ℕ) → has ps x ≡ true → has (ps ++ qs) x ≡ true
has_front ps qs x had = list_any-append (λ q. q == x) ps qs ∙ or_left (has ps x) (has qs x) had

has_back : (ps qs : List ℕ) (x : ℕ) → has qs x ≡ true → has (ps ++ qs) x ≡ true
has_back ps qs x had = list_any-append (λ q. q == x) ps qs ∙ or_right (has ps x) (has qs x) had

kept_with : (ps : List ℕ) (p x : ℕ) → has ps x ≡ true → has (with_process ps p) x ≡ true
kept_with ps p x had =
    let below = filter (λ q. nat_lt q p) ps in
    let above = filter (λ q. nat_lt p q) ps in
    ⊎_elim
    (λ same. has_back below (p ∷ above) x (or_left (p == x) (has above x) (eq-eqb p x (sym same))))
    (λ other. ⊎_elim
    (λ less. has_front below (p ∷ above) x (has_part (λ q. nat_lt q p) ps x had (lt-ltb x p less)))
    (λ more. has_back below (p ∷ above) x (or_right (p == x) (has above x) (has_part (λ q. nat_lt p q) ps x had (lt-ltb p x more))))
    other)
    (cases_order x p)

kept_union : (ps qs : List ℕ) (x : ℕ) → has ps x ≡ true → has (union ps qs) x ≡ true
kept_union ps [] x had = had
kept_union ps (q ∷ qs) x had = kept_union (with_process ps q) qs x (kept_with ps q x had)

kept_obliged : (ps : List ℕ) (rs : List Report) (x : ℕ) → has ps x ≡ true → has (fold (λ all r. union all r.obligation) ps rs) x ≡ true
kept_obliged ps [] x had = had
kept_obliged ps (r ∷ rs) x had = kept_obliged (union ps r.obligation) rs x (kept_union ps r.obligation x had)

is_true : (b : Bool) → IsTrue b → b ≡ true
is_true true t = refl
is_true false t = absurd cc

pub owes_itself : (me : ℕ) (prev : Ring) (token : CommitToken) → IsReady me prev token → has (new_recovery me prev token).obliged me ≡ true
owes_itself me prev token ready =
    kept_obliged (transitional_set prev.ring token.members) (reports_from prev.ring token.members) me
    (is_true (has (transitional_set prev.ring token.members) me) ready.mine)
