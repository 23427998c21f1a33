-- Members that hold the same messages leave in the same way.
use Rattle.totem_recover.proofs.Common.{length-append, ◌≡◌, ℕ, ◌+◌, ◌<◌, ◌≤◌, List, [], ◌∷◌, ◌++◌, length, refl, sym, ◌∙◌, ap, subst, append_assoc, arith, ⊎_elim, slice_index, cases_eq, cases_lt, nat_tests, filter_map-append, RingName, id_of, Regular, Transitional, Entry, Ring, Held, whole_above, going_up, RisesFrom, Leaving, held_above, deliveries, rest_from, finish}
use Rattle.totem_evs.specs.declared.entry.Entry.TheVariants.{Conf}
use Rattle.totem_packets.specs.declared.message.Message as message
use Rattle.totem_recover.specs.Together.{LeaveTogether, messages_between}

-- ---- what each definition says of the first message

going_past : (handed safe_to : ℕ) (e : ℕ × message.Message) (es : Held) → e.0 ≤ handed → going_up handed safe_to (e ∷ es) ≡ going_up handed safe_to es
going_past handed safe_to e es past = grind (arith, nat_tests)

going_next : (handed safe_to : ℕ) (e : ℕ × message.Message) (es : Held) → e.0 ≡ handed + 1 → e.0 ≤ safe_to → going_up handed safe_to (e ∷ es) ≡ e.1 ∷ going_up (handed + 1) safe_to es
going_next handed safe_to e es next safe = grind (arith, nat_tests)

whole_next : (low : ℕ) (e : ℕ × message.Message) (es : Held) → e.0 ≡ low + 1 → whole_above low (e ∷ es) ≡ whole_above (low + 1) es
whole_next low e es next = grind (arith, nat_tests)

whole_gap : (low : ℕ) (e : ℕ × message.Message) (es : Held) → (e.0 ≡ low + 1 → ⊥) → whole_above low (e ∷ es) ≡ low
whole_gap low e es gap = grind (arith, nat_tests)

between_past : (low high : ℕ) (e : ℕ × message.Message) (es : Held) → e.0 ≤ low → messages_between low high (e ∷ es) ≡ messages_between low high es
between_past low high e es past = grind (arith, nat_tests)

between_next : (low high : ℕ) (e : ℕ × message.Message) (es : Held) → low < e.0 → e.0 ≤ high → messages_between low high (e ∷ es) ≡ e.1 ∷ messages_between low high es
between_next low high e es above below = grind (arith, nat_tests)

between_above : (low high : ℕ) (e : ℕ × message.Message) (es : Held) → high < e.0 → messages_between low high (e ∷ es) ≡ messages_between low high es
between_above low high e es above = grind (arith, nat_tests)

-- there is nothing between a number and itself
between_none : (at low high : ℕ) (es : Held) → RisesFrom at es → high ≤ at → messages_between low high es ≡ []
between_none at low high [] rises le = refl
between_none at low high (e ∷ es) rises le =
    let above : high < e.0 = omega (arith, rises.0) in
    between_above low high e es above ∙ between_none e.0 low high es rises.2 (omega arith)

-- if all are above both lower bounds, either bound gives the same messages
between_from : (at low low' high : ℕ) (es : Held) → RisesFrom at es → low ≤ at → low' ≤ at → messages_between low high es ≡ messages_between low' high es
between_from at low low' high [] rises le le' = refl
between_from at low low' high (e ∷ es) rises le le' =
    let rest = between_from e.0 low low' high es rises.2 (omega (arith, rises.0)) (omega (arith, rises.0)) in
    let above : low < e.0 = omega (arith, rises.0) in
    let above' : low' < e.0 = omega (arith, rises.0) in
    ⊎_elim
    (λ over. between_above low high e es over ∙ rest ∙ sym (between_above low' high e es over))
    (λ within. between_next low high e es above within ∙ ap (λ ms. e.1 ∷ ms) rest ∙ sym (between_next low' high e es above' within))
    (cases_lt high e.0)

-- ---- catching up

-- the messages to deliver from the lower number on are those in between and then those from the higher number on
pub record CatchesUp (low high safe_to : ℕ) (held : Held) : Type 0 where
  pub goes_up : going_up low safe_to held ≡ messages_between low high held ++ going_up high safe_to held
  pub counted : low + length (messages_between low high held) ≡ high

is_level : (at low high safe_to : ℕ) (es : Held) → RisesFrom at es → low ≡ at → high ≡ at → CatchesUp low high safe_to es
is_level at low high safe_to es rises same same' = let none = between_none at low high es rises (omega arith) in record {
  goes_up = ap (λ n. going_up n safe_to es) (same ∙ sym same') ∙ ap (λ ms. ms ++ going_up high safe_to es) (sym none);
  counted = ap (λ ms. low + length ms) none ∙ omega arith;
}

goes_past : (low high safe_to : ℕ) (e : ℕ × message.Message) (es : Held) → e.0 ≤ low → low ≤ high → CatchesUp low high safe_to es → CatchesUp low high safe_to (e ∷ es)
goes_past low high safe_to e es past le rest =
    let past' : e.0 ≤ high = omega arith in
    record {
      goes_up = going_past low safe_to e es past ∙ rest.goes_up ∙ ap (λ ms. ms ++ going_up high safe_to es) (sym (between_past low high e es past)) ∙ ap (λ ms. messages_between low high (e ∷ es) ++ ms) (sym (going_past high safe_to e es past'));
      counted = ap (λ ms. low + length ms) (between_past low high e es past) ∙ rest.counted;
    }

goes_on : (low high safe_to : ℕ) (e : ℕ × message.Message) (es : Held) → e.0 ≡ low + 1 → RisesFrom e.0 es → low < high → high ≤ safe_to → CatchesUp (low + 1) high safe_to es → CatchesUp low high safe_to (e ∷ es)
goes_on low high safe_to e es next rises below safe rest =
    let within : e.0 ≤ high = omega arith in
    let above : low < e.0 = omega arith in
    let safe' : e.0 ≤ safe_to = omega arith in
    let same = between_from e.0 low (low + 1) high es rises (omega arith) (omega arith) in
    let first = between_next low high e es above within ∙ ap (λ ms. e.1 ∷ ms) same in
    record {
      goes_up =
          going_next low safe_to e es next safe'
          ∙ ap (λ ms. e.1 ∷ ms) rest.goes_up
          ∙ ap (λ ms. ms ++ going_up high safe_to es) (sym first)
          ∙ ap (λ ms. messages_between low high (e ∷ es) ++ ms) (sym (going_past high safe_to e es within));
      counted = ap (λ ms. low + length ms) first ∙ omega (arith, rest.counted);
    }

catches_up : (at low high safe_to : ℕ) (es : Held) → RisesFrom at es → at ≤ low → low ≤ high → high ≤ whole_above at es → high ≤ safe_to → CatchesUp low high safe_to es
catches_up at low high safe_to [] rises begins le whole safe = is_level at low high safe_to [] rises (omega arith) (omega arith)
catches_up at low high safe_to (e ∷ es) rises begins le whole safe =
    let P : ℕ → Type 0 = λ n. high ≤ n in
    ⊎_elim
    (λ next.
    let further = subst P (whole_next at e es next) whole in
    let Q : ℕ → Type 0 = λ n. RisesFrom n es in
    let rising = subst Q next rises.2 in
    ⊎_elim
    (λ before. goes_past low high safe_to e es (omega arith) le (catches_up (at + 1) low high safe_to es rising (omega arith) le further safe))
    (λ here. ⊎_elim
    (λ below. goes_on low high safe_to e es (omega arith) rises.2 below safe (catches_up (at + 1) (low + 1) high safe_to es rising (omega arith) (omega arith) further safe))
    (λ level. is_level at low high safe_to (e ∷ es) rises (omega arith) (omega arith))
    (cases_lt low high))
    (cases_lt at low))
    (λ gap.
    let stops = subst P (whole_gap at e es gap) whole in
    is_level at low high safe_to (e ∷ es) rises (omega arith) (omega arith))
    (cases_eq e.0 (at + 1))

-- ---- what is written

-- the finish, given its parts: the old and the new ring, the new members, T, O, the regular part and its last number
written : RingName → RingName → List ℕ → List ℕ → List ℕ → List message.Message → ℕ → Held → List Entry
written old ring members transitional obliged regular last held =
    let between = Transitional (id_of (slice_index transitional 0)) ring in
    deliveries (Regular old) regular
    ++ Conf between transitional ∷ []
    ++ deliveries between (rest_from obliged last (held_above last held))
    ++ Conf (Regular ring) members ∷ []

is_written : (r : Leaving) (a : Ring)
    → finish r a ≡ written a.ring r.ring r.members r.transitional r.obliged (going_up a.handed r.high a.held) (a.handed + length (going_up a.handed r.high a.held)) a.held
unfolding written
is_written r a = refl

writes_first : (old ring : RingName) (members transitional obliged : List ℕ) (first regular : List message.Message) (last : ℕ) (held : Held)
    → written old ring members transitional obliged (first ++ regular) last held ≡ deliveries (Regular old) first ++ written old ring members transitional obliged regular last held
unfolding written
writes_first old ring members transitional obliged first regular last held = simp (filter_map-append, append_assoc)

pub leaves_alike : (r s : Leaving) (a b : Ring) → LeaveTogether r s a b
    → finish r a ≡ deliveries (Regular b.ring) (messages_between a.handed b.handed b.held) ++ finish s b
leaves_alike r s a b t =
    let ups = catches_up 0 a.handed b.handed s.high b.held t.rises (omega arith) t.behind t.whole t.reported in
    let regular : going_up a.handed r.high a.held ≡ messages_between a.handed b.handed b.held ++ going_up b.handed s.high b.held = ap (λ h. going_up a.handed h a.held) t.high ∙ ap (λ m. going_up a.handed s.high m) t.held ∙ ups.goes_up in
    let last : a.handed + length (going_up a.handed r.high a.held) ≡ b.handed + length (going_up b.handed s.high b.held) = omega (arith, ups.counted, ap (λ (ms : List message.Message). length ms) regular, length-append (messages_between a.handed b.handed b.held) (going_up b.handed s.high b.held)) in
    let first = writes_first b.ring s.ring s.members s.transitional s.obliged (messages_between a.handed b.handed b.held) (going_up b.handed s.high b.held) (b.handed + length (going_up b.handed s.high b.held)) b.held in
    let mine = is_written r a in
    let yours = is_written s b in
    cc
