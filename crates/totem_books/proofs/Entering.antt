-- What the journal shows of the seats' receipts.
use Rattle.totem_books.proofs.Common.{◌≡◌, ◌<◌, ◌≤◌, ◌+◌, ◌-◌, ◌==◌, ℕ, zero, suc, Bool, true, false, cond, List, [], ◌∷◌, ◌++◌, length, take, get_or, set, slice_get, option_map, Option, None, Some, append_assoc, length-append, refl, sym, ap, ◌∙◌, subst, arith, All, AllPairs, sum_by-cons, eqb-true, eqb-false, Called, Receipt, SeatRecord, called, Entered, calls_in, IsEntered, AreEntered, BeginWith, IsMet, FitRising, count_at, count_in, ShareNoPlace, Agree}
use mathlib.Core.List.{IsPrefix}
use Rattle.std.proofs.lemmas.List.{length-take-le, get_or-take, set-get_or, take_all}
use Rattle.std.proofs.lemmas.List.Elements.{All-more}
use Rattle.std.proofs.lemmas.Option.{slice_get_within, slice_get-map}

-- an element of a list is at the same place in a longer list that begins with it
stays : (xs ys : List Entered) (k : ℕ) (e : Entered) → slice_get xs k ≡ Some e → slice_get (xs ++ ys) k ≡ Some e
stays [] ys k e h = absurd (omega (arith, slice_get_within [] k e h))
stays (x ∷ xs) ys zero e h = h
stays (x ∷ xs) ys (suc k) e h = stays xs ys k e h

behind : (xs : List Entered) (e : Entered) (k : ℕ) → k ≡ length xs → slice_get (xs ++ e ∷ []) k ≡ Some e
behind [] e zero h = refl
behind [] e (suc k) h = absurd (omega (arith, h))
behind (x ∷ xs) e zero h = absurd (omega (arith, h))
behind (x ∷ xs) e (suc k) h = behind xs e k (omega (arith, h))

-- receipts that are in the journal are also in the journal when it is longer
pub still_entered : (mark : ℕ) (seen more : List Entered) (low : ℕ) (stubs : List Receipt) → AreEntered mark seen low stubs → AreEntered mark (seen ++ more) low stubs
still_entered mark seen more low [] h = tt
still_entered mark seen more low (s ∷ ss) h = (h.0, stays seen more (s.at - 1) (mark, s) h.1, still_entered mark seen more s.at ss h.2)

-- one receipt more after others, which were entered before
one_behind : (mark : ℕ) (seen more : List Entered) (low : ℕ) (stubs : List Receipt) (stub : Receipt) → AreEntered mark seen low stubs → low < stub.at → length seen < stub.at
    → slice_get (seen ++ more) (stub.at - 1) ≡ Some (mark, stub) → AreEntered mark (seen ++ more) low (stubs ++ stub ∷ [])
one_behind mark seen more low [] stub h above new there = (above, there, tt)
one_behind mark seen more low (s ∷ ss) stub h above new there =
    let within : s.at - 1 < length seen = slice_get_within seen (s.at - 1) (mark, s) h.1 in let first = h.0 in
    (h.0, stays seen more (s.at - 1) (mark, s) h.1, one_behind mark seen more s.at ss stub h.2 (omega (arith, within, new, first)) new there)

pub entered_more : (mark : ℕ) (seen after : List Entered) (stubs : List Receipt) (stub : Receipt) → AreEntered mark seen 0 stubs → IsEntered mark seen after stub → AreEntered mark after 0 (stubs ++ stub ∷ [])
entered_more mark seen after stubs stub h e =
    let last : List Entered = (mark, stub) ∷ [] in
    let split : seen ++ (e.between ++ last) ≡ after = sym (append_assoc seen e.between last) ∙ sym e.is in
    let whole : List Entered = seen ++ e.between in
    let long : stub.at ≡ length whole + 1 = e.place ∙ (ap length e.is ∙ (length-append whole last ∙ refl)) in
    let seen_less : length whole ≡ length seen + length e.between = length-append seen e.between in
    let there : slice_get after (stub.at - 1) ≡ Some (mark, stub) = subst (λ (l : List Entered). slice_get l (stub.at - 1) ≡ Some (mark, stub)) (sym e.is) (behind whole (mark, stub) (stub.at - 1) (omega (arith, long))) in
    subst (λ (l : List Entered). AreEntered mark l 0 (stubs ++ stub ∷ [])) split
    (one_behind mark seen (e.between ++ last) 0 stubs stub h (omega (arith, long)) (omega (arith, long, seen_less)) (subst (λ (l : List Entered). slice_get l (stub.at - 1) ≡ Some (mark, stub)) (sym split) there))

-- they fit the calls that the journal's receipts are of
fit : (mark : ℕ) (entries : List Entered) (low : ℕ) (stubs : List Receipt) → AreEntered mark entries low stubs → FitRising (calls_in entries) low stubs
fit mark entries low [] h = tt
fit mark entries low (s ∷ ss) h = let above = h.0 in
    (h.0, (omega (arith, above), slice_get-map (λ (e : Entered). called e.1.input e.1.reply) entries (s.at - 1) ∙ ap (option_map (λ (e : Entered). called e.1.input e.1.reply)) h.1), fit mark entries s.at ss h.2)

-- what is entered in the beginning of a journal is entered in it
pub entered_whole : (mark : ℕ) (seen entries : List Entered) (stubs : List Receipt) → AreEntered mark seen 0 stubs → IsPrefix seen entries → AreEntered mark entries 0 stubs
entered_whole mark seen entries stubs h p = subst (λ (l : List Entered). AreEntered mark l 0 stubs) p.1 (still_entered mark seen p.0 0 stubs h)

-- and so where the pen has seen how the journal begins
pub seen_fit : (mark : ℕ) (seen entries : List Entered) (calls : List Called) (stubs : List Receipt) → AreEntered mark seen 0 stubs → IsPrefix seen entries → calls ≡ calls_in entries → FitRising calls 0 stubs
seen_fit mark seen entries calls stubs h p is =
    subst (λ (cs : List Called). FitRising cs 0 stubs) (sym is) (fit mark entries 0 stubs (entered_whole mark seen entries stubs h p))

-- what a pen saw is how the journal begins, also with one entry more
pub seen_before : (seen entries after now : List Entered) (e : Entered) → IsPrefix seen entries → after ≡ entries ++ e ∷ [] → now ≡ after → IsPrefix seen now
seen_before seen entries after now e p is now_is =
    (p.0 ++ e ∷ [], sym (append_assoc seen p.0 (e ∷ [])) ∙ (ap (λ (l : List Entered). l ++ e ∷ []) p.1 ∙ (sym is ∙ sym now_is)))

-- a seat's receipts are entered also where it has seen more calls
pub kept_entered : (mark same : ℕ) (seen now : List Entered) (stubs left : List Receipt) → AreEntered mark seen 0 stubs → same ≡ mark → IsPrefix seen now → left ≡ stubs → AreEntered same now 0 left
kept_entered mark same seen now stubs left h is p kept =
    subst (λ (l : List Receipt). AreEntered same now 0 l) (sym kept) (subst (λ (m : ℕ). AreEntered m now 0 stubs) (sym is) (entered_whole mark seen now stubs h p))

-- and so are those of a seat that made one call more
pub more_entered : (mark same : ℕ) (seen now : List Entered) (stubs left : List Receipt) (stub : Receipt) → AreEntered mark seen 0 stubs → same ≡ mark → IsEntered mark seen now stub → left ≡ stubs ++ stub ∷ []
    → AreEntered same now 0 left
more_entered mark same seen now stubs left stub h is e all =
    subst (λ (l : List Receipt). AreEntered same now 0 l) (sym all) (subst (λ (m : ℕ). AreEntered m now 0 (stubs ++ stub ∷ [])) (sym is) (entered_more mark seen now stubs stub h e))

-- ---- receipts of two seats

-- a place that has a receipt of a seat has an entry with its mark
marked_there : (mark : ℕ) (entries : List Entered) (low : ℕ) (stubs : List Receipt) (place : ℕ) → AreEntered mark entries low stubs → 0 < count_at place stubs
    → (s : Receipt) × (slice_get entries (place - 1) ≡ Some (mark, s))
marked_there mark entries low [] place h some = absurd (omega (arith, some))
marked_there mark entries low (s ∷ ss) place h some = at (s.at == place) refl (marked_there mark entries s.at ss place h.2)
  where
    Here : Type 0
    Here = (s : Receipt) × (slice_get entries (place - 1) ≡ Some (mark, s))

    at : (b : Bool) → (s.at == place) ≡ b → (0 < count_at place ss → Here) → Here
    at true e later = (s, ap (λ (n : ℕ). slice_get entries (n - 1)) (sym (eqb-true s.at place e)) ∙ h.1)
    at false e later = later (omega (arith, some, sum_by-cons (λ (x : Receipt). cond (x.at == place) 1 0) s ss, ap {B = ℕ} (λ (b : Bool). cond b 1 0) e))

two_marks : (entries : List Entered) (place m n : ℕ) (these those : List Receipt) → AreEntered m entries 0 these → AreEntered n entries 0 those → (m ≡ n → ⊥) → 0 < count_at place these → 0 < count_at place those → ⊥
two_marks entries place m n these those h k other some more =
    let a = marked_there m entries 0 these place h some in let b = marked_there n entries 0 those place k more in
    other (ap (λ (o : Option Entered). mark_of o) (sym a.1 ∙ b.1))
  where
    mark_of : Option Entered → ℕ
    mark_of None = 0
    mark_of (Some e) = e.0

pub no_place_of_both : (entries : List Entered) (m n : ℕ) (these those : List Receipt) → AreEntered m entries 0 these → AreEntered n entries 0 those → (m ≡ n → ⊥) → ShareNoPlace these those
no_place_of_both entries m n these those h k other = record { none = λ place some. none_of (count_at place those) (λ more. two_marks entries place m n these those h k other some more) }
  where
    none_of : (c : ℕ) → (0 < c → ⊥) → c ≡ 0
    none_of zero never = refl
    none_of (suc c) never = absurd (never (omega arith))

-- ---- receipts of all seats

-- no receipt is at or below the place from which they ascend
none_below : (calls : List Called) (low place : ℕ) (stubs : List Receipt) → FitRising calls low stubs → place ≤ low → count_at place stubs ≡ 0
none_below calls low place [] h below = refl
none_below calls low place (s ∷ ss) h below = at (s.at == place) refl (none_below calls s.at place ss h.2 (let above = h.0 in omega (arith, above, below)))
  where
    split : count_at place (s ∷ ss) ≡ cond (s.at == place) 1 0 + count_at place ss
    split = sum_by-cons (λ (x : Receipt). cond (x.at == place) 1 0) s ss

    at : (b : Bool) → (s.at == place) ≡ b → count_at place ss ≡ 0 → count_at place (s ∷ ss) ≡ 0
    at true e rest = let above = h.0 in absurd (omega (arith, above, below, eqb-true s.at place e))
    at false e rest = omega (arith, split, ap {B = ℕ} (λ (b : Bool). cond b 1 0) e, rest)

-- one of a seat at most
one_of_a_seat : (calls : List Called) (low place : ℕ) (stubs : List Receipt) → FitRising calls low stubs → count_at place stubs ≤ 1
one_of_a_seat calls low place [] h = omega arith
one_of_a_seat calls low place (s ∷ ss) h = at (s.at == place) refl (one_of_a_seat calls s.at place ss h.2)
  where
    split : count_at place (s ∷ ss) ≡ cond (s.at == place) 1 0 + count_at place ss
    split = sum_by-cons (λ (x : Receipt). cond (x.at == place) 1 0) s ss

    at : (b : Bool) → (s.at == place) ≡ b → count_at place ss ≤ 1 → count_at place (s ∷ ss) ≤ 1
    at true e rest = omega (arith, split, ap {B = ℕ} (λ (b : Bool). cond b 1 0) e, none_below calls s.at place ss h.2 (omega (arith, eqb-true s.at place e)))
    at false e rest = omega (arith, split, ap {B = ℕ} (λ (b : Bool). cond b 1 0) e, rest)

none_later : (place : ℕ) (s : SeatRecord) (seats : List SeatRecord) → All (λ t. ShareNoPlace s.stubs t.stubs) seats → 0 < count_at place s.stubs → count_in place seats ≡ 0
none_later place s [] h some = refl
none_later place s (t ∷ ts) h some =
    omega (arith, sum_by-cons (λ (x : SeatRecord). count_at place x.stubs) t ts, (h zero t (omega arith)).none place some, none_later place s ts (λ k d within. h (suc k) d (omega (arith, within))) some)

one_of_all : (calls : List Called) (place : ℕ) (seats : List SeatRecord) → All (λ s. FitRising calls 0 s.stubs) seats → AllPairs (λ s t. ShareNoPlace s.stubs t.stubs) seats → count_in place seats ≤ 1
one_of_all calls place [] fits apart = omega arith
one_of_all calls place (s ∷ ss) fits apart =
    at (count_at place s.stubs) refl (one_of_all calls place ss (λ k d within. fits (suc k) d (omega (arith, within))) (λ i j d before within. apart (suc i) (suc j) d (omega (arith, before)) (omega (arith, within))))
  where
    split : count_in place (s ∷ ss) ≡ count_at place s.stubs + count_in place ss
    split = sum_by-cons (λ (x : SeatRecord). count_at place x.stubs) s ss

    most : count_at place s.stubs ≤ 1
    most = one_of_a_seat calls 0 place s.stubs (fits zero s (omega arith))

    at : (n : ℕ) → count_at place s.stubs ≡ n → count_in place ss ≤ 1 → count_in place (s ∷ ss) ≤ 1
    at zero e rest = omega (arith, split, e, rest)
    at (suc n) e rest = omega (arith, split, most, none_later place s ss (λ k d within. apart zero (suc k) d (omega arith) (omega (arith, within))) (omega (arith, e)))

pub all_agree : (calls : List Called) (seats : List SeatRecord) → All (λ s. FitRising calls 0 s.stubs) seats → AllPairs (λ s t. ShareNoPlace s.stubs t.stubs) seats → Agree calls seats
all_agree calls seats fits apart = record { each = fits; apart = λ k within. one_of_all calls (k + 1) seats fits apart }

met_fit : (calls : List Called) (seats : List SeatRecord) → ((j : ℕ) → j < length seats → IsMet calls seats j) → All (λ s. FitRising calls 0 s.stubs) seats
met_fit calls seats met k d within = (met k within).fit d

met_apart : (calls : List Called) (seats : List SeatRecord) → ((j : ℕ) → j < length seats → IsMet calls seats j) → AllPairs (λ s t. ShareNoPlace s.stubs t.stubs) seats
met_apart calls seats met i j d before within =
    let all = (met j within).apart d i d (omega (arith, length-take-le j seats (omega (arith, within)), before)) in
    subst (λ (s : SeatRecord). ShareNoPlace s.stubs (get_or seats j d).stubs) (get_or-take j seats i d before) all

-- where all seats were met, they agree with the calls
pub all_met : (calls : List Called) (seats : List SeatRecord) → ((j : ℕ) → j < length seats → IsMet calls seats j) → Agree calls seats
all_met calls seats met = all_agree calls seats (met_fit calls seats met) (met_apart calls seats met)

pub all_seen : (calls : List Called) (seats : List SeatRecord) → ((j : ℕ) → j < length seats → IsMet calls seats j) → All (λ s. BeginWith calls s.seen) seats
all_seen calls seats met k d within = (met k within).seen d

-- ---- the loops over seats

-- an element written back
pub written_back : (xs ys : List SeatRecord) (i : ℕ) (x y : SeatRecord) → xs ≡ ys → y ≡ get_or xs i x → set xs i y ≡ ys
written_back xs ys i x y same back = ap (set xs i) back ∙ (set-get_or xs i x ∙ same)

-- one more that shares no place with this one
pub apart_more : (xs ys : List SeatRecord) (i : ℕ) (x one other : SeatRecord) → xs ≡ ys → i < length ys → one ≡ other → ShareNoPlace (get_or xs i x).stubs one.stubs
    → All (λ s. ShareNoPlace s.stubs other.stubs) (take i ys) → All (λ s. ShareNoPlace s.stubs other.stubs) (take (i + 1) ys)
apart_more xs ys i x one other same within one_is apart before =
    All-more (λ (s : SeatRecord). ShareNoPlace s.stubs other.stubs) ys i x within before
    (subst (λ (l : List SeatRecord). ShareNoPlace (get_or l i x).stubs other.stubs) same (subst (λ (t : SeatRecord). ShareNoPlace (get_or xs i x).stubs t.stubs) one_is apart))

pub all_taken : (P : SeatRecord → Type 0) (xs : List SeatRecord) (i : ℕ) → length xs ≤ i → All P (take i xs) → All P xs
all_taken P xs i long h = subst (All P) (take_all i xs long) h

-- one more seat was met
pub met_more : (calls those : List Called) (xs ys : List SeatRecord) (at : ℕ) → calls ≡ those → xs ≡ ys → IsMet calls xs at → ((j : ℕ) → j < at → IsMet those ys j) → (j : ℕ) → j < at + 1 → IsMet those ys j
met_more calls those xs ys at same_calls same met before j within = cases (j == at) refl
  where
    cases : (b : Bool) → (j == at) ≡ b → IsMet those ys j
    cases true e = subst (IsMet those ys) (sym (eqb-true j at e)) (subst (λ (l : List SeatRecord). IsMet those l at) same (subst (λ (cs : List Called). IsMet cs xs at) same_calls met))
    cases false e = before j (apart_below (λ is. eqb-false j at e is))
      where
        apart_below : (j ≡ at → ⊥) → j < at
        apart_below other = omega (arith, within, other)
