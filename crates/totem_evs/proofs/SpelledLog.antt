-- What is read is spelled so, and what is spelled so is read: a log.
use Rattle.std.proofs.lemmas.Grind.{common_steps}
use Rattle.totem_evs.proofs.Common.{◌==◌, slice_get, ◌≡◌, ℕ, zero, suc, ◌+◌, ◌<◌, List, [], ◌∷◌, ◌++◌, length, Some, Ok, Bool, true, false, cond, refl, sym, ◌∙◌, ap, append_assoc, arith, Version, process_text, IsProcessIn, flat_map, AllByRecursion, recursion_from_All, nat_tests, Parsed, ◌>>=◌, after, parsed_is, writes_quiet, IsEndingIn, IsEntryIn, IsFailure, EndsInFail, IsClosedBy, IsLogIn, line, entry_text, ending_text}
use Rattle.totem_evs.specs.declared.entry.Entry.{Entry}
use Rattle.totem_evs.specs.declared.ending.Ending.{Ending}
use Rattle.totem_evs.specs.declared.ending.Ending.TheVariants.{Standing, Failed, Quiet}
use Rattle.totem_evs.specs.declared.lines.Line.{Line}
use Rattle.totem_evs.specs.declared.lines.Line.TheVariants as lines
use Rattle.totem_evs.specs.declared.log.Log.{Log}
use Rattle.totem_evs.specs.RunGrammar.{is_failure, line_at, by_line, lines_at, log_at}
use Rattle.totem_evs.proofs.SpelledLine.{IsLineOf, IsLine, line_is, line_again}

-- ---- how a log ends

-- whether the last entry is a failure; the result is given for a log without entries
abbrev pub ends_in_failure : Bool → List Entry → Bool
ends_in_failure before [] = before
ends_in_failure before (e ∷ entries) = ends_in_failure (is_failure e) entries

abbrev pub ending_if : Bool → Ending
ending_if failed = cond failed Failed Standing

failure_is_one : (e : Entry) → IsFailure e → is_failure e ≡ true
failure_is_one e h = grind arith

one_is_failure : (e : Entry) → is_failure e ≡ true → IsFailure e
one_is_failure e h = grind arith

-- the last entry is a failure, and the test says so
last_fails : (before : Bool) (es : List Entry) (i : ℕ) (last : Entry) → length es ≡ i + 1 → slice_get es i ≡ Some last → IsFailure last → ends_in_failure before es ≡ true
last_fails before [] i last len at fails = absurd (omega (arith, len))
last_fails before (e ∷ []) zero last len at fails = let same : e ≡ last = cc in failure_is_one e (rw same fails)
last_fails before (e ∷ []) (suc i) last len at fails = absurd (omega (arith, len))
last_fails before (e ∷ x ∷ es) zero last len at fails = absurd (omega (arith, len))
last_fails before (e ∷ x ∷ es) (suc i) last len at fails = last_fails (is_failure e) (x ∷ es) i last (omega (arith, len)) at fails

-- the test says so, and the last entry is a failure
fails_last : (e : Entry) (es : List Entry) → ends_in_failure (is_failure e) es ≡ true → EndsInFail (e ∷ es)
fails_last e [] h = (zero, e, omega arith, refl, one_is_failure e h)
fails_last e (x ∷ es) h = let found = fails_last x es h in (suc found.0, found.1, omega (arith, found.2), found.3, found.4)

-- a log closes so whose last entry is a failure or not, as quiet where that is written
abbrev pub EndsSo : Bool → Bool → Ending → Type 0
EndsSo written failed Standing = failed ≡ false
EndsSo written failed Failed = failed ≡ true
EndsSo written failed Quiet = (written ≡ true) × (failed ≡ false)

pub ends_if : (written failed : Bool) → EndsSo written failed (ending_if failed)
ends_if written failed = grind arith

never_fails : (es : List Entry) → ends_in_failure false es ≡ false → EndsInFail es → ⊥
never_fails es h found = grind (arith, last_fails)

pub closed_by : (written : Bool) (es : List Entry) (ending : Ending) → EndsSo written (ends_in_failure false es) ending → IsClosedBy es ending
closed_by written es Standing h = (λ f. absurd cc, λ found. absurd (never_fails es h found))
closed_by written es Quiet h = (λ f. absurd cc, λ found. absurd (never_fails es h.1 found))
closed_by written [] Failed h = absurd cc
closed_by written (e ∷ es) Failed h = (λ f. fails_last e es h, λ found. refl)

-- texts have the word
pub word_so : (version : Version) (failed : Bool) (ending : Ending) → EndsSo (writes_quiet version) failed ending → IsEndingIn version ending
word_so version failed ending h = grind arith

pub closes_by : (version : Version) (es : List Entry) (ending : Ending) → 0 < length es → IsClosedBy es ending → IsEndingIn version ending → EndsSo (writes_quiet version) (ends_in_failure false es) ending
closes_by version [] ending some h word = absurd (omega (arith, some))
closes_by version (e ∷ es) ending some h word = go ending (ends_in_failure (is_failure e) es) refl h word
  where
    go : (x : Ending) (t : Bool) → ends_in_failure (is_failure e) es ≡ t → IsClosedBy (e ∷ es) x → IsEndingIn version x → EndsSo (writes_quiet version) t x
    go Standing true s k w = absurd (let j = k.1 (fails_last e es s) in cc)
    go Standing false s k w = refl
    go Failed true s k w = refl
    go Failed false s k w = absurd (never_fails (e ∷ es) s (k.0 refl))
    go Quiet true s k w = absurd (let j = k.1 (fails_last e es s) in cc)
    go Quiet false s k w = (w, refl)

-- ---- the lines of a log

abbrev pub entries_text : Version → List Entry → List ℕ
entries_text version entries = flat_map (λ entry. line (entry_text (process_text version) entry)) entries

abbrev pub has_some : Bool → List Entry → Bool
has_some some [] = some
has_some some (e ∷ es) = true

-- what may follow: fewer than `room` entries, and `quiet` where that is written; this holds for the entries
pub record IsBodyOf (Each : List Entry → Type 0) (written : Bool) (room : ℕ) (some failed : Bool) (es : List Entry) (ending : Ending) : Type 0 where
  pub few : length es < room
  pub entries : Each es
  pub has : has_some some es ≡ true
  pub ends : EndsSo written (ends_in_failure failed es) ending

abbrev pub IsBody : Version → ℕ → Bool → Bool → List Entry → Ending → Type 0
IsBody version room some failed es ending = IsBodyOf (AllByRecursion (IsEntryIn version)) (writes_quiet version) room some failed es ending

pub closing : (E : Entry → Type 0) (Each : List Entry → Type 0) (none : Each []) (written : Bool) (room : ℕ) (full some failed : Bool) (ending : Ending) → (failed ≡ true → some ≡ true) → IsLineOf E written full some failed (lines.Close ending)
    → IsBodyOf Each written (suc room) some failed [] ending
closing E Each none written room full some failed ending h k = grind arith

pub lines_is : (version : Version) (room : ℕ) (some failed : Bool) (es : List Entry) (ending : Ending) (bytes rest : List ℕ) → (failed ≡ true → some ≡ true) → lines_at version room some failed bytes ≡ Ok ((es, ending), rest)
    → IsBody version room some failed es ending × (bytes ≡ entries_text version es ++ (line (ending_text ending) ++ rest))
unfolding lines_at
lines_is version zero some failed es ending bytes rest so e = absurd cc
lines_is version (suc room) some failed es ending bytes rest so e =
    after (line_at version (room == 0) some failed bytes) (λ l. by_line l.0 (λ x. Ok (([], x), l.1)) (λ x. lines_at version room true (is_failure x) l.1 >>= λ others. Ok ((x ∷ others.0.0, others.0.1), others.1))) ((es, ending), rest) e (λ l mid e1 more.
    go l mid e1 more (λ x es' ending' left k. lines_is version room true (is_failure x) es' ending' mid left (λ h. refl) k))
  where
    pair_is : (xs ys : List Entry) (a b : Ending) → ◌≡◌ {A = List Entry × Ending} (xs, a) (ys, b) → (xs ≡ ys) × (a ≡ b)
    pair_is xs ys a b h = (ap (λ (p : List Entry × Ending). p.0) h, ap (λ (p : List Entry × Ending). p.1) h)

    go : (l : Line) (mid : List ℕ) → line_at version (room == 0) some failed bytes ≡ Ok (l, mid)
        → by_line {Y = Parsed (List Entry × Ending)} l (λ x. Ok (([], x), mid)) (λ x. lines_at version room true (is_failure x) mid >>= λ others. Ok ((x ∷ others.0.0, others.0.1), others.1)) ≡ Ok ((es, ending), rest)
        → ((x : Entry) (es' : List Entry) (ending' : Ending) (left : List ℕ) → lines_at version room true (is_failure x) mid ≡ Ok ((es', ending'), left) → IsBody version room true (is_failure x) es' ending' × (mid ≡ entries_text version es' ++ (line (ending_text ending') ++ left)))
        → IsBody version (suc room) some failed es ending × (bytes ≡ entries_text version es ++ (line (ending_text ending) ++ rest))
    go (lines.Close x) mid e1 more again =
        let found = line_is version (room == 0) some failed (lines.Close x) bytes mid e1 in
        let q = parsed_is ([], x) (es, ending) mid rest more in
        let p = pair_is [] es x ending q.0 in
        let whole : IsBody version (suc room) some failed [] x × (bytes ≡ entries_text version [] ++ (line (ending_text x) ++ mid)) = (closing (IsEntryIn version) (AllByRecursion (IsEntryIn version)) tt (writes_quiet version) room (room == 0) some failed x so found.0, found.1) in
        rw (← p.0, ← p.1, ← q.1) whole
    go (lines.Entry x) mid e1 more again =
        let found = line_is version (room == 0) some failed (lines.Entry x) bytes mid e1 in
        after (lines_at version room true (is_failure x) mid) (λ others. Ok ((x ∷ others.0.0, others.0.1), others.1)) ((es, ending), rest) more (λ others left e2 made.
        let q = parsed_is (x ∷ others.0, others.1) (es, ending) left rest made in
        let p = pair_is (x ∷ others.0) es others.1 ending q.0 in
        let tail = again x others.0 others.1 left e2 in
        let body : IsBody version (suc room) some failed (x ∷ others.0) others.1 = record { few = omega (arith, tail.0.few); entries = (found.0.1, tail.0.entries); has = refl; ends = tail.0.ends } in
        let text : bytes ≡ entries_text version (x ∷ others.0) ++ (line (ending_text others.1) ++ left) =
        found.1 ∙ ap (λ (t : List ℕ). line (entry_text (process_text version) x) ++ t) tail.1 ∙ sym (append_assoc (line (entry_text (process_text version) x)) (entries_text version others.0) (line (ending_text others.1) ++ left)) in
        rw (← p.0, ← p.1, ← q.1) (body, text))

pub lines_again : (version : Version) (room : ℕ) (some failed : Bool) (es : List Entry) (ending : Ending) (rest : List ℕ) → IsBody version room some failed es ending
    → lines_at version room some failed (entries_text version es ++ (line (ending_text ending) ++ rest)) ≡ Ok ((es, ending), rest)
unfolding lines_at
lines_again version zero some failed es ending rest is = absurd (omega (arith, is.few))
lines_again version (suc room) some failed [] ending rest is = rw (line_again version (room == 0) some failed (lines.Close ending) rest (closes ending is.ends)) refl
  where
    closes : (x : Ending) → EndsSo (writes_quiet version) failed x → IsLine version (room == 0) some failed (lines.Close x)
    closes Standing h = (is.has, h)
    closes Failed h = h
    closes Quiet h = (h.0, is.has, h.1)
lines_again version (suc room) some failed (e ∷ es) ending rest is =
    let more : (room == 0) ≡ false = (let k : 0 < room = omega (arith, is.few) in grind (arith, nat_tests)) in
    let regrouped : entries_text version (e ∷ es) ++ (line (ending_text ending) ++ rest) ≡ line (entry_text (process_text version) e) ++ (entries_text version es ++ (line (ending_text ending) ++ rest)) = append_assoc (line (entry_text (process_text version) e)) (entries_text version es) (line (ending_text ending) ++ rest) in
    let others : IsBody version room true (is_failure e) es ending = record { few = omega (arith, is.few); entries = is.entries.1; has = has_true es; ends = is.ends } in
    rw (regrouped, line_again version (room == 0) some failed (lines.Entry e) (entries_text version es ++ (line (ending_text ending) ++ rest)) (more, is.entries.0), lines_again version room true (is_failure e) es ending rest others) refl
  where
    has_true : (es : List Entry) → has_some true es ≡ true
    has_true [] = refl
    has_true (e ∷ es) = refl

-- ---- logs

-- the lines of a log after its first one
abbrev pub body_text : Version → List Entry → Ending → List ℕ → List ℕ
body_text version entries ending rest = entries_text version entries ++ (line (ending_text ending) ++ rest)

pub some_of : (es : List Entry) → has_some false es ≡ true → 0 < length es
some_of es h = grind arith

-- a log is made of what was read
pub made_log : (version : Version) (p : ℕ) (es : List Entry) (ending : Ending) → IsProcessIn version p → IsBody version 1000001 false false es ending → IsLogIn version (record { proc = p; entries = es; ending = ending })
made_log version p es ending proc body = grind (arith, common_steps, some_of, closed_by, word_so)

pub log_is : (version : Version) (p : ℕ) (log : Log) (bytes rest : List ℕ) → IsProcessIn version p → log_at version p bytes ≡ Ok (log, rest) → IsLogIn version log × (log.proc ≡ p) × (bytes ≡ body_text version log.entries log.ending rest)
unfolding log_at
log_is version p log bytes rest proc e =
    after (lines_at version 1000001 false false bytes) (λ body. Ok (record { proc = p; entries = body.0.0; ending = body.0.1 }, body.1)) (log, rest) e (λ body mid e1 made.
    let new : Log = record { proc = p; entries = body.0; ending = body.1 } in
    let q = parsed_is new log mid rest made in
    let found = lines_is version 1000001 false false body.0 body.1 bytes mid (λ h. absurd cc) e1 in
    let whole : IsLogIn version new × (new.proc ≡ p) × (bytes ≡ body_text version new.entries new.ending mid) = (made_log version p body.0 body.1 proc found.0, refl, found.1) in
    rw (← q.0, ← q.1) whole)

pub log_again : (version : Version) (log : Log) (rest : List ℕ) → IsLogIn version log → log_at version log.proc (body_text version log.entries log.ending rest) ≡ Ok (log, rest)
unfolding log_at
log_again version log rest is = grind (arith, recursion_from_All, closes_by, lines_again)
