-- Where a walk is, and what a step of it passes.
use Rattle.totem_judge_certificate.proofs.Common.{below_more, ◌≡◌, ◌≢◌, ℕ, zero, suc, ◌+◌, ◌<◌, ◌≤◌, ◌⊎◌, inl, inr, List, [], ◌∷◌, length, get_or, slice_get, slice_set, Option, Some, None, refl, sym, ◌∙◌, ap, subst, arith, slice_get_within, slice_get_read, slice_get-get_or, get_or_from_slice_get, Place, Entry, Log, AreOfOneClass, Numbering, Matches, Rising, in_order, less_or_not, IsLine, IsCertificate, Stands, place, SomePair, IsIn, NumberIsShared, LinesRise, IsAhead, IsHead, IsPassed, NoneLeftTo, IsLeastHead, IsLeastTo, IsLesser, IsStepOf, IsStepped, AreOneBefore, as_many, matches_at, at_index, in_stands, one_in, locate}
use Rattle.std.proofs.lemmas.List.{length-set}
use Rattle.totem_judge_certificate.specs.declared.walk.Head.{Head}
use Rattle.totem_judge_certificate.proofs.Entering.{some_pair}

pub ahead_stands : (run : List Log) (lines : List Numbering) (passed : List ℕ) (i : ℕ) (e : Place) (x : Entry) (n : ℕ) → Rising run → Matches run lines → IsAhead run lines passed i e x n → Stands run lines e x n
ahead_stands run lines passed i e x n rising matches h = in_stands run lines i h.at e x n rising matches h.is

-- ---- what has been passed

positive : (lines : List Numbering) (i j k : ℕ) (line : Numbering) → IsCertificate lines → slice_get lines i ≡ Some line → slice_get line.numbers j ≡ Some k → 0 < k
positive lines i j k line is at_line at_number =
    let good : IsLine line = subst (λ (z : Numbering). IsLine z) (get_or_from_slice_get lines i line line at_line) (is.each i line (slice_get_within lines i line at_line)) in
    let number = good.numbers.each j k (slice_get_within line.numbers j k at_number) in
    subst (λ (z : ℕ). 0 < z) (get_or_from_slice_get line.numbers j k k at_number) number.positive

-- each event has a positive number
pub positive_number : (run : List Log) (lines : List Numbering) (e : Place) (x : Entry) (n : ℕ) → Rising run → Matches run lines → IsCertificate lines → Stands run lines e x n → 0 < n
positive_number run lines e x n rising matches is stands = (let l = locate run lines e x n rising matches stands in positive lines l.index l.at n l.is.line is l.is.line_is l.is.number_is)

-- a head is above what has been passed
pub head_above : (lines : List Numbering) (passed : List ℕ) (last i n : ℕ) → IsPassed lines passed last → IsHead lines passed i n → last < n
head_above lines passed last i n h is = h.after i is.at is.at n is.line is.line_is is.at_is is.number_is (omega arith)

-- the number after the last one that has been passed is the least
pub least_next : (lines : List Numbering) (passed : List ℕ) (last : ℕ) (head : Head) → IsPassed lines passed last → IsHead lines passed head.log head.number → head.number ≡ last + 1 → IsLeastHead lines passed (length lines) head
least_next lines passed last head h is next = record { is = is; least = λ j lt m at. (let above = head_above lines passed last j m h at in omega arith) }

module _ (lines : List Numbering) (passed : List ℕ) (last : ℕ) (rise : LinesRise lines (length lines)) (h : IsPassed lines passed last) (head : Head) (least : IsLeastHead lines passed (length lines) head) where
  -- the least head was not passed
  pub head_is_above : last < head.number
  head_is_above = head_above lines passed last head.log head.number h least.is

  next_number : (i at n : ℕ) (line : Numbering) → slice_get lines i ≡ Some line → slice_get passed i ≡ Some at → slice_get line.numbers at ≡ Some n → head.number ≤ n
  next_number i at n line at_line at_passed at_number =
      least.least i (slice_get_within lines i line at_line) n (record { line = line; at = at; line_is = at_line; at_is = at_passed; number_is = at_number })

  later_number : (i at j n : ℕ) (line : Numbering) → slice_get lines i ≡ Some line → slice_get passed i ≡ Some at → slice_get line.numbers j ≡ Some n → at < j → head.number < n
  later_number i at j n line at_line at_passed at_number lt =
      let within = slice_get_within line.numbers j n at_number in
      let first = at_index line.numbers at (omega arith) in
      let le = next_number i at first.0 line at_line at_passed first.1 in
      let under = rise.each i line at j first.0 n (slice_get_within lines i line at_line) at_line lt first.1 at_number in
      omega arith

  -- a number up to that of the head has been passed, or is it, at the head of its line
  place_of_number : (i at j n : ℕ) (line : Numbering) → slice_get lines i ≡ Some line → slice_get passed i ≡ Some at → slice_get line.numbers j ≡ Some n → n ≤ head.number → (n ≤ last) ⊎ ((n ≡ head.number) × (j ≡ at))
  place_of_number i at j n line at_line at_passed at_number le = elim (less_or_not j at) [
    | inl under ↦ inl (h.before i at j n line at_line at_passed at_number under)
    | inr (inl over) ↦ absurd (let more = later_number i at j n line at_line at_passed at_number over in omega arith)
    | inr (inr same) ↦
        let here : slice_get line.numbers at ≡ Some n = rw same at at_number in
        let more = next_number i at n line at_line at_passed here in
        inr (omega arith, same)
  ]

  step_of : (i a b j n : ℕ) (line : Numbering) → slice_get lines i ≡ Some line → slice_get passed i ≡ Some a → slice_get line.numbers j ≡ Some n → IsStepOf line head.number a b → ((j < b → n ≤ head.number) × (b ≤ j → head.number < n))
  step_of i a b j n line at_line at_passed at_number (inl (is, more)) = (
    λ lt. elim (less_or_not j a) [
      | inl under ↦ let before = h.before i a j n line at_line at_passed at_number under in let above = head_is_above in omega arith
      | inr (inl over) ↦ absurd (omega arith)
      | inr (inr same) ↦ let one : n ≡ head.number = (let here : slice_get line.numbers a ≡ Some n = rw same at at_number in cc) in omega arith
    ],
    λ le. later_number i a j n line at_line at_passed at_number (omega arith),
  )
  step_of i a b j n line at_line at_passed at_number (inr (never, same)) = (
    λ lt. let before = h.before i a j n line at_line at_passed at_number (omega arith) in let above = head_is_above in omega arith,
    λ le. elim (less_or_not a j) [
      | inl under ↦ later_number i a j n line at_line at_passed at_number under
      | inr (inl over) ↦ absurd (omega arith)
      | inr (inr one) ↦
          let here : slice_get line.numbers a ≡ Some n = rw (← one) at at_number in
          let more = next_number i a n line at_line at_passed here in
          elim (less_or_not head.number n) [
            | inl above ↦ above
            | inr (inl below) ↦ absurd (omega arith)
            | inr (inr equal) ↦ absurd (never (rw (← equal) at here))
          ]
    ],
  )

  -- if the step was made in each line, the numbers up to that of the head were passed
  pub step_passed : (new : List ℕ) → IsStepped lines head.number passed new (length lines) → IsPassed lines new head.number
  step_passed new stepped = record {
    before = λ i b j n line at_line at_new at_number lt.
        let within = slice_get_within new i b at_new in
        let many = stepped.as_many in
        let old = at_index passed i (omega arith) in
        (step_of i old.0 b j n line at_line old.1 at_number (stepped.made i (slice_get_within lines i line at_line) old.0 b line at_line old.1 at_new)).0 lt;
    after = λ i b j n line at_line at_new at_number le.
        let within = slice_get_within new i b at_new in
        let many = stepped.as_many in
        let old = at_index passed i (omega arith) in
        (step_of i old.0 b j n line at_line old.1 at_number (stepped.made i (slice_get_within lines i line at_line) old.0 b line at_line old.1 at_new)).1 le;
  }

  -- an event up to the number of the head has been passed, or is the next one of its log and has this number
  pub passed_or_next : (run : List Log) → Rising run → Matches run lines → length passed ≡ length lines → (f : Place) (y : Entry) (n : ℕ) → Stands run lines f y n → n ≤ head.number
      → (n ≤ last) ⊎ ((n ≡ head.number) × (i : ℕ) × (i < length lines) × IsAhead run lines passed i f y n)
  passed_or_next run rising matches many f y n stands le =
      let l = locate run lines f y n rising matches stands in
      let within = slice_get_within lines l.index l.is.line l.is.line_is in
      let at = at_index passed l.index (omega arith) in
      elim (place_of_number l.index at.0 l.at n l.is.line l.is.line_is at.1 l.is.number_is le) [
        | inl before ↦ inl before
        | inr (same, here) ↦ inr (same, l.index, within, record { at = at.0; at_is = at.1; is = subst (λ (j : ℕ). IsIn run lines l.index j f y n) here l.is })
      ]

-- if no line has a number left, all were passed
pub all_passed : (run : List Log) (lines : List Numbering) (passed : List ℕ) (last : ℕ) → Rising run → Matches run lines → IsPassed lines passed last → length passed ≡ length lines → NoneLeftTo lines passed (length lines) → (f : Place) (y : Entry) (n : ℕ) → Stands run lines f y n → n ≤ last
all_passed run lines passed last rising matches h many none f y n stands =
    let l = locate run lines f y n rising matches stands in
    let within = slice_get_within lines l.index l.is.line l.is.line_is in
    let inside = slice_get_within l.is.line.numbers l.at n l.is.number_is in
    let at = at_index passed l.index (omega arith) in
    elim (less_or_not l.at at.0) [
      | inl under ↦ h.before l.index at.0 l.at n l.is.line l.is.line_is at.1 l.is.number_is under
      | inr rest ↦
          let le : at.0 ≤ l.at = elim rest [ inl over ↦ omega arith | inr same ↦ omega arith ] in
          let first = at_index l.is.line.numbers at.0 (omega arith) in
          absurd (none.never l.index within first.0 (record { line = l.is.line; at = at.0; line_is = l.is.line_is; at_is = at.1; number_is = first.1 }))
    ]

-- ---- the loop over the heads

-- two heads of one line are one
one_head : (lines : List Numbering) (passed : List ℕ) (i n m : ℕ) → IsHead lines passed i n → IsHead lines passed i m → n ≡ m
one_head lines passed i n m a b =
    let ones : a.line ≡ b.line = (let h = a.line_is in let k = b.line_is in cc) in
    let ats : a.at ≡ b.at = (let h = a.at_is in let k = b.at_is in cc) in
    let number : slice_get b.line.numbers b.at ≡ Some n = rw (← ones, ← ats) a.number_is in
    (let h = b.number_is in cc)

pub is_head : (lines : List Numbering) (passed : List ℕ) (i n : ℕ) (line : Numbering) → length passed ≡ length lines → i < length lines → line ≡ get_or lines i line → slice_get line.numbers (get_or passed i 0) ≡ Some n → IsHead lines passed i n
is_head lines passed i n line many lt read at_number = record { line = line; at = get_or passed i 0; line_is = slice_get_read lines _ i line refl lt read; at_is = slice_get-get_or passed i 0 (omega arith); number_is = at_number }

pub no_head : (lines : List Numbering) (passed : List ℕ) (i : ℕ) (line : Numbering) → length passed ≡ length lines → i < length lines → line ≡ get_or lines i line → slice_get line.numbers (get_or passed i 0) ≡ None → (m : ℕ) → IsHead lines passed i m → ⊥
no_head lines passed i line many lt read none m a =
    let ones : a.line ≡ line = (let h = a.line_is in let at_line = slice_get_read lines _ i line refl lt read in cc) in
    let ats : a.at ≡ get_or passed i 0 = (let h = a.at_is in let at_passed = slice_get-get_or passed i 0 (omega arith) in cc) in
    (let number : slice_get line.numbers (get_or passed i 0) ≡ Some m = rw (← ones, ← ats) a.number_is in cc)

pub skips_line : (lines : List Numbering) (passed : List ℕ) (k : ℕ) (least : Option Head) → ((m : ℕ) → IsHead lines passed k m → ⊥) → IsLeastTo lines passed k least → IsLeastTo lines passed (k + 1) least
skips_line lines passed k None never h = record { never = below_more (λ j. (m : ℕ) → IsHead lines passed j m → ⊥) k h.never never }
skips_line lines passed k (Some head) never h = record { is = h.is; least = below_more (λ j. (m : ℕ) → IsHead lines passed j m → head.number ≤ m) k h.least (λ m a. absurd (never m a)) }

-- a head that is as small as those before it and as this one
smallest : (lines : List Numbering) (passed : List ℕ) (k n : ℕ) (head : Head) → IsHead lines passed k n → IsHead lines passed head.log head.number → head.number ≤ n → ((j : ℕ) → j < k → (m : ℕ) → IsHead lines passed j m → head.number ≤ m) → IsLeastHead lines passed (k + 1) head
smallest lines passed k n head here is le others = record {
  is = is;
  least = below_more (λ j. (m : ℕ) → IsHead lines passed j m → head.number ≤ m) k others (λ m a. (let one : n ≡ m = one_head lines passed k n m here a in omega arith));
}

pub takes_line : (lines : List Numbering) (passed : List ℕ) (k n : ℕ) (least : Option Head) (head : Head) → IsHead lines passed k n → IsLesser least (record { log = k; number = n }) head → IsLeastTo lines passed k least → IsLeastTo lines passed (k + 1) (Some head)
takes_line lines passed k n None head here is h =
    subst (λ (z : Head). IsLeastHead lines passed (k + 1) z) (sym is) (smallest lines passed k n (record { log = k; number = n }) here here (omega arith) (λ j lt m a. absurd (h.never j lt m a)))
takes_line lines passed k n (Some old) head here (inl (le, is)) h =
    subst (λ (z : Head). IsLeastHead lines passed (k + 1) z) (sym is) (smallest lines passed k n old here h.is le h.least)
takes_line lines passed k n (Some old) head here (inr (under, is)) h =
    subst (λ (z : Head). IsLeastHead lines passed (k + 1) z) (sym is) (smallest lines passed k n (record { log = k; number = n }) here here (omega arith) (λ j lt m a. (let more = h.least j lt m a in omega arith)))

pub least_of_all : (lines : List Numbering) (passed : List ℕ) (k : ℕ) (least : Option Head) → length lines ≤ k → IsLeastTo lines passed k least → IsLeastTo lines passed (length lines) least
least_of_all lines passed k None end h = record { never = λ j lt m a. h.never j (omega arith) m a }
least_of_all lines passed k (Some head) end h = record { is = h.is; least = λ j lt m a. h.least j (omega arith) m a }

-- ---- the next events of the logs

-- two next events of one log are one
pub one_ahead : (run : List Log) (lines : List Numbering) (passed : List ℕ) (k : ℕ) (e f : Place) (x y : Entry) (n m : ℕ) → IsAhead run lines passed k e x n → IsAhead run lines passed k f y m → (e ≡ f) × (x ≡ y) × (n ≡ m)
one_ahead run lines passed k e f x y n m a b =
    let ats : a.at ≡ b.at = (let h = a.at_is in let i = b.at_is in cc) in
    one_in run lines k b.at e f x y n m (subst (λ (j : ℕ). IsIn run lines k j e x n) ats a.is) b.is

-- the number at the head of a line
pub ahead_number : (run : List Log) (lines : List Numbering) (passed : List ℕ) (i at n : ℕ) (line : Numbering) (f : Place) (y : Entry) → slice_get lines i ≡ Some line → slice_get passed i ≡ Some at → IsAhead run lines passed i f y n → slice_get line.numbers at ≡ Some n
ahead_number run lines passed i at n line f y at_line at_passed a =
    let ones : a.is.line ≡ line = (let h = a.is.line_is in cc) in
    let ats : a.at ≡ at = (let h = a.at_is in cc) in
    rw (← ones, ← ats) a.is.number_is

-- ---- a step

pub one_step : (lines : List Numbering) (k : ℕ) (old now new : List ℕ) (at a b : ℕ) (line : Numbering) → slice_get lines at ≡ Some line → slice_get now at ≡ Some a → slice_get new at ≡ Some b → IsStepOf line k a b → length new ≡ length now → ((i : ℕ) → i ≢ at → slice_get new i ≡ slice_get now i)
    → IsStepped lines k old now at → IsStepped lines k old new (at + 1)
one_step lines k old now new at a b line at_line at_now at_new is many others h = record {
  as_many = many ∙ h.as_many;
  made = below_more (λ i. (c d : ℕ) (g : Numbering) → slice_get lines i ≡ Some g → slice_get old i ≡ Some c → slice_get new i ≡ Some d → IsStepOf g k c d) at
      (λ i under c d g at_g at_c at_d. h.made i under c d g at_g at_c (sym (others i (λ e. omega arith)) ∙ at_d))
      (λ c d g at_g at_c at_d.
      let first : a ≡ c = (let here = h.left at c (omega arith) at_c in cc) in
      let second : b ≡ d = cc in
      let third : line ≡ g = cc in
      rw (← first, ← second, ← third) is);
  left = λ i c le at_c. others i (λ e. omega arith) ∙ h.left i c (omega arith) at_c;
}

-- a log that no step was made in yet
pub as_before : (lines : List Numbering) (k : ℕ) (old now : List ℕ) (end i a : ℕ) → IsStepped lines k old now end → end ≤ i → slice_get now i ≡ Some a → slice_get old i ≡ Some a
as_before lines k old now end i a h le at = (let was = at_index old i (let within = slice_get_within now i a at in let many = h.as_many in omega arith) in let still = h.left i was.0 le was.1 in let is = was.1 in cc)

pub ahead_before : (run : List Log) (lines : List Numbering) (k : ℕ) (old now : List ℕ) (end i : ℕ) (x : Entry) (n : ℕ) → IsStepped lines k old now end → end ≤ i → ((e : Place) × IsAhead run lines now i e x n) → (e : Place) × IsAhead run lines old i e x n
ahead_before run lines k old now end i x n h le (e, ahead) = (e, record { at = ahead.at; at_is = as_before lines k old now end i ahead.at h le ahead.at_is; is = ahead.is })

-- ---- what shares a number

pub ones_more : (run : List Log) (lines : List Numbering) (passed : List ℕ) (i k : ℕ) (x : Entry) (n : ℕ) → ((f : Place) (y : Entry) → IsAhead run lines passed i f y n → (i ≡ k) ⊎ AreOfOneClass y x) → AreOneBefore run lines passed i k x n → AreOneBefore run lines passed (i + 1) k x n
ones_more run lines passed i k x n own h = record { each = below_more (λ j. (f : Place) (y : Entry) → IsAhead run lines passed j f y n → (j ≡ k) ⊎ AreOfOneClass y x) i h.each own }

-- if the next entry of a log is of one class with x, each is
pub own_ahead : (run : List Log) (lines : List Numbering) (passed : List ℕ) (i k : ℕ) (x z : Entry) (n : ℕ) → ((g : Place) × IsAhead run lines passed i g z n) → AreOfOneClass z x → (f : Place) (y : Entry) → IsAhead run lines passed i f y n → (i ≡ k) ⊎ AreOfOneClass y x
own_ahead run lines passed i k x z n (g, a) own f y b = inr (subst (λ (w : Entry). AreOfOneClass w x) (one_ahead run lines passed i g f z y n n a b).1 own)

-- the next events of two logs are different
pub sharing : (run : List Log) (lines : List Numbering) (passed : List ℕ) (i k : ℕ) (x z : Entry) (n : ℕ) → Rising run → Matches run lines → i ≢ k → ((g : Place) × IsAhead run lines passed i g z n) → ((e : Place) × IsAhead run lines passed k e x n) → (AreOfOneClass z x → ⊥) → SomePair NumberIsShared run lines
sharing run lines passed i k x z n rising matches differ (g, a) (e, b) apart =
    some_pair NumberIsShared run lines g e z x n n (ahead_stands run lines passed i g z n rising matches a) (ahead_stands run lines passed k e x n rising matches b) (refl, other, apart)
  where
    other : g ≡ e → ⊥
    other same =
        let procs : a.is.log.proc ≡ b.is.log.proc = ap (λ (p : Place). p.proc) (a.is.place_is ∙ same ∙ sym b.is.place_is) in
        elim (less_or_not i k) [
          | inl lt ↦ (let under = in_order run i k a.is.log b.is.log rising a.is.log_is b.is.log_is lt in omega arith)
          | inr (inl gt) ↦ (let under = in_order run k i b.is.log a.is.log rising b.is.log_is a.is.log_is gt in omega arith)
          | inr (inr one) ↦ differ one
        ]

-- ---- a list that was written to

set_at : (xs : List ℕ) (i b : ℕ) → i < length xs → slice_get (slice_set xs i b) i ≡ Some b
set_at [] i b lt = absurd (omega arith)
set_at (x ∷ xs) zero b lt = refl
set_at (x ∷ xs) (suc i) b lt = set_at xs i b (omega arith)

set_off : (xs : List ℕ) (i u b : ℕ) → u ≢ i → slice_get (slice_set xs i b) u ≡ slice_get xs u
set_off [] i u b ne = refl
set_off (x ∷ xs) zero zero b ne = absurd (ne refl)
set_off (x ∷ xs) zero (suc u) b ne = refl
set_off (x ∷ xs) (suc i) zero b ne = refl
set_off (x ∷ xs) (suc i) (suc u) b ne = set_off xs i u b (λ e. ne (ap suc e))

-- the step in the line at k
pub steps : (lines : List Numbering) (k : ℕ) (old now : List ℕ) (at a : ℕ) (line : Numbering) → slice_get lines at ≡ Some line → slice_get now at ≡ Some a → slice_get line.numbers a ≡ Some k → IsStepped lines k old now at → IsStepped lines k old (slice_set now at (a + 1)) (at + 1)
steps lines k old now at a line at_line at_now at_number h =
    one_step lines k old now (slice_set now at (a + 1)) at a (a + 1) line at_line at_now (set_at now at (a + 1) (slice_get_within now at a at_now)) (inl (at_number, refl)) (length-set now at (a + 1)) (λ i ne. set_off now at i (a + 1) ne) h

pub stays : (lines : List Numbering) (k : ℕ) (old now : List ℕ) (at a : ℕ) (line : Numbering) → slice_get lines at ≡ Some line → slice_get now at ≡ Some a → (slice_get line.numbers a ≡ Some k → ⊥) → IsStepped lines k old now at → IsStepped lines k old now (at + 1)
stays lines k old now at a line at_line at_now never h = one_step lines k old now now at a a line at_line at_now at_now (inr (never, refl)) refl (λ i ne. refl) h

-- ---- the entry at a head

-- the index at a head
head_at : (lines : List Numbering) (passed : List ℕ) (i n at : ℕ) → (h : IsHead lines passed i n) → slice_get passed i ≡ Some at → h.at ≡ at
head_at lines passed i n at h is = (let k = h.at_is in cc)

pub ahead_of : (run : List Log) (lines : List Numbering) (passed : List ℕ) (i n at : ℕ) (log : Log) (x : Entry) → IsHead lines passed i n → slice_get run i ≡ Some log → slice_get passed i ≡ Some at → slice_get log.entries at ≡ Some x → (e : Place) × IsAhead run lines passed i e x n
ahead_of run lines passed i n at log x h at_log at_passed at_entry = (
  place log.proc at,
  record {
    at = at;
    at_is = at_passed;
    is = record { log = log; line = h.line; log_is = at_log; line_is = h.line_is; entry_is = at_entry; number_is = rw (head_at lines passed i n at h at_passed) at h.number_is; place_is = refl };
  },
)

-- the index at a head is one of its log
head_within : (run : List Log) (lines : List Numbering) (passed : List ℕ) (i n at : ℕ) (log : Log) → Matches run lines → IsHead lines passed i n → slice_get run i ≡ Some log → slice_get passed i ≡ Some at → at < length log.entries
head_within run lines passed i n at log matches h at_log at_passed =
    let both = matches_at run lines i log h.line matches at_log h.line_is in
    let here = head_at lines passed i n at h at_passed in
    let within = slice_get_within h.line.numbers h.at n h.number_is in
    omega (arith, both.1)

-- what the code reads at a head
pub record HeadRead (run : List Log) (passed : List ℕ) (i : ℕ) (log : Log) : Type 0 where
  pub log_is : slice_get run i ≡ Some log
  pub at_is : slice_get passed i ≡ Some (get_or passed i 0)
  pub within : get_or passed i 0 < length log.entries

pub head_read : (run : List Log) (lines : List Numbering) (passed : List ℕ) (i n : ℕ) (log : Log) → Matches run lines → IsHead lines passed i n → log ≡ get_or run i log → HeadRead run passed i log
head_read run lines passed i n log matches head read =
    let at_log = slice_get_read run _ i log refl (let lt = slice_get_within lines i head.line head.line_is in let many = as_many run lines matches in omega arith) read in
    let at_passed = slice_get-get_or passed i 0 (slice_get_within passed i head.at head.at_is) in
    record { log_is = at_log; at_is = at_passed; within = head_within run lines passed i n (get_or passed i 0) log matches head at_log at_passed }
