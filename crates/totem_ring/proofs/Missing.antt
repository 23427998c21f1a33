-- The walk over the missing numbers.
use Rattle.totem_ring.proofs.Common.{◌≡◌, ℕ, zero, suc, ◌+◌, ◌-◌, ◌<◌, ◌≤◌, List, [], ◌∷◌, ◌++◌, length, Bool, true, false, not, cond, refl, sym, ◌∙◌, ap, arith, le-ltb, filter, cases_lt, with_number, numbers_above, with_requests, Body, Ring, Held, holds, aru_of, missing, numbered}
use Rattle.std.proofs.lemmas.Grind.{common_steps}
use Rattle.totem_ring.proofs.Rising.{whole_holds}
use Rattle.std.proofs.lemmas.Bool.Decides.{nat_tests}

-- what is missing above n
abbrev pub gaps : Held → ℕ → ℕ → List ℕ
gaps held n seq = filter (λ k. not (holds held k)) (numbers_above n (seq - n))

counted : (n seq : ℕ) → n < seq → numbers_above n (seq - n) ≡ (n + 1) ∷ numbers_above (n + 1) (seq - (n + 1))
counted n seq lt = let more : seq - n ≡ suc (seq - (n + 1)) = omega arith in ap (numbers_above n) more

gap_held : (held : Held) (n seq : ℕ) (b : Bool) → n < seq → holds held (n + 1) ≡ b → gaps held n seq ≡ cond (not b) ((n + 1) ∷ gaps held (n + 1) seq) (gaps held (n + 1) seq)
gap_held held n seq b lt is = grind (arith, counted)

no_gaps : (held : Held) (n seq : ℕ) → seq ≤ n → gaps held n seq ≡ []
no_gaps held n seq le = let none : seq - n ≡ 0 = omega arith in ap (λ count. filter (λ k. not (holds held k)) (numbers_above n count)) none

-- up to the aru nothing is missing
gaps_from : (held : Held) (seq k : ℕ) → k ≤ aru_of held → gaps held k seq ≡ gaps held 0 seq
gaps_from held seq zero le = refl
gaps_from held seq (suc k) le = grind (arith, cases_lt k seq, whole_holds 0 (k + 1) held, gap_held held k seq true, no_gaps, gaps_from held seq k)

-- the requests so far with those still to be added
pub record IsAsking (rtr before : List ℕ) (held : Held) (n seq : ℕ) : Type 0 where
  pub all : with_requests rtr (gaps held n seq) ≡ with_requests before (missing held seq)

pub asking_starts : (rtr : List ℕ) (held : Held) (n seq : ℕ) → n ≡ aru_of held → IsAsking rtr rtr held n seq
asking_starts rtr held n seq is = grind (arith, gaps_from)

full_stays : (rtr ns : List ℕ) → 64 ≤ length rtr → with_requests rtr ns ≡ rtr
full_stays rtr [] full = refl
full_stays rtr (n ∷ ns) full = ap (λ (b : Bool). with_requests (cond b (with_number rtr n) rtr) ns) (le-ltb (length rtr) 64 full) ∙ full_stays rtr ns full

pub asking_full : (rtr before : List ℕ) (held : Held) (n seq : ℕ) → IsAsking rtr before held n seq → 64 ≤ length rtr → rtr ≡ with_requests before (missing held seq)
asking_full rtr before held n seq h full = sym (full_stays rtr (gaps held n seq) full) ∙ h.all

pub asking_past : (rtr before : List ℕ) (held : Held) (n seq : ℕ) → IsAsking rtr before held n seq → n < seq → holds held (n + 1) ≡ true → IsAsking rtr before held (n + 1) seq
asking_past rtr before held n seq h lt at = record { all = sym (ap (with_requests rtr) (gap_held held n seq true lt at)) ∙ h.all }

pub asking_more : (rtr more before : List ℕ) (held : Held) (n seq : ℕ) → IsAsking rtr before held n seq → n < seq → holds held (n + 1) ≡ false → length rtr < 64 → more ≡ with_number rtr (n + 1) → IsAsking more before held (n + 1) seq
asking_more rtr more before held n seq h lt at room is = grind (arith, nat_tests, ap (with_requests rtr) (gap_held held n seq false lt at))

pub asking_there : (rtr before : List ℕ) (held : Held) (n seq : ℕ) → IsAsking rtr before held n seq → n < seq → holds held (n + 1) ≡ false → length rtr < 64 → with_number rtr (n + 1) ≡ rtr → IsAsking rtr before held (n + 1) seq
asking_there rtr before held n seq h lt at room is = asking_more rtr rtr before held n seq h lt at room (sym is)

-- one more number is given
pub numbered_push : (s : Ring) (seq : ℕ) (bodies : List Body) (body : Body) → numbered s seq (bodies ++ body ∷ []) ≡ numbered s seq bodies ++ record { ring = s.ring; number = (seq + length bodies) + 1; sender = s.me; body = body } ∷ []
numbered_push s seq [] body = grind arith
numbered_push s seq (b ∷ bs) body = grind (arith, numbered_push s (seq + 1) bs body)

pub ruleset numbering = (common_steps, numbered_push)

pub ruleset asking = (asking_starts, asking_full, asking_past, asking_more, asking_there)
