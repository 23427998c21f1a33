-- Events by the index of their log, and the order of their numbers.
use Rattle.totem_judge.proofs.Common.{◌≡◌, inl, inr, ℕ, ◌<◌, List, length, slice_get, Some, refl, sym, ◌∙◌, ap, subst, arith, ◌⊎◌, ◌≤◌, ◌↔◌, slice_get_within, ConfId, MsgId, Entry, Conf, Deliver, Log, log_of, Numbering, Matches, Certified, Rising, log_of_at, less_or_not, Stands, place, RisesBefore, IsLogAt, one_at, IsEventAt}
use Rattle.totem_outcome.proofs.Matching.{line_at, matches_at}
use Rattle.totem_outcome.proofs.Standing.{at_index, stands_at}

pub below_or_not : (a b : ℕ) → (a < b) ⊎ (b ≤ a)
below_or_not a b = grind arith

pub entries_of : (run : List Log) (l p : ℕ) → Rising run → (at : IsLogAt run l p) → log_of run p ≡ at.log.entries
entries_of run l p rising at = subst (λ (q : ℕ). log_of run q ≡ at.log.entries) at.proc (log_of_at run l at.log rising at.stands)

-- the entry of an event is in its process's log
pub entry_of : (run : List Log) (lines : List Numbering) (l p i : ℕ) (x : Entry) (n : ℕ) → Rising run → IsLogAt run l p → IsEventAt run lines l i x n → slice_get (log_of run p) i ≡ Some x
entry_of run lines l p i x n rising at event =
    let same : event.log ≡ at.log = one_at run l event.log at.log event.log_is at.stands in
    ap (λ (es : List Entry). slice_get es i) (entries_of run l p rising at ∙ ap (λ (log : Log). log.entries) (sym same)) ∙ event.entry_is

-- an entry has a number
pub event_of : (run : List Log) (lines : List Numbering) (l p i : ℕ) (x : Entry) → Rising run → Matches run lines → IsLogAt run l p → slice_get (log_of run p) i ≡ Some x → (n : ℕ) × IsEventAt run lines l i x n
event_of run lines l p i x rising matches at entry =
    let here : slice_get at.log.entries i ≡ Some x = ap (λ (es : List Entry). slice_get es i) (sym (entries_of run l p rising at)) ∙ entry in
    let line = line_at run lines l at.log matches at.stands in
    let same = (matches_at run lines l at.log line.0 matches at.stands line.1).1 in
    let number = at_index line.0.numbers i (omega (arith, same, slice_get_within at.log.entries i x here)) in
    (number.0, record { log = at.log; line = line.0; log_is = at.stands; line_is = line.1; entry_is = here; number_is = number.1 })

pub one_event : (run : List Log) (lines : List Numbering) (l i : ℕ) (x y : Entry) (n m : ℕ) → IsEventAt run lines l i x n → IsEventAt run lines l i y m → (x ≡ y) × (n ≡ m)
one_event run lines l i x y n m a b = grind (arith, one_at)

-- ---- their places

pub stands : (run : List Log) (lines : List Numbering) (l p i : ℕ) (x : Entry) (n : ℕ) → Rising run → Matches run lines → IsLogAt run l p → IsEventAt run lines l i x n → Stands run lines (place p i) x n
stands run lines l p i x n rising matches at event =
    let same : event.log ≡ at.log = one_at run l event.log at.log event.log_is at.stands in
    let procs : event.log.proc ≡ p = ap (λ (log : Log). log.proc) same ∙ at.proc in
    subst (λ (q : ℕ). Stands run lines (place q i) x n) procs (stands_at run lines l i event.log event.line x n rising matches event.log_is event.line_is event.entry_is event.number_is)

module _ (run : List Log) (lines : List Numbering) (rising : Rising run) (certified : Certified run lines) where
  -- the later of two events of a log has the greater number
  pub later_above : (l p i j : ℕ) (x y : Entry) (n m : ℕ) → IsLogAt run l p → IsEventAt run lines l i x n → IsEventAt run lines l j y m → i < j → n < m
  later_above l p i j x y n m at first second lt =
      let a = stands run lines l p i x n rising certified.matches at first in
      let b = stands run lines l p j y m rising certified.matches at second in
      let below = certified.rises (place p i) (place p j) (x, a.entry) (y, b.entry) (refl, omega arith) in
      let is_n : below.0 ≡ n = (let h = below.2 in let k = a.number in cc) in
      let is_m : below.1 ≡ m = (let h = below.3 in let k = b.number in cc) in
      omega (arith, below.4, is_n, is_m)

  -- and so of two events of a log the one with the lesser number is first
  pub in_order : (l p i j : ℕ) (x y : Entry) (n m : ℕ) → IsLogAt run l p → IsEventAt run lines l i x n → IsEventAt run lines l j y m → (i < j) ↔ (n < m)
  in_order l p i j x y n m at first second = (later_above l p i j x y n m at first second, back)
    where
      back : n < m → i < j
      back lt = elim (less_or_not i j) [
        | inl under ↦ under
        | inr (inl over) ↦ absurd (omega (arith, lt, later_above l p j i y x m n at second first over))
        | inr (inr same) ↦ absurd (let e = (one_event run lines l i x y n m first (subst (λ (k : ℕ). IsEventAt run lines l k y m) (sym same) second)).1 in omega (arith, lt, e))
      ]

  -- deliveries of one message share their number
  pub one_number : (k l p q i j : ℕ) (m : MsgId) (x y : ConfId) (a b : ℕ) → IsLogAt run k p → IsLogAt run l q → IsEventAt run lines k i (Deliver m x) a → IsEventAt run lines l j (Deliver m y) b → a ≡ b
  one_number k l p q i j m x y a b at_p at_q first second =
      let e = stands run lines k p i (Deliver m x) a rising certified.matches at_p first in
      let f = stands run lines l q j (Deliver m y) b rising certified.matches at_q second in
      let same = certified.shared (place p i) (place q j) (inr (m, (x, e.entry), (y, f.entry))) in
      let both : Some a ≡ Some b = sym e.number ∙ same ∙ f.number in
      cc

  -- so do changes to one configuration
  pub one_change_number : (k l p q i j : ℕ) (x : ConfId) (ms ns : List ℕ) (a b : ℕ) → IsLogAt run k p → IsLogAt run l q → IsEventAt run lines k i (Conf x ms) a → IsEventAt run lines l j (Conf x ns) b → a ≡ b
  one_change_number k l p q i j x ms ns a b at_p at_q first second =
      let e = stands run lines k p i (Conf x ms) a rising certified.matches at_p first in
      let f = stands run lines l q j (Conf x ns) b rising certified.matches at_q second in
      let same = certified.shared (place p i) (place q j) (inl (x, (ms, e.entry), (ns, f.entry))) in
      let both : Some a ≡ Some b = sym e.number ∙ same ∙ f.number in
      cc

-- ---- lists of ascending numbers

pub same_index : (numbers : List ℕ) (j k n m : ℕ) → RisesBefore numbers (length numbers) → slice_get numbers j ≡ Some n → slice_get numbers k ≡ Some m → n ≡ m → j ≡ k
same_index numbers j k n m rise at_j at_k same = grind (arith, less_or_not, slice_get_within)

pub by_number : (numbers : List ℕ) (j k n m : ℕ) → RisesBefore numbers (length numbers) → slice_get numbers j ≡ Some n → slice_get numbers k ≡ Some m → (n < m) ↔ (j < k)
by_number numbers j k n m rise at_j at_k = grind (arith, slice_get_within, less_or_not, one_at)
