-- Which classes are ready, found from the counts of what keeps them back.
use Rattle.totem_cert.proofs.Common.{◌≡◌, ℕ, zero, suc, ◌+◌, ◌<◌, ◌≤◌, ◌⊎◌, inl, inr, List, [], ◌∷◌, length, get_or, slice_get, Option, Some, None, Bool, IsTrue, ◌↔◌, refl, sym, ◌∙◌, ap, arith, common_steps, eq-zero-or-pos, lt_of_not-le, slice_get_within, Place, Entry, Log, Numbering, Rising, Table, place, Fits, IsFree, IsReady, given_at, class_at, class_in, class_fed, one, kept_behind, kept_in, kept_at, kept_by, Counts}
use Rattle.totem_table.specs.Tables.{IsTable, IsEntryAt, number_at}
use Rattle.totem_cert.proofs.CountingOne.{one_cases}
use Rattle.totem_cert.proofs.Lists.{at_index, unless_past}
use Rattle.totem_cert.proofs.LineFacts.{log_index}
use Rattle.totem_cert.proofs.LogHeads.{free_ready, ready_free}
use Rattle.totem_cert.proofs.Classes.{alone_fed, alone_itself, in_class, class_from, feeds_in, in_feeds}
use Rattle.totem_cert.proofs.Sums.{sum_zero, sum_some}

one_some : (o : Option ℕ) (c : ℕ) → 0 < one o c → o ≡ Some c
one_some o c some = grind (arith, common_steps)

one_self : (c : ℕ) → one (Some c) c ≡ 1
one_self c = elim (one_cases c c) [ inl (same, is) ↦ is | inr (other, is) ↦ absurd (other refl) ]

either : (a b : ℕ) → 0 < a + b → (0 < a) ⊎ (0 < b)
either a b some = grind arith

-- an entry keeps the class that it feeds, and unless it is a head, its own
abbrev Keeps : ℕ → ℕ → ℕ → ℕ → Entry → ℕ → Type 0
Keeps messages c given i y n = ((class_fed y n ≡ Some c) × (given ≤ i)) ⊎ ((class_in messages y n ≡ Some c) × (given < i))

behind_there : (messages c i : ℕ) (es : List Entry) (ns : List ℕ) (y : Entry) → length es ≡ length ns → slice_get es i ≡ Some y → (class_fed y (get_or ns i 0) ≡ Some c) ⊎ (class_in messages y (get_or ns i 0) ≡ Some c) → 0 < kept_behind messages es ns c
behind_there messages c i [] ns y long at is = absurd cc
behind_there messages c i (x ∷ xs) [] y long at is = absurd (omega arith)
behind_there messages c zero (x ∷ xs) (n ∷ ns) y long at is = grind (arith, one_self)
behind_there messages c (suc i) (x ∷ xs) (n ∷ ns) y long at is = grind (arith, behind_there messages c i xs ns y)

behind_some : (messages c : ℕ) (es : List Entry) (ns : List ℕ) → 0 < kept_behind messages es ns c → (i : ℕ) × (y : Entry) × (slice_get es i ≡ Some y) × ((class_fed y (get_or ns i 0) ≡ Some c) ⊎ (class_in messages y (get_or ns i 0) ≡ Some c))
behind_some messages c [] ns some = absurd (omega arith)
behind_some messages c (x ∷ xs) [] some = absurd (omega arith)
behind_some messages c (x ∷ xs) (n ∷ ns) some = elim (either (one (class_fed x n) c + one (class_in messages x n) c) (kept_behind messages xs ns c) some) [
  | inl here ↦ (0, x, refl, elim (either (one (class_fed x n) c) (one (class_in messages x n) c) here) [ inl fed ↦ inl (one_some (class_fed x n) c fed) | inr shared ↦ inr (one_some (class_in messages x n) c shared) ])
  | inr rest ↦ (let (i, y, at, is) = behind_some messages c xs ns rest in (suc i, y, at, is))
]

kept_there : (messages c given i : ℕ) (es : List Entry) (ns : List ℕ) (y : Entry) → length es ≡ length ns → slice_get es i ≡ Some y → Keeps messages c given i y (get_or ns i 0) → 0 < kept_in messages given es ns c
kept_there messages c given i [] ns y long at keeps = absurd cc
kept_there messages c given i (x ∷ xs) [] y long at keeps = absurd (omega arith)
kept_there messages c zero zero (x ∷ xs) (n ∷ ns) y long at keeps = grind (arith, one_self)
kept_there messages c zero (suc i) (x ∷ xs) (n ∷ ns) y long at keeps = grind (arith, behind_there messages c i xs ns y)
kept_there messages c (suc given) zero (x ∷ xs) (n ∷ ns) y long at keeps = grind arith
kept_there messages c (suc given) (suc i) (x ∷ xs) (n ∷ ns) y long at keeps = grind (arith, kept_there messages c given i xs ns y)

kept_some : (messages c given : ℕ) (es : List Entry) (ns : List ℕ) → 0 < kept_in messages given es ns c → (i : ℕ) × (y : Entry) × (slice_get es i ≡ Some y) × Keeps messages c given i y (get_or ns i 0)
kept_some messages c given [] ns some = absurd (omega arith)
kept_some messages c given (x ∷ xs) [] some = absurd (omega arith)
kept_some messages c zero (x ∷ xs) (n ∷ ns) some = elim (either (one (class_fed x n) c) (kept_behind messages xs ns c) some) [
  | inl here ↦ (0, x, refl, inl (one_some (class_fed x n) c here, omega arith))
  | inr rest ↦ (let (i, y, at, is) = behind_some messages c xs ns rest in
      (suc i, y, at, elim is [ inl fed ↦ inl (fed, omega arith) | inr shared ↦ inr (shared, omega arith) ]))
]
kept_some messages c (suc given) (x ∷ xs) (n ∷ ns) some =
    let (i, y, at, keeps) = kept_some messages c given xs ns some in
    (suc i, y, at, elim keeps [ inl (is, le) ↦ inl (is, omega arith) | inr (is, lt) ↦ inr (is, omega arith) ])

module _ (run : List Log) (table : Table) (rising : Rising run) (is : IsTable run table) (lines : List Numbering) (fits : Fits run lines) where
  module _ (k i : ℕ) (x : Entry) (a : IsEntryAt run k i x) (c : ℕ) (in_c : class_at table k i x ≡ Some c) where
    -- no entry keeps the class if the sum is zero
    never : kept_by run table lines c ≡ 0 → (l j : ℕ) (y : Entry) → IsEntryAt run l j y → Keeps (length table.messages.items) c (given_at lines l) j y (number_at table l j) → ⊥
    never none l j y b keeps =
        let at_l : kept_at run table (given_at lines l) c l ≡ 0 = sum_zero (length run) l (λ k. kept_at run table (given_at lines k) c k) none (slice_get_within run l b.log b.is_log) in
        let in_l : kept_in (length table.messages.items) (given_at lines l) b.log.entries (get_or table.rows.items l []) c ≡ 0 = rw b.is_log at at_l in
        let some = kept_there (length table.messages.items) c (given_at lines l) j b.log.entries (get_or table.rows.items l []) y (is.rows.each l b.log b.is_log).long b.is_entry keeps in
        omega arith

    none_kept : kept_by run table lines c ≡ 0 → IsFree run lines (place a.log.proc i) x
    none_kept none = record {
      mates = λ l j y b shares. unless_past j (given_at lines l) (λ lt. never none l j y b (inr (class_from run table rising is k i x a c in_c l j y b shares, lt)));
      sends = λ l j y b feeds. lt_of_not-le (λ le. never none l j y b (inl (feeds_in run table is k i l j c y x a b in_c feeds, le)));
    }

    some_kept : 0 < kept_by run table lines c → (l j : ℕ) × (y : Entry) × IsEntryAt run l j y × Keeps (length table.messages.items) c (given_at lines l) j y (number_at table l j)
    some_kept some = grind (arith, sum_some, at_index, kept_some)

    pub ready_counted : (counts : List ℕ) (r : Bool) → given_at lines k ≤ i → Counts run table lines counts → c < length counts → (IsTrue r ↔ (get_or counts c 0 ≡ 0)) → IsTrue r ↔ IsReady run lines (place a.log.proc i)
    ready_counted counts r past counted within decides = (
      λ t. free_ready run lines rising fits k i x a past (none_kept (sym (counted.each c within) ∙ decides.0 t)),
      λ ready. decides.1 (elim (eq-zero-or-pos (get_or counts c 0)) [
        | inl none ↦ none
        | inr some ↦ absurd (
            let free = ready_free run lines rising fits k i x a ready in
            let (l, j, y, b, keeps) = some_kept (rw (counted.each c within) at some) in
            elim keeps [
              | inl (fed, le) ↦ (let lt = free.sends l j y b (in_feeds run table is k i l j c x y a b in_c fed) in omega arith)
              | inr (shared, lt) ↦ (let le = free.mates l j y b (in_class run table rising is k i x a c in_c l j y b shared) in omega arith)
            ])
      ]),
    )

  -- a head that is alone in its class is ready
  pub alone_ready : (k i : ℕ) (x : Entry) (a : IsEntryAt run k i x) → given_at lines k ≡ i → class_at table k i x ≡ None → IsReady run lines (place a.log.proc i)
  alone_ready k i x a head alone = free_ready run lines rising fits k i x a (omega arith) (record {
    mates = λ l j y b shares.
        let same = alone_itself run table rising is k i x a (place b.log.proc j) alone shares in
        let one : l ≡ k = log_index run l k b.log a.log rising b.is_log a.is_log (sym (ap (λ (e : Place). e.proc) same)) in
        let at : suc i ≡ suc j = ap (λ (e : Place). e.at) same in
        rw one (omega arith);
    sends = λ l j y b feeds. absurd (alone_fed (length table.messages.items) (number_at table k i) y x alone feeds);
  })
