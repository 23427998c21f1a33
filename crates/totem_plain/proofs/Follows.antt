-- The last change of a log, and the next one.
use Rattle.totem_plain.proofs.Common.{◌≡◌, ℕ, ◌<◌, inl, inr, List, Option, Some, None, true, false, Bool, not, IsTrue, ◌↔◌, refl, arith, IfSome, IfNone, ConfId, Entry, ChangesTo, IsChange, IsFirstChange, IsNextChange, LastChange, less_or_not, one_next, IsSomeBefore, IsLastChangeBefore, no_is}
use Rattle.totem_search.specs.Following.{NoNextChange, NeverChangesTo}

pub one_change : (log : List Entry) (x : ConfId) (i : ℕ) → IsFirstChange log x i → IsTrue false ↔ NeverChangesTo log x
one_change log x i first = no_is (λ none. none.never i first.change)

pub last_or_next : (log : List Entry) (i j : ℕ) → IsNextChange log i j → IsTrue false ↔ NoNextChange log i
last_or_next log i j next = no_is (λ none. none.none j next.later next.change)

pub no_next : (log : List Entry) (i j : ℕ) → NoNextChange log i → IsTrue false ↔ IsNextChange log i j
no_next log i j none = no_is (λ next. none.none j next.later next.change)

pub next_told : (log : List Entry) (i j k : ℕ) (b : Bool) → IsNextChange log i k → IsTrue b ↔ (k ≡ j) → IsTrue b ↔ IsNextChange log i j
next_told log i j k b next tells = (λ t. rw (tells.0 t) at next, λ h. tells.1 (one_next log i k j next h))

pub last_change_before : (log : List Entry) (x : ConfId) (i end : ℕ) (next : Option ℕ) (before : Bool) → i < end → ChangesTo log i x → IfSome next (IsNextChange log i) → IfNone next (NoNextChange log i)
    → IsTrue before ↔ IsSomeBefore next end → IsTrue (not before) ↔ IsLastChangeBefore log x end i
last_change_before log x i end None true lt here some none tells = absurd (tells.0 refl)
last_change_before log x i end None false lt here some none tells = (λ t. (lt, here, λ k over under change. none.none k over change), λ h. refl)
last_change_before log x i end (Some j) true lt here some none tells = (λ t. absurd cc, λ h. absurd (h.2 j some.later (tells.0 refl) some.change))
last_change_before log x i end (Some j) false lt here some none tells = (
  λ t. (lt, here, λ k over under change. not_yet k over under change),
  λ h. refl,
)
  where
    not_yet : (k : ℕ) → i < k → k < end → IsChange log k → ⊥
    not_yet k over under change = elim (less_or_not k j) [
      | inl earlier ↦ some.none_between k over earlier change
      | inr (inl later) ↦ (let t = tells.1 (omega (arith, later, under)) in cc)
      | inr (inr same) ↦ (let t = tells.1 (omega (arith, same, under)) in cc)
    ]

pub same_last : (log : List Entry) (x y : ConfId) → LastChange log x → LastChange log y → x ≡ y
same_last log x y a b = elim (less_or_not a.index b.index) [
  | inl lt ↦ absurd (a.none_after b.index lt (y, b.change))
  | inr (inl gt) ↦ absurd (b.none_after a.index gt (x, a.change))
  | inr (inr same) ↦ (let here = (rw same at a.change).1 in let there = b.change.1 in cc)
]
