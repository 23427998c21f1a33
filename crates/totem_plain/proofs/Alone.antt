-- The specifications that one event breaks by itself: what breaks them is an event of the run, and where none does, the run meets them.
use Rattle.std.proofs.Common.{arith}
use Rattle.totem_plain.proofs.Common.{◌≡◌, ℕ, inl, inr, List, slice_get, Some, Bool, IsTrue, ◌↔◌, refl, slice_get_within, RingId, Regular, Entry, Conf, Send, Deliver, Log, log_of, EndsTogether, StaysInPlace, IsNotOwned, IsNotReached, IsNotInstalled, OwnDeliveryIn, SafetyIn, InstalledIn, IsOneEvent, HoldsOfNone, AreEvents, first_change_or_not, nowhere, told_at}
use Rattle.totem_evs.specs.ChangeFaults.{EndsAlone, IsMisplaced}
use Rattle.totem_evs.proofs.Originating.{change_or_not}
use Rattle.totem_plain.specs.Bad.{IsLoneEnd, IsUnowned, IsUnreached, IsUninstalled}
use Rattle.totem_plain.proofs.Deciding.{shares_end_or_not, stands_or_not, delivers_or_ends_or_not}

-- ---- 2.1

pub end_told : (run : List Log) (p i : ℕ) (x : Entry) (b : Bool) → slice_get (log_of run p) i ≡ Some x → IsTrue b ↔ IsLoneEnd run p (log_of run p) i x → IsTrue b ↔ EndsAlone run p i
end_told run p i x b at = grind (arith, told_at)

pub end_events : (run : List Log) → AreEvents run (EndsAlone run)
end_events run = record { each = λ p i (x, ms, q, quiet, last, member, strays). slice_get_within (log_of run p) i (Conf x ms) last.change }

pub all_end : (run : List Log) → HoldsOfNone (IsOneEvent (EndsAlone run)) → EndsTogether run
all_end run none p i x ms q quiet last member = elim (shares_end_or_not run x q) [ inl shares ↦ shares | inr strays ↦ absurd (nowhere (EndsAlone run) none p i (x, ms, q, quiet, last, member, strays)) ]

-- ---- 2.2

abbrev pub Misplaced : List Log → ℕ → ℕ → Type 0
Misplaced run p i = IsMisplaced (log_of run p) i

pub misplaced_events : (run : List Log) → AreEvents run (Misplaced run)
misplaced_events run = record { each = λ p i h. h.0 }

pub all_placed : (run : List Log) → HoldsOfNone (IsOneEvent (Misplaced run)) → (p : ℕ) → StaysInPlace (log_of run p)
all_placed run none p = record {
  begins = λ lt. elim (change_or_not (log_of run p) 0) [ inl change ↦ change | inr other ↦ absurd (bad 0 (lt, inl (refl, other))) ];
  named = λ i x names. elim (stands_or_not (log_of run p) i x) [
    | inl stands ↦ stands
    | inr elsewhere ↦ absurd (bad i (slice_get_within (log_of run p) i names.0 names.1, inr (inl (x, names, elsewhere))))
  ];
  final = λ i j x fails lt within. bad j (within, inr (inr (i, x, lt, fails)));
}
  where
    bad : (i : ℕ) → IsMisplaced (log_of run p) i → ⊥
    bad i h = nowhere (Misplaced run) none p i h

-- ---- 3

pub owned_told : (run : List Log) (c : RingId) (p i : ℕ) (x : Entry) (b : Bool) → slice_get (log_of run p) i ≡ Some x → IsTrue b ↔ IsUnowned run c p x → IsTrue b ↔ IsNotOwned run c p i
owned_told run c p i x b at = grind (arith, told_at)

pub owned_events : (run : List Log) (c : RingId) → AreEvents run (IsNotOwned run c)
owned_events run c = record { each = λ p i (m, (s, at), h). slice_get_within (log_of run p) i (Send m (Regular c) s) at }

pub all_owned : (run : List Log) (c : RingId) → HoldsOfNone (IsOneEvent (IsNotOwned run c)) → OwnDeliveryIn run c
all_owned run c none = record {
  each = λ p i m sends. elim (delivers_or_ends_or_not run p c m) [ inl h ↦ h | inr not ↦ absurd (nowhere (IsNotOwned run c) none p i (m, sends, not)) ];
}

-- ---- 7.1

pub reached_told : (run : List Log) (c : RingId) (p i : ℕ) (x : Entry) (b : Bool) → slice_get (log_of run p) i ≡ Some x → IsTrue b ↔ IsUnreached run c (log_of run p) x → IsTrue b ↔ IsNotReached run c p i
reached_told run c p i x b at = grind (arith, told_at)

pub reached_events : (run : List Log) (c : RingId) → AreEvents run (IsNotReached run c)
reached_events run c = record { each = λ p i (m, d, q, safe, at, inside, member, never). slice_get_within (log_of run p) i (Deliver m d) at }

pub all_reached : (run : List Log) (c : RingId) → HoldsOfNone (IsOneEvent (IsNotReached run c)) → SafetyIn run c
all_reached run c none = record {
  each = λ m p i d q safe at inside member. elim (delivers_or_ends_or_not run q c m) [ inl h ↦ h | inr not ↦ absurd (nowhere (IsNotReached run c) none p i (m, d, q, safe, at, inside, member, not)) ];
}

-- ---- 7.2

pub installed_told : (run : List Log) (c : RingId) (p i : ℕ) (x : Entry) (b : Bool) → slice_get (log_of run p) i ≡ Some x → IsTrue b ↔ IsUninstalled run c x → IsTrue b ↔ IsNotInstalled run c p i
installed_told run c p i x b at = told_at (log_of run p) i x (IsUninstalled run c) (IsNotInstalled run c p i) b at (to x at) (λ (m, q, safe, at, member, never). (Deliver m (Regular c), at, (refl, record { safe = safe; missed = (q, member, record { never = never }) })))
  where
    to : (x : Entry) → slice_get (log_of run p) i ≡ Some x → IsUninstalled run c x → IsNotInstalled run c p i
    to (Deliver m d) at (same, h) = let (q, member, none) = h.missed in (m, q, h.safe, rw same at at, rw same at member, rw same at none.never)
    to x at h = absurd h

pub installed_events : (run : List Log) (c : RingId) → AreEvents run (IsNotInstalled run c)
installed_events run c = record { each = λ p i (m, q, safe, at, member, never). slice_get_within (log_of run p) i (Deliver m (Regular c)) at }

pub all_installed : (run : List Log) (c : RingId) → HoldsOfNone (IsOneEvent (IsNotInstalled run c)) → InstalledIn run c
all_installed run c none = record {
  each = λ m p i q safe at member. elim (first_change_or_not (log_of run q) (Regular c)) [ inl (i, first) ↦ (i, first.change) | inr not ↦ absurd (nowhere (IsNotInstalled run c) none p i (m, q, safe, at, member, not)) ];
}
