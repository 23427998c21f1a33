-- Going from stay to stay: the least list that is found is the least of all; how lists of places continue, lists of one event, and the
-- stay of a process.
use Rattle.totem_pass_d.proofs.Common.{◌≡◌, ℕ, ◌+◌, ◌<◌, ◌≤◌, inl, inr, List, ◌∷◌, length, slice_get, Some, refl, ap, arith, below_more, [], Result, Ok, Err, Option, None, IfOk, MatchOption, slice_get_within, get_or_from_slice_get, RingId, Place, Log, ComesFirst, IsLeast, FindsIn, place, NoneFrom, HoldsOfNone, IsOneEvent, event_at, less_or_not, AreStays, IsAmong, NeverComes, IsInside, EachBeginsWithin, NoneBelow, NoneWithin, IsLeastWithin, IsOfOne, IsBrokenAlone, EachStandsInside, BeginsWithin, BreaksIn, MeetsIn, ConfId, log_of, Names, Com}
use Rattle.totem_pass_d.specs.declared.stays.Stay.{Stay}
use Rattle.totem_evs.specs.declared.spec.SpecNo.{SpecNo}
use Rattle.std.specs.declared.alloc.AllocError.{AllocError}
use Rattle.totem_pass_d.proofs.Facts.{Facts}

pub none_inside_more : (H : List Place → Type 0) (stay : Stay) (n : ℕ) → NoneFrom H stay.proc n → NoneBelow IsInside H stay n → NoneBelow IsInside H stay (n + 1)
none_inside_more H stay n here before = record { none = below_more _ _ before.none (λ rest inside h. here.none rest h) }

-- stay by stay: no list that starts in a stay before the k-th is in the relation
pub record NoneBefore (stays : List Stay) (Reaches : Stay → ℕ → Type 0) (H : List Place → Type 0) (k : ℕ) : Type 0 where
  pub none : (j : ℕ) → j < k → (i : ℕ) (stay : Stay) (rest : List Place) → slice_get stays j ≡ Some stay → Reaches stay i → H (place stay.proc i ∷ rest) → ⊥

pub none_before_more : (stays : List Stay) (Reaches : Stay → ℕ → Type 0) (H : List Place → Type 0) (k : ℕ) (stay : Stay) → slice_get stays k ≡ Some stay → NoneWithin Reaches H stay → NoneBefore stays Reaches H k → NoneBefore stays Reaches H (k + 1)
none_before_more stays Reaches H k stay at here before = grind arith

pub none_at_end : (stays : List Stay) (Reaches : Stay → ℕ → Type 0) (H : List Place → Type 0) (k : ℕ) → length stays ≤ k → EachBeginsWithin stays Reaches H → NoneBefore stays Reaches H k → HoldsOfNone H
none_at_end stays Reaches H k end begins before = grind (arith, slice_get_within)

-- of two stays the earlier is that of the lesser process
rises : (run : List Log) (c : RingId) (stays : List Stay) (j k : ℕ) (a b : Stay) → AreStays run c stays → slice_get stays j ≡ Some a → slice_get stays k ≡ Some b → j < k → a.proc < b.proc
rises run c stays j k a b are at_j at_k lt =
    let h = are.rising j k a lt (slice_get_within stays k b at_k) in
    rw (get_or_from_slice_get stays j a a at_j, get_or_from_slice_get stays k b a at_k) at h

pub least_here : (run : List Log) (c : RingId) (stays : List Stay) (Reaches : Stay → ℕ → Type 0) (H : List Place → Type 0) (k : ℕ) (stay : Stay) (places : List Place) → AreStays run c stays → slice_get stays k ≡ Some stay
    → EachBeginsWithin stays Reaches H → IsLeastWithin Reaches H stay places → NoneBefore stays Reaches H k → IsLeast H places
least_here run c stays Reaches H k stay places are at begins here before = record {
  holds = rw here.is here.least.least.holds;
  first = λ others h. let b = begins.each others h in rw (here.is, b.is) (go b.stay b.among b.index b.reached b.rest (rw b.is at h));
}
  where
    in_this : (other : Stay) (i : ℕ) (rest : List Place) → other ≡ stay → Reaches other i → H (place other.proc i ∷ rest) → ComesFirst (place stay.proc here.at ∷ here.rest) (place other.proc i ∷ rest)
    in_this other i rest one reached h = grind (arith, less_or_not)

    go : (other : Stay) → IsAmong stays other → (i : ℕ) → Reaches other i → (rest : List Place) → H (place other.proc i ∷ rest) → ComesFirst (place stay.proc here.at ∷ here.rest) (place other.proc i ∷ rest)
    go other among i reached rest h = elim (less_or_not among.at k) [
      | inl under ↦ absurd (before.none among.at under i other rest among.stands reached h)
      | inr (inl over) ↦ inl (inl (rises run c stays k among.at stay other are at among.stands over))
      | inr (inr same) ↦ in_this other i rest (let there : slice_get stays k ≡ Some other = rw same at among.stands in cc) reached h
    ]

-- ---- the stay of a process

-- none of the stays before the n-th is p's
pub record NotBefore (stays : List Stay) (p n : ℕ) : Type 0 where
  pub none : (k : ℕ) → k < n → (s : Stay) → slice_get stays k ≡ Some s → s.proc ≡ p → ⊥

pub not_one_more : (stays : List Stay) (p n : ℕ) (s : Stay) → slice_get stays n ≡ Some s → (s.proc ≡ p → ⊥) → NotBefore stays p n → NotBefore stays p (n + 1)
not_one_more stays p n s at other before = record { none = below_more _ _ before.none (λ t at_n same. (let one : s ≡ t = cc in other (rw one same))) }

pub never_comes : (run : List Log) (c : RingId) (stays : List Stay) (p n : ℕ) → AreStays run c stays → length stays ≤ n → NotBefore stays p n → NeverComes run c p
never_comes run c stays p n are end before = record {
  never = λ i change. (let h = are.whole p i change in before.none h.at (omega (arith, slice_get_within stays h.at h.stay h.stands)) h.stay h.stands h.proc);
}

-- ---- lists of one event

-- no event of the stay has the property
pub no_event : (Reaches : Stay → ℕ → Type 0) (Fact : ℕ → ℕ → Type 0) (stay : Stay) → ((i : ℕ) → Fact stay.proc i → ⊥) → NoneWithin Reaches (IsOneEvent Fact) stay
no_event Reaches Fact stay never = record { none = λ i rest reached h. never i (event_at Fact stay.proc i rest h) }

-- one event of the stay has it
pub only_event : (Reaches : Stay → ℕ → Type 0) (Fact : ℕ → ℕ → Type 0) (stay : Stay) (k : ℕ) (places : List Place) → Fact stay.proc k → ((i : ℕ) → Fact stay.proc i → i ≡ k) → places ≡ place stay.proc k ∷ []
    → IsLeastWithin Reaches (IsOneEvent Fact) stay places
only_event Reaches Fact stay k places fact one is = grind (arith, event_at)

pub begins_inside : (Fact : ℕ → ℕ → Type 0) (stays : List Stay) → EachStandsInside stays Fact → EachBeginsWithin stays IsInside (IsOneEvent Fact)
begins_inside Fact stays stand = grind arith

least_of_one : (H : List Place → Type 0) (Fact : ℕ → ℕ → Type 0) (places : List Place) → IsOfOne H Fact → IsLeast (IsOneEvent Fact) places → IsLeast H places
least_of_one H Fact places of least = grind arith

-- what the result of a search for one event says about a specification
pub finds_event : {F : Type 0} (run : List Log) (c : RingId) (stays : List Stay) (k : SpecNo) (r : Result (Option (List Place)) F) (Fact : ℕ → ℕ → Type 0) → IsBrokenAlone run c stays k Fact
    → IfOk r (λ found. MatchOption found (HoldsOfNone (IsOneEvent Fact)) (IsLeast (IsOneEvent Fact))) → IfOk r (FindsIn run c k)
finds_event run c stays k (Err e) Fact alone h = tt
finds_event run c stays k (Ok None) Fact alone h = alone.met (λ p i fact. h.none (place p i ∷ []) (i, refl, fact))
finds_event run c stays k (Ok (Some ps)) Fact alone h = least_of_one (BreaksIn run c k) Fact ps alone.of h

-- ---- how lists continue

-- what the result of a search says about a specification
pub answered : (r : Result (Option (List Place)) AllocError) (run : List Log) (c : RingId) (k : SpecNo) → (HoldsOfNone (BreaksIn run c k) → MeetsIn run c k)
    → IfOk r (λ found. MatchOption found (HoldsOfNone (BreaksIn run c k)) (IsLeast (BreaksIn run c k))) → IfOk r (FindsIn run c k)
answered r run c k h m = grind arith

-- a list starts at an entry that names c or what follows it
pub begins_at : (run : List Log) (c : RingId) (stays : List Stay) (e : Place) (i : ℕ) (x : ConfId) (rest : List Place) → Facts run c stays → e ≡ place e.proc i → Names (log_of run e.proc) i x → Com (log_of run e.proc) c x → BeginsWithin stays IsInside (e ∷ rest)
begins_at run c stays e i x rest facts is names belongs =
    let s = facts.inside e.proc i x names belongs in
    record { stay = s.stay; among = s.among; index = i; reached = s.inside; rest = rest; is = rw s.proc (ap (λ (f : Place). f ∷ rest) is) }
