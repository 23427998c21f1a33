-- The numbers that a visit gives.
use Rattle.totem_ring.proofs.Common.{arith, ◌≡◌, ℕ, zero, suc, ◌+◌, ◌==◌, ◌⊎◌, inl, inr, List, [], ◌∷◌, ◌++◌, length, slice_get, true, false, Some, refl, ap, subst, append_assoc, append-nil, length-append, Body, Message, Ring, numbered, bodies_of}
use Rattle.totem_ring.proofs.Prefixes.{slice_get_mid}
use Rattle.totem_ring.proofs.HeldOnes.{StandIn}

-- the number of each message is its place in the list
pub record AreNumbered (msgs : List Message) : Type 0 where
  pub number : (k : ℕ) (m : Message) → slice_get msgs k ≡ Some m → m.number ≡ k + 1

pub slice_get_push : {X : Type 0} (xs : List X) (y : X) (k : ℕ) (x : X) → slice_get (xs ++ y ∷ []) k ≡ Some x → (slice_get xs k ≡ Some x) ⊎ ((k ≡ length xs) × (y ≡ x))
slice_get_push [] y zero x h = inr (refl, cc)
slice_get_push [] y (suc k) x h = absurd cc
slice_get_push (z ∷ xs) y zero x h = inl h
slice_get_push (z ∷ xs) y (suc k) x h = elim (slice_get_push xs y k x h) [ inl in_xs ↦ inl in_xs | inr (place, same) ↦ inr (ap (λ n. suc n) place, same) ]

pub length-numbered : (s : Ring) (seq : ℕ) (bodies : List Body) → length (numbered s seq bodies) ≡ length bodies
length-numbered s seq [] = refl
length-numbered s seq (b ∷ bs) = ap (λ n. suc n) (length-numbered s (seq + 1) bs)

pub numbered_stand : (msgs : List Message) (s : Ring) (seq : ℕ) (bodies : List Body) → length msgs ≡ seq → StandIn (msgs ++ numbered s seq bodies) (numbered s seq bodies)
numbered_stand msgs s seq [] len = tt
numbered_stand msgs s seq (b ∷ bs) len =
    let m : Message = record { ring = s.ring; number = seq + 1; sender = s.me; body = b } in
    grind (arith, append_assoc, length-append, slice_get_mid, numbered_stand (msgs ++ m ∷ []) s (seq + 1) bs)

AreNumbered-push : (msgs : List Message) (m : Message) → m.number ≡ length msgs + 1 → AreNumbered msgs → AreNumbered (msgs ++ m ∷ [])
AreNumbered-push msgs m is h = record { number = λ k x at. grind (arith, slice_get_push msgs m k x at, h.number k x) }

pub AreNumbered-numbered : (msgs : List Message) (s : Ring) (seq : ℕ) (bodies : List Body) → length msgs ≡ seq → AreNumbered msgs → AreNumbered (msgs ++ numbered s seq bodies)
AreNumbered-numbered msgs s seq [] len h = rw append-nil h
AreNumbered-numbered msgs s seq (b ∷ bs) len h =
    let m : Message = record { ring = s.ring; number = seq + 1; sender = s.me; body = b } in
    subst AreNumbered (append_assoc msgs (m ∷ []) (numbered s (seq + 1) bs))
    (AreNumbered-numbered (msgs ++ m ∷ []) s (seq + 1) bs (omega (arith, length-append msgs (m ∷ []))) (AreNumbered-push msgs m (omega arith) h))

pub bodies_of-own : (p : ℕ) (s : Ring) (seq : ℕ) (bodies : List Body) → (s.me == p) ≡ true → bodies_of p (numbered s seq bodies) ≡ bodies
bodies_of-own p s seq [] own = refl
bodies_of-own p s seq (b ∷ bs) own = rw own (ap (λ rest. b ∷ rest) (bodies_of-own p s (seq + 1) bs own))

pub bodies_of-others : (p : ℕ) (s : Ring) (seq : ℕ) (bodies : List Body) → (s.me == p) ≡ false → bodies_of p (numbered s seq bodies) ≡ []
bodies_of-others p s seq [] other = refl
bodies_of-others p s seq (b ∷ bs) other = rw other (bodies_of-others p s (seq + 1) bs other)
