-- Which members wait for a log, part after part.
use Rattle.totem_evs.proofs.Common.{Contains, ◌↔◌, take, ◌<◌, ◌+◌, length, get_or, ap, sym, ◌∙◌, ◌≡◌, ◌≢◌, ◌⊎◌, ℕ, List, [], ◌∷◌, ◌++◌, inl, inr, subst, arith, take_more, Contains-push, Contains-push_cases, Contains-append_left}

-- nothing is in the empty list
pub in_none : (q : ℕ) → Contains [] q → ⊥
in_none q c = omega (arith, c.1)

-- the processes that wait, given those that waited, those named now and those whose logs have begun
abbrev pub Waits : List ℕ → List ℕ → List ℕ → List ℕ → Type 0
Waits waited named begun waiting = (q : ℕ) → Contains waiting q ↔ ((Contains waited q ⊎ Contains named q) × (Contains begun q → ⊥))

-- a log begins
pub waits_log : (waited begun waiting : List ℕ) (p : ℕ) → ((q : ℕ) → Contains waited q → Contains begun q → ⊥) → ((q : ℕ) → Contains waiting q ↔ (Contains waited q × (q ≢ p))) → Waits waited [] (begun ++ p ∷ []) waiting
waits_log waited begun waiting p apart h q = (
  (λ c. let k = (h q).0 c in (inl k.0, λ b. elim (Contains-push_cases begun p q b) [ inl old ↦ apart q k.0 old | inr same ↦ k.1 (refl_sym same) ])),
  (λ c. elim c.0 [ inl old ↦ (h q).1 (old, λ same. c.1 (subst (λ (x : ℕ). Contains (begun ++ p ∷ []) x) (refl_sym same) (Contains-push begun p))) | inr none ↦ absurd (in_none q none) ]),
)
  where
    refl_sym : {a b : ℕ} → a ≡ b → b ≡ a
    refl_sym e = cc

-- an entry follows
pub waits_entry : (waited named begun waiting : List ℕ) → ((q : ℕ) → Contains waited q → Contains begun q → ⊥) → ((q : ℕ) → Contains waiting q ↔ (Contains waited q ⊎ (Contains named q × (Contains begun q → ⊥)))) → Waits waited named begun waiting
waits_entry waited named begun waiting apart h q = (
  (λ c. elim ((h q).0 c) [ inl old ↦ (inl old, apart q old) | inr new ↦ (inr new.0, new.1) ]),
  (λ c. elim c.0 [ inl old ↦ (h q).1 (inl old) | inr new ↦ (h q).1 (inr (new, c.1)) ]),
)

-- no process is named
pub waits_still : (waited begun : List ℕ) → ((q : ℕ) → Contains waited q → Contains begun q → ⊥) → Waits waited [] begun waited
waits_still waited begun apart q = ((λ c. (inl c, apart q c)), (λ c. elim c.0 [ inl old ↦ old | inr none ↦ absurd (in_none q none) ]))

-- a process whose log has begun no longer waits
pub waits_apart : (waited named begun waiting : List ℕ) → Waits waited named begun waiting → (q : ℕ) → Contains waiting q → Contains begun q → ⊥
waits_apart waited named begun waiting h q c = ((h q).0 c).1

-- one more member is considered
pub waits_more : (waited begun ms waiting more : List ℕ) (p : ℕ) → ((q : ℕ) → Contains waiting q ↔ (Contains waited q ⊎ (Contains ms q × (Contains begun q → ⊥)))) → (Contains begun p → ⊥) → ((q : ℕ) → Contains more q ↔ (Contains waiting q ⊎ (q ≡ p)))
    → (q : ℕ) → Contains more q ↔ (Contains waited q ⊎ (Contains (ms ++ p ∷ []) q × (Contains begun q → ⊥)))
waits_more waited begun ms waiting more p h none k q = (
  (λ c. elim ((k q).0 c) [
    | inl old ↦ elim ((h q).0 old) [ inl before ↦ inl before | inr new ↦ inr (Contains-append_left ms (p ∷ []) q new.0, new.1) ]
    | inr same ↦ inr (subst (λ (x : ℕ). Contains (ms ++ p ∷ []) x) (turned same) (Contains-push ms p), λ b. none (subst (λ (x : ℕ). Contains begun x) same b))
  ]),
  (λ c. elim c [
    | inl before ↦ (k q).1 (inl ((h q).1 (inl before)))
    | inr new ↦ elim (Contains-push_cases ms p q new.0) [ inl old ↦ (k q).1 (inl ((h q).1 (inr (old, new.1)))) | inr same ↦ (k q).1 (inr (turned same)) ]
  ]),
)
  where
    turned : {a b : ℕ} → a ≡ b → b ≡ a
    turned e = cc

-- one more member has a log
pub waits_same : (waited begun ms waiting : List ℕ) (p : ℕ) → ((q : ℕ) → Contains waiting q ↔ (Contains waited q ⊎ (Contains ms q × (Contains begun q → ⊥)))) → Contains begun p
    → (q : ℕ) → Contains waiting q ↔ (Contains waited q ⊎ (Contains (ms ++ p ∷ []) q × (Contains begun q → ⊥)))
waits_same waited begun ms waiting p h has q = (
  (λ c. elim ((h q).0 c) [ inl before ↦ inl before | inr new ↦ inr (Contains-append_left ms (p ∷ []) q new.0, new.1) ]),
  (λ c. elim c [
    | inl before ↦ (h q).1 (inl before)
    | inr new ↦ elim (Contains-push_cases ms p q new.0) [ inl old ↦ (h q).1 (inr (old, new.1)) | inr same ↦ absurd (new.1 (subst (λ (x : ℕ). Contains begun x) same has)) ]
  ]),
)

-- one element more
pub taken_more : (xs : List ℕ) (i x : ℕ) → i < length xs → x ≡ get_or xs i x → take (i + 1) xs ≡ take i xs ++ x ∷ []
taken_more xs i x lt e = take_more xs i x lt ∙ ap (λ (y : ℕ). take i xs ++ y ∷ []) (sym e)
