-- A run has a list of its regular configurations.
use Rattle.totem_pass_d.proofs.Common.{◌≡◌, ◌⊎◌, ◌<◌, ℕ, zero, suc, inl, inr, List, [], ◌∷◌, length, get_or, slice_get, Some, refl, sym, subst, ◌∙◌, arith, get_or_from_slice_get, slice_get-get_or, RingId, Regular, Transitional, Entry, Conf, Send, Deliver, Fail, Log, ChangesTo, IsRing, AreRings, log_of_cases, log_of_at}
use Rattle.std.specs.Prelude.{◌↔◌, AllPairs, Contains}
use Rattle.totem_names.specs.Orders.{RingBelow}
use Rattle.totem_evs.specs.Runs.{IsRun}
use Rattle.totem_names.proofs.Orderings.{ring_strict}

first_or_rest : (a : RingId) (xs : List RingId) (c : RingId) → Contains (a ∷ xs) c → (a ≡ c) ⊎ Contains xs c
first_or_rest a xs c (zero, lt, is) = inl is
first_or_rest a xs c (suc i, lt, is) = inr (i, omega (arith, lt), is)

pub in_rest : (a : RingId) (xs : List RingId) (c : RingId) → Contains xs c → Contains (a ∷ xs) c
in_rest a xs c (i, lt, is) = (suc i, omega (arith, lt), is)

pub is_first : (a : RingId) (xs : List RingId) → Contains (a ∷ xs) a
is_first a xs = (zero, omega arith, refl)

-- the first is below the rest
first_below : (a : RingId) (xs : List RingId) (c : RingId) → AllPairs RingBelow (a ∷ xs) → Contains xs c → RingBelow a c
first_below a xs c rising (i, lt, is) = let P : RingId → Type 0 = λ x. RingBelow a x in subst P is (rising 0 (suc i) c (omega arith) (omega (arith, lt)))

rest_rises : (a : RingId) (xs : List RingId) → AllPairs RingBelow (a ∷ xs) → AllPairs RingBelow xs
rest_rises a xs rising = λ i j d lt within. rising (suc i) (suc j) d (omega (arith, lt)) (omega (arith, within))

-- an ascending list of what a fact holds for
record Listed (Has : RingId → Type 0) : Type 0 where
  list : List RingId
  rising : AllPairs RingBelow list
  exact : (c : RingId) → Contains list c ↔ Has c

for_same : (A B : RingId → Type 0) → ((c : RingId) → A c → B c) → ((c : RingId) → B c → A c) → Listed A → Listed B
for_same A B into back l = record { list = l.list; rising = l.rising; exact = λ c. (λ h. into c ((l.exact c).0 h), λ h. (l.exact c).1 (back c h)) }

rises_from : (a : RingId) (xs : List RingId) → ((c : RingId) → Contains xs c → RingBelow a c) → AllPairs RingBelow xs → AllPairs RingBelow (a ∷ xs)
rises_from a xs below rising zero zero d lt within = absurd (omega (arith, lt))
rises_from a xs below rising zero (suc j) d lt within =
    let lt : j < length xs = omega (arith, within) in
    below (get_or xs j d) (j, lt, get_or_from_slice_get xs j (get_or xs j d) (get_or xs j d) (slice_get-get_or xs j d lt))
rises_from a xs below rising (suc i) zero d lt within = absurd (omega (arith, lt))
rises_from a xs below rising (suc i) (suc j) d lt within = rising i j d (omega (arith, lt)) (omega (arith, within))

-- one more
module _ (a : RingId) where
  abbrev OrIn : List RingId → RingId → Type 0
  OrIn xs c = (c ≡ a) ⊎ Contains xs c

  with_ring : (xs : List RingId) → AllPairs RingBelow xs → Listed (OrIn xs)
  with_ring [] rising = record {
    list = a ∷ [];
    rising = rises_from a [] (λ c (k, lt, is). absurd (omega (arith, lt))) rising;
    exact = λ c. (λ h. elim (first_or_rest a [] c h) [ inl is ↦ inl (sym is) | inr has ↦ inr has ], λ h. elim h [ inl is ↦ subst (λ d. Contains (a ∷ []) d) (sym is) (is_first a []) | inr has ↦ in_rest a [] c has ]);
  }
  with_ring (x ∷ xs) rising = elim (ring_strict.total a x) [
    | inl lt ↦ record {
      list = a ∷ x ∷ xs;
      rising = rises_from a (x ∷ xs) (λ c has. elim (first_or_rest x xs c has) [ inl is ↦ subst (λ d. RingBelow a d) is lt | inr more ↦ ring_strict.goes_on a x c lt (first_below x xs c rising more) ]) rising;
      exact = λ c. (λ h. elim (first_or_rest a (x ∷ xs) c h) [ inl is ↦ inl (sym is) | inr has ↦ inr has ], λ h. elim h [ inl is ↦ subst (λ d. Contains (a ∷ x ∷ xs) d) (sym is) (is_first a (x ∷ xs)) | inr has ↦ in_rest a (x ∷ xs) c has ]);
    }
    | inr (inl same) ↦ record {
      list = x ∷ xs;
      rising = rising;
      exact = λ c. (λ h. inr h, λ h. elim h [ inl is ↦ subst (λ d. Contains (x ∷ xs) d) (sym same ∙ sym is) (is_first x xs) | inr has ↦ has ]);
    }
    | inr (inr gt) ↦
        let rest = with_ring xs (rest_rises x xs rising) in
        record {
          list = x ∷ rest.list;
          rising = rises_from x rest.list (λ c has. elim ((rest.exact c).0 has) [ inl is ↦ subst (λ d. RingBelow x d) (sym is) gt | inr more ↦ first_below x xs c rising more ]) rest.rising;
          exact = λ c. (
            λ h. elim (first_or_rest x rest.list c h) [
              | inl is ↦ inr (subst (λ d. Contains (x ∷ xs) d) is (is_first x xs))
              | inr has ↦ elim ((rest.exact c).0 has) [ inl is ↦ inl is | inr more ↦ inr (in_rest x xs c more) ]
            ],
            λ h. elim h [
              | inl is ↦ in_rest x rest.list c ((rest.exact c).1 (inl is))
              | inr has ↦ elim (first_or_rest x xs c has) [ inl is ↦ subst (λ d. Contains (x ∷ rest.list) d) is (is_first x rest.list) | inr more ↦ in_rest x rest.list c ((rest.exact c).1 (inr more)) ]
            ],
          );
        }
  ]

-- the log changes to the regular configuration
abbrev Comes : List Entry → RingId → Type 0
Comes entries c = (i : ℕ) × ChangesTo entries i (Regular c)

later : (e : Entry) (entries : List Entry) (c : RingId) → Comes entries c → Comes (e ∷ entries) c
later e entries c (i, change) = (suc i, change)

module _ (Has : RingId → Type 0) (known : Listed Has) where
  abbrev OrComes : List Entry → RingId → Type 0
  OrComes entries c = Has c ⊎ Comes entries c

  passed_by : (e : Entry) (entries : List Entry) → ((c : RingId) (ms : List ℕ) → e ≡ Conf (Regular c) ms → ⊥) → Listed (OrComes entries) → Listed (OrComes (e ∷ entries))
  passed_by e entries never = for_same (OrComes entries) (OrComes (e ∷ entries))
      (λ c h. elim h [ inl has ↦ inl has | inr comes ↦ inr (later e entries c comes) ])
      (λ c h. elim h [ inl has ↦ inl has | inr (zero, (ms, at)) ↦ absurd (never c ms cc) | inr (suc i, (ms, at)) ↦ inr (i, (ms, at)) ])

  of_entries : (entries : List Entry) → Listed (OrComes entries)
  of_entries [] = for_same Has (OrComes []) (λ c has. inl has) (λ c h. elim h [ inl has ↦ has | inr (i, (ms, at)) ↦ absurd cc ]) known
  of_entries (Conf (Regular r) ms ∷ entries) =
      let rest = of_entries entries in
      for_same (OrIn r rest.list) (OrComes (Conf (Regular r) ms ∷ entries))
      (λ c h. elim h [ inl is ↦ inr (zero, (ms, rw is refl)) | inr has ↦ elim ((rest.exact c).0 has) [ inl known ↦ inl known | inr comes ↦ inr (later (Conf (Regular r) ms) entries c comes) ] ])
      (λ c h. elim h [ inl has ↦ inr ((rest.exact c).1 (inl has)) | inr (zero, (ns, at)) ↦ inl cc | inr (suc i, (ns, at)) ↦ inr ((rest.exact c).1 (inr (i, (ns, at)))) ])
      (with_ring r rest.list rest.rising)
  of_entries (Conf (Transitional least next) ms ∷ entries) = passed_by (Conf (Transitional least next) ms) entries (λ c ns e. cc) (of_entries entries)
  of_entries (Send m x s ∷ entries) = passed_by (Send m x s) entries (λ c ns e. cc) (of_entries entries)
  of_entries (Deliver m x ∷ entries) = passed_by (Deliver m x) entries (λ c ns e. cc) (of_entries entries)
  of_entries (Fail x ∷ entries) = passed_by (Fail x) entries (λ c ns e. cc) (of_entries entries)

abbrev ComesIn : List Log → RingId → Type 0
ComesIn logs c = (k : ℕ) × (log : Log) × (slice_get logs k ≡ Some log) × Comes log.entries c

first_log : (l : Log) (logs : List Log) (known : Listed (ComesIn logs)) (c : RingId) → ComesIn (l ∷ logs) c → OrComes (ComesIn logs) known l.entries c
first_log l logs known c (zero, log, at, comes) = (let same : l ≡ log = cc in inr (rw same comes))
first_log l logs known c (suc k, log, at, comes) = inl (k, log, at, comes)

of_logs : (logs : List Log) → Listed (ComesIn logs)
of_logs [] = record { list = []; rising = λ i j d lt within. absurd (omega (arith, within)); exact = λ c. (λ (k, lt, is). absurd (omega (arith, lt)), λ (k, log, at, comes). absurd cc) }
of_logs (l ∷ logs) =
    let rest = of_logs logs in
    for_same (OrComes (ComesIn logs) rest l.entries) (ComesIn (l ∷ logs))
    (λ c h. elim h [ inl (k, log, at, comes) ↦ (suc k, log, at, comes) | inr comes ↦ (zero, l, refl, comes) ])
    (first_log l logs rest)
    (of_entries (ComesIn logs) rest l.entries)

pub all_rings : (run : List Log) → IsRun run → (rings : List RingId) × AreRings run rings
all_rings run is = (all.list, record { rising = all.rising; exact = λ c. (λ has. ring c ((all.exact c).0 has), λ r. (all.exact c).1 (comes c r)) })
  where
    all : Listed (ComesIn run)
    all = of_logs run

    ring : (c : RingId) → ComesIn run c → IsRing run c
    ring c (k, log, at, (i, change)) = record { proc = log.proc; index = i; change = rw (log_of_at run k log is.rising at) change }

    comes : (c : RingId) → IsRing run c → ComesIn run c
    comes c r = elim (log_of_cases run r.proc) [
      | inl none ↦ absurd (let h : ChangesTo [] r.index (Regular c) = rw none at r.change in let at : slice_get {X = Entry} [] r.index ≡ Some (Conf (Regular c) h.0) = h.1 in cc)
      | inr (k, log, at, proc, entries) ↦ (k, log, at, (r.index, rw entries at r.change))
    ]
