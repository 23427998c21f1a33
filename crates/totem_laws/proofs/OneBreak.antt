-- The faults of a run are one list.
use Rattle.totem_cert.proofs.Common.{◌≡◌, inl, inr, List, [], ◌∷◌, ◌++◌, refl, sym, ◌∙◌, Place, Log, SpecNo, Breaks}
use Rattle.totem_evs.proofs.Common.{RingId, BreaksIn}
use Rattle.totem_names.specs.Orders.{PlaceBelow}
use Rattle.totem_names.proofs.Orderings.{place_strict}
use Rattle.totem_evs.specs.declared.fault.Fault.{Fault}
use Rattle.totem_evs.proofs.Consistent.{not_met, not_met_in}
use Rattle.totem_evs.specs.Answers.{ComesFirst, IsLeast, ListsRings, ListsEach, specs_d}
use Rattle.totem_laws.specs.OneAnswer.{LeastBreaksAreOne, PassFaultsAreOne, ConfigurationFaultsAreOne}
use Rattle.totem_laws.proofs.OneList.{rings_one}

-- ---- the least list

both_ways : (e f : Place) → PlaceBelow e f → PlaceBelow f e → ⊥
both_ways e f below above = place_strict.strict e (place_strict.goes_on e f e below above)

not_same : (e f : Place) → PlaceBelow e f → e ≡ f → ⊥
not_same e f below same = place_strict.strict f (rw same at below)

first_ways : (a b : List Place) → ComesFirst a b → ComesFirst b a → a ≡ b
first_ways [] [] h k = refl
first_ways [] (f ∷ fs) h k = absurd k
first_ways (e ∷ es) [] h k = absurd h
first_ways (e ∷ es) (f ∷ fs) (inl below) (inl above) = absurd (both_ways e f below above)
first_ways (e ∷ es) (f ∷ fs) (inl below) (inr (same, k)) = absurd (not_same e f below (sym same))
first_ways (e ∷ es) (f ∷ fs) (inr (same, h)) (inl above) = absurd (not_same f e above (sym same))
first_ways (e ∷ es) (f ∷ fs) (inr (same, h)) (inr (also, k)) = let rest : es ≡ fs = first_ways es fs h k in rw (same, rest) refl

one_least : (Holds : List Place → Type 0) (a b : List Place) → IsLeast Holds a → IsLeast Holds b → a ≡ b
one_least Holds a b least also = first_ways a b (least.first b also.holds) (also.first a least.holds)

pub least_one : LeastBreaksAreOne
least_one run k a b least also = one_least (Breaks run k) a b least also

-- ---- passes A and B

same_faults : (k : SpecNo) (a b : List Place) (r s : List Fault) → a ≡ b → r ≡ s
    → ◌≡◌ {A = List Fault} (record { spec = k; places = a } ∷ r) (record { spec = k; places = b } ∷ s)
same_faults k a b r s same rest = rw (same, rest) refl

pub passes_one : PassFaultsAreOne
passes_one run [] a b is also = is ∙ sym also
passes_one run (k ∷ ks) a b (inl (ok, more)) (inl (fine, rest)) = passes_one run ks a b more rest
passes_one run (k ∷ ks) a b (inl (ok, more)) (inr (places, rest, is, least, others)) = absurd (not_met run k places least.holds ok)
passes_one run (k ∷ ks) a b (inr (places, rest, is, least, others)) (inl (ok, more)) = absurd (not_met run k places least.holds ok)
passes_one run (k ∷ ks) a b (inr (ps, r, is, least, more)) (inr (qs, s, are, also, others)) =
    is ∙ same_faults k ps qs r s (least_one run k ps qs least also) (passes_one run ks r s more others) ∙ sym are

-- ---- pass D

rings_list_one : (run : List Log) (k : SpecNo) (cs : List RingId) (a b : List Fault) → ListsRings run k cs a → ListsRings run k cs b → a ≡ b
rings_list_one run k [] a b is also = is ∙ sym also
rings_list_one run k (c ∷ cs) a b (inl (ok, more)) (inl (fine, rest)) = rings_list_one run k cs a b more rest
rings_list_one run k (c ∷ cs) a b (inl (ok, more)) (inr (places, rest, is, least, others)) = absurd (not_met_in run c k places least.holds ok)
rings_list_one run k (c ∷ cs) a b (inr (places, rest, is, least, others)) (inl (ok, more)) = absurd (not_met_in run c k places least.holds ok)
rings_list_one run k (c ∷ cs) a b (inr (ps, r, is, least, more)) (inr (qs, s, are, also, others)) =
    is ∙ same_faults k ps qs r s (one_least (BreaksIn run c k) ps qs least also) (rings_list_one run k cs r s more others) ∙ sym are

each_list_one : (run : List Log) (cs : List RingId) (ks : List SpecNo) (a b : List Fault) → ListsEach run cs ks a → ListsEach run cs ks b → a ≡ b
each_list_one run cs [] a b is also = is ∙ sym also
each_list_one run cs (k ∷ ks) a b (own, others, is, here, more) (mine, rest, are, there, also) =
    let first : own ≡ mine = rings_list_one run k cs own mine here there in
    let second : others ≡ rest = each_list_one run cs ks others rest more also in
    is ∙ joined own mine others rest first second ∙ sym are
  where
    joined : (x y v w : List Fault) → x ≡ y → v ≡ w → x ++ v ≡ y ++ w
    joined x y v w e f = rw (e, f) refl

pub configurations_one : ConfigurationFaultsAreOne
configurations_one run a b d e =
    let same : d.rings ≡ e.rings = rings_one run d.rings e.rings d.are e.are in
    each_list_one run e.rings specs_d a b (rw same at d.lists) e.lists
