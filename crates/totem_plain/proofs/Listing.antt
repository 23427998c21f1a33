-- From what is found for each specification to the faults of the passes.
use Rattle.totem_plain.proofs.Common.{◌≡◌, ◌<◌, ◌≤◌, ◌+◌, ℕ, List, [], ◌∷◌, ◌++◌, length, get_or, take, Option, refl, sym, append-nil, take_more, take_all, RingId, Place, Log, FindsIn, ListsRings, ListsEach, listed, rings_then}
use Rattle.std.proofs.Common.{append_assoc}
use Rattle.totem_evs.specs.declared.fault.Fault.{Fault}
use Rattle.totem_evs.specs.declared.spec.SpecNo.{SpecNo}

pub rings_more : (run : List Log) (k : SpecNo) (rings : List RingId) (i : ℕ) (c : RingId) (fs gs : List Fault) (found : Option (List Place)) → i < length rings → c ≡ get_or rings i c → gs ≡ fs ++ listed k found → FindsIn run c k found
    → ListsRings run k (take i rings) fs → ListsRings run k (take (i + 1) rings) gs
rings_more run k rings i c fs gs found lt at is h before = rw (take_more rings i c lt, ← at, is) (rings_then run k (take i rings) c fs found before h)

pub all_rings : (run : List Log) (k : SpecNo) (rings : List RingId) (i : ℕ) (fs : List Fault) → length rings ≤ i → ListsRings run k (take i rings) fs → ListsRings run k rings fs
all_rings run k rings i fs end h = rw (take_all i rings end) at h

-- the faults of the next specification are appended
pub each_then : (run : List Log) (rings : List RingId) (ks : List SpecNo) (k : SpecNo) (fs gs hs : List Fault) → hs ≡ fs ++ gs → ListsRings run k rings gs → ListsEach run rings ks fs → ListsEach run rings (ks ++ k ∷ []) hs
each_then run rings [] k fs gs hs is h none = rw (is, none) (gs, [], sym (append-nil gs), h, refl)
each_then run rings (j ∷ ks) k fs gs hs is h (own, others, at, first, rest) =
    (own, others ++ gs, rw (is, at, append_assoc) refl, first, each_then run rings ks k others gs (others ++ gs) refl h rest)
