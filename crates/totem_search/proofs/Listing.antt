-- From what is found for each specification to the faults of the passes.
use Rattle.totem_judge_run.proofs.Common.{◌≡◌, inl, inr, List, [], ◌∷◌, ◌++◌, Option, Some, None, refl, RingId, Place, Log}
use Rattle.totem_evs.specs.declared.fault.Fault.{Fault}
use Rattle.totem_evs.specs.declared.spec.SpecNo.{SpecNo}
use Rattle.totem_evs.specs.Answers.{Finds, FindsIn, Lists, ListsRings}
use Rattle.totem_search.specs.Search.{listed}

-- what is found for the next specification is appended
pub lists_then : (run : List Log) (ks : List SpecNo) (k : SpecNo) (fs gs : List Fault) (found : Option (List Place)) → gs ≡ fs ++ listed k found → Finds run k found → Lists run ks fs → Lists run (ks ++ k ∷ []) gs
lists_then run [] k fs gs None is meets none = rw (is, none) (inl (meets, refl))
lists_then run [] k fs gs (Some places) is least none = rw (is, none) (inr (places, [], refl, least, refl))
lists_then run (j ∷ ks) k fs gs found is h (inl (meets, more)) = inl (meets, lists_then run ks k fs gs found is h more)
lists_then run (j ∷ ks) k fs gs found is h (inr (places, rest, at, least, more)) =
    inr (places, rest ++ listed k found, rw (is, at) refl, least, lists_then run ks k rest (rest ++ listed k found) found refl h more)

-- what is found in the next configuration is appended
pub rings_then : (run : List Log) (k : SpecNo) (cs : List RingId) (c : RingId) (fs : List Fault) (found : Option (List Place)) → ListsRings run k cs fs → FindsIn run c k found → ListsRings run k (cs ++ c ∷ []) (fs ++ listed k found)
rings_then run k [] c fs None is meets = rw is (inl (meets, refl))
rings_then run k [] c fs (Some places) is least = rw is (inr (places, [], refl, least, refl))
rings_then run k (b ∷ cs) c fs found (inl (meets, more)) h = inl (meets, rings_then run k cs c fs found more h)
rings_then run k (b ∷ cs) c fs found (inr (places, rest, is, least, more)) h = inr (places, rest ++ listed k found, rw is refl, least, rings_then run k cs c rest found more h)
