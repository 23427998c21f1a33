-- The lives of a ring's members as the members of a configuration.
use Rattle.totem_recover.proofs.Common.{◌≡◌, ℕ, ◌<◌, List, [], ◌∷◌, length, get_or, refl, ap, ◌∙◌, arith, AllPairs, id_of, first_rank, first_ranks, ids_of, IsRingMembers}
use Rattle.std.proofs.lemmas.List.{length-map, get_or-map}
use Rattle.totem_names.specs.Lists.{Refuses}
use Rattle.totem_names.proofs.Kept.{not_refused}
use Rattle.totem_evs.specs.Members.{IsBelow}
use Rattle.totem_names.specs.declared.refused.ListFault.{ListFault}

-- processes whose identifiers are those of a ring's members are ascending
lives_rise : (lives : List ℕ) → IsRingMembers (ids_of lives) → AllPairs IsBelow lives
lives_rise lives is = λ i j d less inside.
    let count = length-map lives id_of in
    let at : (k : ℕ) → k < length lives → get_or (ids_of lives) k 0 ≡ id_of (get_or lives k d) = λ k inside. get_or-map id_of lives k d 0 inside in
    let first = at i (omega (arith, less, inside)) in
    let second = at j inside in
    let above = is.processes.rising i j 0 less (omega (arith, count, inside)) in
    omega (arith, above, first, second)

-- no rule of members refuses them
pub none_refuses : (lives : List ℕ) (fault : ListFault) → IsRingMembers (ids_of lives) → Refuses 1 32 IsBelow lives fault → ⊥
none_refuses lives fault is refused =
    let count = length-map lives id_of in
    not_refused 1 32 IsBelow lives fault (omega (arith, is.some, count)) (omega (arith, is.processes.few, count)) (lives_rise lives is) refused

-- the identifiers of first lives are those that they were made from
pub first_are_of : (ids : List ℕ) → ids_of (first_ranks ids) ≡ ids
first_are_of [] = refl
first_are_of (id ∷ ids) =
    let first : id_of (first_rank id) ≡ id = omega arith in
    ap (λ n. n ∷ ids_of (first_ranks ids)) first ∙ ap (λ ns. id ∷ ns) (first_are_of ids)
