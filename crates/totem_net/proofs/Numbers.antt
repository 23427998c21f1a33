-- The nodes of a network, one after another.
use Rattle.std.proofs.Common.{◌≡◌, ℕ, zero, suc, ◌+◌, List, [], ◌∷◌, ◌++◌, map, ap, ◌∙◌, arith}
use Rattle.std.specs.List.{range_with_len}
use Rattle.std.proofs.lemmas.List.{map-append}
use Rattle.totem_net.specs.declared.ends.NodeEnds.{NodeEnds}
use Rattle.totem_net.specs.Nodes.{node_numbers}

last : (a n j : ℕ) → a + n ≡ j → range_with_len a (suc n) ≡ range_with_len a n ++ j ∷ []
last a zero j e = let here : a ≡ j = omega (arith, e) in ap (λ (k : ℕ). k ∷ []) here
last a (suc n) j e = ap (λ (xs : List ℕ). a ∷ xs) (last (a + 1) n j (omega (arith, e)))

-- one more node
pub one_more : (n j : ℕ) → j ≡ n + 1 → node_numbers (n + 1) ≡ node_numbers n ++ j ∷ []
one_more n j e =
    let next : n + 1 ≡ suc n = omega arith in
    ap (range_with_len 1) next ∙ last 1 n j (omega (arith, e))

-- the ends of one more node
pub ends_more : (ends : List NodeEnds) (e : NodeEnds) (n : ℕ) → map (λ (e : NodeEnds). e.node) ends ≡ node_numbers n → e.node ≡ n + 1
    → map (λ (e : NodeEnds). e.node) (ends ++ e ∷ []) ≡ node_numbers (n + 1)
ends_more ends e n before here =
    rw (one_more n e.node here) (
    map-append (λ (e : NodeEnds). e.node) ends (e ∷ []) ∙ ap (λ (xs : List ℕ). xs ++ e.node ∷ []) before
    )
