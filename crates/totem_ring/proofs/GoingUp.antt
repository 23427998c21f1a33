-- The messages delivered to the node are the next part of the list.
use Rattle.totem_ring.proofs.Common.{◌≡◌, ℕ, ◌+◌, ◌==◌, ◌&&◌, nat_le, List, [], ◌∷◌, ◌++◌, length, slice_get, Bool, true, false, Some, if◌then◌else◌, refl, ◌∙◌, ap, append_assoc, append-nil, arith, eqb-true, length-append, Message, IsPrefixOf, Held, going_up, may_go_up}
use Rattle.totem_ring.proofs.Prefixes.{goes_on}
use Rattle.totem_ring.proofs.Nth.{IsNth}
use Rattle.totem_ring.proofs.HeldOnes.{AreOf}

at_end : (msgs up : List Message) (handed n : ℕ) (m : Message) → length up ≡ handed → n ≡ handed + 1 → IsNth msgs n m → slice_get msgs (length up) ≡ Some m
at_end msgs up handed n m len next nth = let same : length up ≡ nth.before = omega (arith, nth.after) in rw same nth.at

pub going_up_begins : (msgs up : List Message) (handed safe_to : ℕ) (held : Held) → length up ≡ handed → IsPrefixOf up msgs → AreOf msgs held
    → IsPrefixOf (up ++ going_up handed safe_to held) msgs
going_up_begins msgs up handed safe_to [] len begins h = (begins.0, rw append-nil begins.1)
going_up_begins msgs up handed safe_to (e ∷ es) len begins h =
    go (nat_le e.0 handed) (e.0 == handed + 1) refl (may_go_up safe_to e)
    (going_up_begins msgs up handed safe_to es len begins h.1)
    (λ longer begin. going_up_begins msgs (up ++ e.1 ∷ []) (handed + 1) safe_to es longer begin h.1)
  where
    go : (passed next : Bool) → (e.0 == handed + 1) ≡ next → (free : Bool)
        → IsPrefixOf (up ++ going_up handed safe_to es) msgs
        → (length (up ++ e.1 ∷ []) ≡ handed + 1 → IsPrefixOf (up ++ e.1 ∷ []) msgs → IsPrefixOf ((up ++ e.1 ∷ []) ++ going_up (handed + 1) safe_to es) msgs)
        → IsPrefixOf (up ++ (if passed then going_up handed safe_to es else if next && free then e.1 ∷ going_up (handed + 1) safe_to es else [])) msgs
    go true next is free below above = below
    go false false is free below above = (begins.0, rw append-nil begins.1)
    go false true is false below above = (begins.0, rw append-nil begins.1)
    go false true is true below above =
        let number : e.0 ≡ handed + 1 = eqb-true e.0 (handed + 1) is in
        let more = above (length-append up (e.1 ∷ []) ∙ ap (λ n. n + 1) len) (goes_on up msgs e.1 begins (at_end msgs up handed e.0 e.1 len number h.0)) in
        (more.0, rw (← append_assoc up (e.1 ∷ []) (going_up (handed + 1) safe_to es)) more.1)
