-- What calls report of a ring, one after the other.
use Rattle.totem_weave.proofs.Common.{◌≡◌, ℕ, ◌+◌, ◌<◌, List, [], ◌∷◌, ◌++◌, length, drop, get_or, sym, ◌∙◌, ap, length-append, arith, drop_more, RingName, Called, call_acts, calls_acts}

-- if a call reports a step, the calls with it report one
pub told_some : (ring : RingName) (calls : List Called) (i : ℕ) (call : Called) → i < length calls → call ≡ get_or calls i call
    → calls_acts ring (drop i calls) ≡ calls_acts ring calls → 0 < length (call_acts ring call) → ¬ (calls_acts ring calls ≡ [])
told_some ring calls i call lt is so_far some none =
    let front : drop i calls ≡ call ∷ drop (i + 1) calls = drop_more calls i call lt ∙ ap (λ c. c ∷ drop (i + 1) calls) (sym is) in
    let nothing : call_acts ring call ++ calls_acts ring (drop (i + 1) calls) ≡ [] = ap (calls_acts ring) (sym front) ∙ so_far ∙ none in
    let long : length (call_acts ring call) + length (calls_acts ring (drop (i + 1) calls)) ≡ 0 =
    sym (length-append (call_acts ring call) (calls_acts ring (drop (i + 1) calls))) ∙ ap length nothing in
    omega (arith, some, long)
