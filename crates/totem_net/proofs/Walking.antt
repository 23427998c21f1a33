-- The ways, one node after another.
use Rattle.std.proofs.Common.{◌≡◌, ℕ, ◌+◌, ◌<◌, List, [], ◌∷◌, ◌++◌, length, get_or, drop, refl, ap, Bool, true, false, add-one, drop-cons}
use Rattle.std.specs.Prelude.{slice_index_or, if◌then◌else◌}
use Rattle.totem_net.specs.declared.address.Address.{Address}
use Rattle.totem_net.specs.declared.held.HeldCopy.{HeldCopy}
use Rattle.totem_net.specs.Addresses.{is_for}
use Rattle.totem_net.specs.Words.{ToCome}
use Rattle.totem_net.specs.Wires.{still_held}
use Rattle.totem_net.specs.Ways.{next_fate, drawn, past, handed_at, all_handed, all_held, past_all}
use Rattle.totem_net.specs.Settling.{changed_at, all_changed, settled}

-- the ways from the i-th on are that one and the later ones
pub drop_next :
    (i : ℕ) (ws : List (List HeldCopy)) (d : List HeldCopy) → i < length ws
    → drop i ws ≡ get_or ws i d ∷ drop (i + 1) ws
drop_next i ws d below = rw (add-one, drop-cons ws i d) refl

-- one more node, of those from the i-th on
pub handed_more :
    (a : Address) (p : List ℕ) (i : ℕ) (f : ToCome) (ws : List (List HeldCopy)) (d : List HeldCopy) → i < length ws
    → all_handed a p (i + 1) f (drop i ws)
    ≡ handed_at a p (i + 1) f (get_or ws i d) ++ all_handed a p (i + 1 + 1) (past a (i + 1) f) (drop (i + 1) ws)
handed_more a p i f ws d below = ap (λ (xs : List (List HeldCopy)). all_handed a p (i + 1) f xs) (drop_next i ws d below)

pub changed_more :
    (a : Address) (p : List ℕ) (i : ℕ) (f : ToCome) (ws : List (List HeldCopy)) (d : List HeldCopy) → i < length ws
    → all_changed a p (i + 1) f (drop i ws)
    ≡ changed_at a p (i + 1) f (get_or ws i d) ++ all_changed a p (i + 1 + 1) (past a (i + 1) f) (drop (i + 1) ws)
changed_more a p i f ws d below = ap (λ (xs : List (List HeldCopy)). all_changed a p (i + 1) f xs) (drop_next i ws d below)

pub past_more :
    (a : Address) (i : ℕ) (f : ToCome) (ws : List (List HeldCopy)) (d : List HeldCopy) → i < length ws
    → past_all a (i + 1) f (drop i ws) ≡ past_all a (i + 1 + 1) (past a (i + 1) f) (drop (i + 1) ws)
past_more a i f ws d below = ap (λ (xs : List (List HeldCopy)). past_all a (i + 1) f xs) (drop_next i ws d below)

-- putting the changed ways in their places gives the ways as they are held
pub settled_of_changed :
    (a : Address) (p : List ℕ) (n : ℕ) (f : ToCome) (ws : List (List HeldCopy))
    → settled a n ws (all_changed a p n f ws) ≡ all_held a p n f ws
settled_of_changed a p n f [] = refl
settled_of_changed a p n f (w ∷ ws) =
    elim (is_for a n) as (λ (b : Bool).
    ((if b then slice_index_or ((if b then still_held (next_fate f) p w ∷ [] else []) ++ all_changed a p (n + 1) (if b then drawn f else f) ws) 0 w else w)
    ∷ settled a (n + 1) ws (if b then drop 1 ((if b then still_held (next_fate f) p w ∷ [] else []) ++ all_changed a p (n + 1) (if b then drawn f else f) ws) else ((if b then still_held (next_fate f) p w ∷ [] else []) ++ all_changed a p (n + 1) (if b then drawn f else f) ws)))
    ≡ ((if b then still_held (next_fate f) p w else w) ∷ all_held a p (n + 1) (if b then drawn f else f) ws)) [
      | true ↦ ap (λ (xs : List (List HeldCopy)). still_held (next_fate f) p w ∷ xs) (settled_of_changed a p (n + 1) (drawn f) ws)
      | false ↦ ap (λ (xs : List (List HeldCopy)). w ∷ xs) (settled_of_changed a p (n + 1) f ws)
    ]
