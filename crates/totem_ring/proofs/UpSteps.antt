-- The steps of a walk over the messages to deliver.
use Rattle.totem_ring.proofs.Common.{◌≡◌, ℕ, ◌+◌, ◌^◌, ◌<◌, ◌≤◌, List, [], ◌∷◌, ◌++◌, Some, None, true, false, ap, sym, ◌∙◌, arith, append-nil, append_assoc, Message, Held, message_at, holds, going_up, may_go_up, RisesFrom, IsWholeTo}
use Rattle.totem_ring.proofs.Rising.{none_past, going_none, going_at}
use Rattle.std.proofs.lemmas.List.{length-append}

-- the list so far with what is still to be added
pub record IsSoFar (up : List Message) (n handed safe_to : ℕ) (held : Held) : Type 0 where
  pub all : up ++ going_up n safe_to held ≡ going_up handed safe_to held

ends : (up : List Message) (n handed safe_to : ℕ) (held : Held) → IsSoFar up n handed safe_to held → going_up n safe_to held ≡ [] → up ≡ going_up handed safe_to held
ends up n handed safe_to held far e = sym (append-nil up) ∙ ap (λ rest. up ++ rest) (sym e) ∙ far.all

pub ends_none : (up : List Message) (n handed safe_to : ℕ) (held : Held) → RisesFrom 0 held → IsSoFar up n handed safe_to held → message_at held (n + 1) ≡ None → up ≡ going_up handed safe_to held
ends_none up n handed safe_to held rises far at = ends up n handed safe_to held far (going_none 0 n safe_to held rises at)

pub ends_waits : (up : List Message) (n handed safe_to : ℕ) (held : Held) (m : Message) → RisesFrom 0 held → IsSoFar up n handed safe_to held → message_at held (n + 1) ≡ Some m → may_go_up safe_to (n + 1, m) ≡ false
    → up ≡ going_up handed safe_to held
ends_waits up n handed safe_to held m rises far at may = ends up n handed safe_to held far (going_at 0 n safe_to held m false rises at may)

pub ends_full : (up : List Message) (n handed safe_to : ℕ) (held : Held) → RisesFrom 0 held → IsSoFar up n handed safe_to held → 4294967295 ≤ n → up ≡ going_up handed safe_to held
ends_full up n handed safe_to held rises far full = ends_none up n handed safe_to held rises far (none_past 0 held (n + 1) rises (omega arith))

pub one_more : (up items : List Message) (n handed safe_to : ℕ) (held : Held) (m copy : Message) → RisesFrom 0 held → IsSoFar up n handed safe_to held → message_at held (n + 1) ≡ Some m → may_go_up safe_to (n + 1, m) ≡ true
    → copy ≡ m → items ≡ up ++ copy ∷ [] → IsSoFar items (n + 1) handed safe_to held
one_more up items n handed safe_to held m copy rises far at may same is = grind (arith, append_assoc, going_at 0 n safe_to held m true)

pub whole_full : (low n : ℕ) (held : Held) → RisesFrom 0 held → n < 2 ^ 32 → 4294967295 ≤ n → low ≤ n → ((k : ℕ) → low < k → k ≤ n → holds held k ≡ true) → IsWholeTo held low 4294967295
whole_full low n held rises small full begins whole = grind (arith, none_past)

pub ruleset steps = (ends_none, ends_waits, ends_full, one_more, length-append)
