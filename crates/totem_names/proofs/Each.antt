-- Loops over a list each of whose elements keeps a rule.
use Rattle.totem_names.proofs.Common.{◌≡◌, ℕ, ◌+◌, ◌<◌, ◌≤◌, List, length, get_or, take, All, take_more, take_all}
use Rattle.std.proofs.lemmas.List.Elements.{All-push}

pub each_more : {X : Type 0} (P : X → Type 0) (xs : List X) (i : ℕ) (x : X) → i < length xs → x ≡ get_or xs i x → P x → All P (take i xs) → All P (take (i + 1) xs)
each_more P xs i x lt is here so_far = rw (take_more xs i x lt, ← is) (All-push P (take i xs) x so_far here)

pub each_whole : {X : Type 0} (P : X → Type 0) (xs : List X) (i : ℕ) → length xs ≤ i → All P (take i xs) → All P xs
each_whole P xs i end so_far = rw (take_all i xs end) at so_far
