-- Ascending lists that grow at their end.
use Rattle.totem_evs.proofs.Common.{All, AllPairs, ℕ, ◌<◌, ◌≤◌, List, [], ◌∷◌, ◌++◌, length, arith, All-push, Three, IsProcessIn, id_of}
use Rattle.std.proofs.lemmas.List.Quantifiers.{all_pairs_push}
use Rattle.totem_evs.specs.Members.{IsBelow, IsMembers}

-- processes whose identifiers are ascending, up to that of the last one
pub record Rising (procs : List ℕ) (last : ℕ) : Type 0 where
  pub below : All (λ p. id_of p ≤ last) procs
  pub rising : AllPairs IsBelow procs
  pub processes : All (IsProcessIn Three) procs

-- no element yet
pub rising_none : (last : ℕ) → Rising [] last
rising_none last = grind arith

-- one more element
pub rising_more : (procs : List ℕ) (last p : ℕ) → Rising procs last → last < id_of p → IsProcessIn Three p → Rising (procs ++ p ∷ []) (id_of p)
rising_more procs last p h lt is = record {
  below = All-push (λ q. id_of q ≤ id_of p) procs p (λ k d within. omega (arith, h.below k d within, lt)) (omega arith);
  rising = all_pairs_push IsBelow procs p h.rising (λ k d within. omega (arith, h.below k d within, lt));
  processes = All-push (IsProcessIn Three) procs p h.processes is;
}

-- these are members
pub rising_members : (procs : List ℕ) (last : ℕ) → Rising procs last → 0 < length procs → length procs ≤ 32 → IsMembers procs
rising_members procs last h some few = record { some = some; few = few; rising = h.rising; processes = h.processes }
