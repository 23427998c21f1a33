-- The n-th element of a list, counted from 1.
use Rattle.totem_ring.proofs.Common.{◌≡◌, ℕ, ◌+◌, List, ◌++◌, slice_get, Some, Message, Token}
use Rattle.totem_packets.specs.declared.packet.Packet.{Packet}
use Rattle.totem_packets.specs.declared.packet.Packet.TheVariants.{Message as AMessage, Token as AToken, Join as AJoin, Commit as ACommit}
use Rattle.totem_ring.proofs.Prefixes.{slice_get-append}

pub record IsNth {X : Type 0} (xs : List X) (n : ℕ) (x : X) : Type 0 where
  pub before : ℕ
  pub after : n ≡ before + 1
  pub at : slice_get xs before ≡ Some x

pub IsNth-append : {X : Type 0} (xs ys : List X) (n : ℕ) (x : X) → IsNth xs n x → IsNth (xs ++ ys) n x
IsNth-append xs ys n x h = record { before = h.before; after = h.after; at = slice_get-append xs ys h.before x h.at }

-- a packet that carries one of these tokens or messages at its place; a ring sends no others
abbrev pub IsOf : List Token → List Message → Packet → Type 0
IsOf tokens msgs (AMessage m) = IsNth msgs m.number m
IsOf tokens msgs (AToken t) = IsNth tokens t.token_seq t
IsOf tokens msgs (AJoin j) = ⊥
IsOf tokens msgs (ACommit t) = ⊥

pub IsOf-append : (tokens more : List Token) (msgs new : List Message) (x : Packet) → IsOf tokens msgs x → IsOf (tokens ++ more) (msgs ++ new) x
IsOf-append tokens more msgs new (AMessage m) h = IsNth-append msgs new m.number m h
IsOf-append tokens more msgs new (AToken t) h = IsNth-append tokens more t.token_seq t h
IsOf-append tokens more msgs new (AJoin j) h = absurd h
IsOf-append tokens more msgs new (ACommit t) h = absurd h
