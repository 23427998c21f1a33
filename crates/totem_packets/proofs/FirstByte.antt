-- The kind of a packet: its first byte.
use Rattle.totem_packets.proofs.Common.{nat_lt, ◌≡◌, ℕ, ◌<◌, ◌≤◌, List, [], ◌∷◌, length, false, Ok, Err, refl, arith, w8, le-ltb, IsOfKind, parsed_is}
use Rattle.totem_packets.specs.declared.fault.PacketFault.TheVariants.{Short}
use Rattle.totem_packets.specs.Fields.{bytes_at, number_at}

pub kind_at : (b : ℕ) (rest : List ℕ) → number_at w8 (b ∷ rest) ≡ Ok (b, rest)
unfolding number_at bytes_at
kind_at b rest = let long : nat_lt (length (b ∷ rest)) 1 ≡ false = le-ltb _ _ (omega arith) in rw long refl

pub none_at : number_at w8 [] ≡ Err Short
unfolding number_at bytes_at
none_at = refl

-- the kind that was read is the first byte
pub kind_is_read : (bytes : List ℕ) (kind : ℕ) (rest : List ℕ) → number_at w8 bytes ≡ Ok (kind, rest) → 0 < kind → kind ≤ 5 → IsOfKind bytes
kind_is_read bytes kind rest h k m = grind (arith, none_at, parsed_is, kind_at)
