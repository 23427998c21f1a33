-- Whether those with whom a gathering begins are too many.
use Rattle.totem_core.proofs.Common.{◌≡◌, ℕ, ◌<◌, ◌≤◌, List, [], length, Option, Result, Ok, Err, refl, arith, IsErr, lt-ltb, le-ltb, false≢true, Join, with_process, union, Node, committed_to, Gather, new_gather, set_of, gather_base, gathering_anew, to_gather}
use Rattle.totem_packets.specs.declared.too_many.TooMany.{TooMany}
use Rattle.totem_packets.proofs.Longer.{Rises, rises_union, longer_union, longer_with}
use Rattle.totem_member.specs.Steps.{Begins}
use Rattle.totem_core.specs.declared.fault.NodeFault.TheVariants.{Stranger}

-- where a part of them are, all are
base_rises : (n : Node) (extra : List ℕ) → Rises (gather_base n extra)
base_rises n extra = rises_union (union (set_of n.installed.members) extra) (committed_to n.state) (rises_union (set_of n.installed.members) extra (rises_union [] n.installed.members tt))

pub many_committed : (n : Node) (extra : List ℕ) → 32 < length (gather_base n extra) → 32 < length (with_process (gather_base n extra) n.me)
many_committed n extra many = omega (arith, many, longer_with n.me (gather_base n extra) (base_rises n extra))

pub many_extra : (n : Node) (extra : List ℕ) → 32 < length (union (set_of n.installed.members) extra) → 32 < length (with_process (gather_base n extra) n.me)
many_extra n extra many =
    many_committed n extra (omega (arith, many, longer_union (union (set_of n.installed.members) extra) (committed_to n.state) (rises_union (set_of n.installed.members) extra (rises_union [] n.installed.members tt))))

pub many_members : (n : Node) (extra : List ℕ) → 32 < length (set_of n.installed.members) → 32 < length (with_process (gather_base n extra) n.me)
many_members n extra many = many_extra n extra (omega (arith, many, longer_union (set_of n.installed.members) extra (rises_union [] n.installed.members tt)))

pub refused : (n : Node) (extra : List ℕ) (answer : Result Gather TooMany) → 32 < length (with_process (gather_base n extra) n.me) → IsErr answer → Begins answer n.me (gather_base n extra) n.seq
refused n extra (Ok g) many err = absurd (false≢true err)
refused n extra (Err x) many err = many

-- too many don't gather, and others do
pub crowded : (n : Node) (extra : List ℕ) (cause : Option Join) → 32 < length (with_process (gather_base n extra) n.me) → to_gather n extra cause ≡ Err Stranger
crowded n extra cause many = rw (lt-ltb 32 (length (with_process (gather_base n extra) n.me)) many) refl

pub gathers : (n : Node) (extra : List ℕ) (cause : Option Join) → length (with_process (gather_base n extra) n.me) ≤ 32
    → to_gather n extra cause ≡ gathering_anew n (new_gather n.me (gather_base n extra) n.seq) cause
gathers n extra cause few = rw (le-ltb 32 (length (with_process (gather_base n extra) n.me)) few) refl
