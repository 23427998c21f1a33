-- Held messages that are all from one list.
use Rattle.totem_ring.proofs.Common.{arith, ℕ, List, [], ◌∷◌, ◌++◌, nat_cmp, insert_entry, Message, Held, with_message, with_messages}
use Rattle.totem_ring.proofs.Nth.{IsNth, IsNth-append}
use Rattle.std.proofs.lemmas.Bool.Decides.{nat_tests}

abbrev pub AreOf : List Message → Held → Type 0
AreOf msgs [] = Unit {0}
AreOf msgs (e ∷ es) = IsNth msgs e.0 e.1 × AreOf msgs es

pub AreOf-append : (msgs new : List Message) (held : Held) → AreOf msgs held → AreOf (msgs ++ new) held
AreOf-append msgs new [] h = tt
AreOf-append msgs new (e ∷ es) h = (IsNth-append msgs new e.0 e.1 h.0, AreOf-append msgs new es h.1)

AreOf-insert : (msgs : List Message) (held : Held) (n : ℕ) (m : Message) → AreOf msgs held → IsNth msgs n m → AreOf msgs (insert_entry nat_cmp held n m)
AreOf-insert msgs [] n m h nth = (nth, tt)
AreOf-insert msgs (e ∷ es) n m h nth = grind (arith, nat_tests, AreOf-insert msgs es n m)

pub AreOf-with_message : (msgs : List Message) (held : Held) (m : Message) → AreOf msgs held → IsNth msgs m.number m → AreOf msgs (with_message held m)
AreOf-with_message msgs held m h nth = AreOf-insert msgs held m.number m h nth

-- each of the messages is at its number in the list
abbrev pub StandIn : List Message → List Message → Type 0
StandIn msgs [] = Unit {0}
StandIn msgs (m ∷ ms) = IsNth msgs m.number m × StandIn msgs ms

pub AreOf-with_messages : (msgs : List Message) (held : Held) (new : List Message) → AreOf msgs held → StandIn msgs new → AreOf msgs (with_messages held new)
AreOf-with_messages msgs held [] h stand = h
AreOf-with_messages msgs held (m ∷ ms) h stand =
    AreOf-with_messages msgs (with_message held m) ms (AreOf-with_message msgs held m h stand.0) stand.1

pub StandIn-append : (msgs new ms : List Message) → StandIn msgs ms → StandIn (msgs ++ new) ms
StandIn-append msgs new [] h = tt
StandIn-append msgs new (m ∷ ms) h = (IsNth-append msgs new m.number m h.0, StandIn-append msgs new ms h.1)
