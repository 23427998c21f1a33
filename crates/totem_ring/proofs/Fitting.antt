-- Every packet that a step sends is from the lists.
use Rattle.totem_ring.proofs.Common.{arith, ◌≡◌, ℕ, List, [], ◌∷◌, ◌++◌, map, Some, All, filter_map, All-nil, All-cons, Message, Token, Held, message_at, Sending, broadcasts}
use Rattle.totem_ring.proofs.Nth.{IsNth, IsOf}
use Rattle.totem_ring.proofs.HeldOnes.{AreOf, StandIn}
use Rattle.totem_ring.proofs.Numbering.{AreNumbered}
use Rattle.std.proofs.lemmas.Bool.Decides.{nat_tests}

abbrev pub AllFit : List Token → List Message → List Sending → Type 0
AllFit tokens msgs [] = Unit {0}
AllFit tokens msgs (s ∷ ss) = IsOf tokens msgs s.1 × AllFit tokens msgs ss

pub AllFit-append : (tokens : List Token) (msgs : List Message) (xs ys : List Sending) → AllFit tokens msgs xs → AllFit tokens msgs ys → AllFit tokens msgs (xs ++ ys)
AllFit-append tokens msgs [] ys h k = k
AllFit-append tokens msgs (x ∷ xs) ys h k = (h.0, AllFit-append tokens msgs xs ys h.1 k)

pub AllFit-broadcasts : (tokens : List Token) (msgs ms : List Message) → StandIn msgs ms → AllFit tokens msgs (broadcasts ms)
AllFit-broadcasts tokens msgs [] h = tt
AllFit-broadcasts tokens msgs (m ∷ ms) h = (h.0, AllFit-broadcasts tokens msgs ms h.1)

pub All-packets : (tokens : List Token) (msgs : List Message) (xs : List Sending) → AllFit tokens msgs xs → All (IsOf tokens msgs) (map (λ (s : Sending). s.1) xs)
All-packets tokens msgs [] h = All-nil (IsOf tokens msgs)
All-packets tokens msgs (x ∷ xs) h = All-cons (IsOf tokens msgs) x.1 (map (λ (s : Sending). s.1) xs) h.0 (All-packets tokens msgs xs h.1)

at_number : (msgs : List Message) → AreNumbered msgs → (n : ℕ) (m : Message) → IsNth msgs n m → IsNth msgs m.number m
at_number msgs numbers n m nth = record { before = nth.before; after = numbers.number nth.before m nth.at; at = nth.at }

-- a message that is found is from the list
found : (msgs : List Message) (held : Held) (n : ℕ) (m : Message) → AreNumbered msgs → AreOf msgs held → message_at held n ≡ Some m → IsNth msgs m.number m
found msgs [] n m numbers h e = absurd cc
found msgs (e ∷ es) n m numbers h is = grind (arith, nat_tests, at_number, found msgs es n m)

pub requested_stand : (msgs : List Message) (held : Held) (rtr : List ℕ) → AreNumbered msgs → AreOf msgs held → StandIn msgs (filter_map (message_at held) rtr)
requested_stand msgs held [] numbers h = tt
requested_stand msgs held (n ∷ ns) numbers h = grind (arith, found, requested_stand msgs held ns)
