-- The fate of a packet, given by a random word (docs/PROTOCOL.md, "The network").
use Rattle.std.specs.Prelude.{ℕ, ◌+◌, ◌/◌, ◌%◌, nat_lt, if◌then◌else◌}
use Rattle.totem_net.specs.declared.copies.Fate.{Fate}
use Rattle.totem_net.specs.Plans.{Odds}

-- how many copies arrive: none, two or one, depending on the word's last two digits
abbrev pub copies_of : ℕ → Odds → ℕ
copies_of word plan =
    (if nat_lt (word % 100) plan.lose
    then 0
    else (if nat_lt (word % 100) (plan.lose + plan.repeat) then 2 else 1))

-- how many packets a copy lets pass, given by the digits of the word above this unit
abbrev pub held_for : ℕ → ℕ → Odds → ℕ
held_for unit word plan = (word / unit) % (plan.hold + 1)

-- the fate given by a word
abbrev pub fate_of : ℕ → Odds → Fate
fate_of word plan = record {
  copies = copies_of word plan;
  first = held_for 100 word plan;
  second = held_for 10000 word plan;
}
