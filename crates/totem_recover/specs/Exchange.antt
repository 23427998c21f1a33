-- What the members of a new ring report to each other about their old rings (docs/PROTOCOL.md, "Recovery").
use Rattle.std.specs.Prelude.{ℕ, ◌==◌, ◌&&◌, ◌≤◌, List, [], ◌∷◌, ◌++◌, length, map, filter, fold, take, drop, min, max, Bool, true, false, if◌then◌else◌, nat_lt, nat_le, IsTrue, Option, None, Some}
use Rattle.std.specs.List.{filter_map}
use Rattle.totem_names.specs.Names.{RingName}
use Rattle.totem_names.specs.Ranks.{id_of}
use Rattle.totem_packets.specs.declared.commit.CommitToken.{CommitToken}
use Rattle.totem_packets.specs.declared.commit_member.CommitMember.{CommitMember}
use Rattle.totem_packets.specs.declared.commit_member.Report.{Report}
use Rattle.totem_packets.specs.declared.message.Body.{Body}
use Rattle.totem_packets.specs.declared.message.Body.TheVariants.{App, Old, Mark}
use Rattle.totem_packets.specs.declared.message.Message as message
use Rattle.totem_packets.specs.declared.packet.Packet as packet
use Rattle.totem_packets.specs.declared.packet.Packet.TheVariants as packets
use Rattle.totem_packets.specs.Lives.{member_ranks, transitional_ranks}
use Rattle.totem_packets.specs.OldRings.{transitional_set, least_aru, greatest_delivered, obligation_union}
use Rattle.totem_packets.specs.Sets.{has}
use Rattle.totem_ring.specs.declared.outcome.To.{To}
use Rattle.totem_ring.specs.declared.outcome.To.TheVariants.{All, One}
use Rattle.totem_ring.specs.Rings.{Ring, Held, aru_of}

-- a member on its way from its old ring to a new one
pub record Leaving : Type 0 where
  pub me : ℕ
  pub ring : RingName  -- the new ring
  pub members : List ℕ  -- its members
  pub transitional : List ℕ  -- T
  pub high : ℕ  -- H
  pub obliged : List ℕ  -- O
  pub list : List Body  -- what is still to be sent on the new ring
  pub sent : ℕ  -- the greatest of the member's numbers on the new ring that was noted
  pub obligation : List ℕ  -- the member's obligation set

-- ---- the list to send

-- a client's message of the old ring as it is sent on the new one
abbrev pub sent_again : message.Message → Option Body
sent_again m = again m.body
  where
    again : Body → Option Body
    again (App service payload) = Some (Old m.ring m.number m.sender service payload)
    again (Old ring number sender service payload) = None
    again Mark = None

-- the messages held above a number, in ascending order
abbrev pub held_above : ℕ → Held → Held
held_above low held = filter (λ e. nat_lt low e.0) held

-- the messages held above low in ascending order, each in a body that carries it; then one mark
abbrev pub list_to_send : ℕ → Held → List Body
list_to_send low held = filter_map (λ e. sent_again e.1) (held_above low held) ++ Mark ∷ []

-- ---- the beginning

abbrev pub obligation_in : Option Report → List ℕ
obligation_in None = []
obligation_in (Some r) = r.obligation

-- the obligation set that this process reported
abbrev pub reported_obligation : List CommitMember → ℕ → List ℕ
reported_obligation [] p = []
reported_obligation (m ∷ ms) p = if m.proc == p then obligation_in m.report else reported_obligation ms p

abbrev pub new_recovery : ℕ → Ring → CommitToken → Leaving
new_recovery me prev token = record {
  me = me;
  ring = token.ring;
  members = member_ranks token.members;
  transitional = transitional_ranks prev.ring token.members;
  high = greatest_delivered prev.ring token.members;
  obliged = obligation_union prev.ring token.members;
  list = list_to_send (least_aru prev.ring token.members) prev.held;
  sent = 0;
  obligation = reported_obligation token.members me;
}

-- ---- a visit

-- how many bodies a visit numbers at most
abbrev pub most_at_a_visit : ℕ
most_at_a_visit = 16

-- the bodies for the next visit
abbrev pub next_bodies : Leaving → List Body
next_bodies r = take most_at_a_visit r.list

-- the number of a message that this process broadcast, if it is above the noted ones
abbrev pub sent_anew : ℕ → ℕ → To × packet.Packet → Option ℕ
sent_anew me sent sending = numbered sending.0 sending.1
  where
    numbered : To → packet.Packet → Option ℕ
    numbered All (packets.Message m) = if (m.sender == me) && nat_lt sent m.number then Some m.number else None
    numbered All (packets.Token t) = None
    numbered All (packets.Join j) = None
    numbered All (packets.Commit t) = None
    numbered (One p) other = None

-- the numbers of the member's messages that the visit numbered
abbrev pub numbers_sent : Leaving → List (To × packet.Packet) → List ℕ
numbers_sent r sendings = filter_map (sent_anew r.me r.sent) sendings

abbrev pub is_mark : Body → Bool
is_mark (App service payload) = false
is_mark (Old ring number sender service payload) = false
is_mark Mark = true

-- the number of the process's mark, the least if it sent several
abbrev pub mark_of : Held → ℕ → Option ℕ
mark_of [] p = None
mark_of (e ∷ es) p = if (e.1.sender == p) && is_mark e.1.body then Some e.0 else mark_of es p

abbrev pub at_least : ℕ → Option ℕ → Option ℕ
at_least n None = None
at_least n (Some k) = Some (max n k)

-- the greatest of the numbers, if all exist
abbrev pub greatest_of_all : List (Option ℕ) → Option ℕ
greatest_of_all [] = Some 0
greatest_of_all (None ∷ ns) = None
greatest_of_all (Some n ∷ ns) = at_least n (greatest_of_all ns)

-- the number of the last mark, if every member's mark is held
abbrev pub last_mark : Leaving → Ring → Option ℕ
last_mark r ring = greatest_of_all (map (λ p. mark_of ring.held (id_of p)) r.members)

-- the number exists and is at most top
abbrev pub is_reached : Option ℕ → ℕ → Bool
is_reached None top = false
is_reached (Some n) top = nat_le n top

-- the member's obligation set after a visit: if all marks are held and its aru on the new ring is at or above each, it is O
abbrev pub obligation_after : Leaving → Ring → List ℕ
obligation_after r ring = if is_reached (last_mark r ring) (aru_of ring.held) then r.obliged else r.obligation

-- After a visit: what it numbered is removed from the list, and the obligation set may have become O.
abbrev pub on_ring : Leaving → Ring → List (To × packet.Packet) → Leaving
on_ring r ring sendings =
    let numbers = numbers_sent r sendings in
    record r {
      list = drop (min most_at_a_visit (length numbers)) r.list;
      sent = fold max r.sent numbers;
      obligation = obligation_after r ring;
    }

-- every member's mark is delivered to the node
abbrev pub is_done : Leaving → Ring → Bool
is_done r ring = is_reached (last_mark r ring) ring.handed

-- ---- the duty

-- A recovery may begin: in the token the member reports the ring that it leaves, and O is a set of at most 32 processes.
pub record IsReady (me : ℕ) (prev : Ring) (token : CommitToken) : Type 0 where
  pub mine : IsTrue (has (transitional_set prev.ring token.members) me)
  pub few : length (obligation_union prev.ring token.members) ≤ 32
