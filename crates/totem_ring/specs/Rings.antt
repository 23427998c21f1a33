-- The state of one member on its ring (docs/PROTOCOL.md, "The ring").
use Rattle.std.specs.Prelude.{ℕ, ◌+◌, ◌-◌, ◌%◌, ◌==◌, ◌&&◌, List, [], ◌∷◌, length, slice_index, Bool, true, false, is_some, filter, if◌then◌else◌, nat_le, Option, None, unwrap_or, position}
use Rattle.std.specs.Ordering.{nat_cmp}
use Rattle.std.specs.BTreeMap.{is_at, insert_entry}
use Rattle.std.specs.Map.{lookup, remove_entry}
use Rattle.totem_names.specs.declared.message.Service.TheVariants.{Agreed, Safe}
use Rattle.totem_names.specs.Names.{RingName}
use Rattle.totem_packets.specs.declared.message.Body.{Body}
use Rattle.totem_packets.specs.declared.message.Body.TheVariants.{App, Old, Mark}
use Rattle.totem_packets.specs.declared.message.Message.{Message}
use Rattle.totem_packets.specs.declared.token.Token.{Token}

-- messages by ascending number
abbrev pub Held : Type 0
Held = List (ℕ × Message)

pub record Ring : Type 0 where
  pub me : ℕ
  pub ring : RingName
  pub members : List ℕ
  pub held : Held
  pub handed : ℕ  -- the greatest number delivered to the node
  pub safe_to : ℕ  -- safe messages up to here may be delivered to the node
  pub sent_aru : ℕ  -- the aru of the token when it last left
  pub last : ℕ  -- the last token_seq taken
  pub waiting : List Body
  pub kept : Option Token  -- the token passed on last, if there was no sign of its arrival

-- the state of a member of a new ring
abbrev pub new_ring : ℕ → RingName → List ℕ → Ring
new_ring me ring members = record {
  me = me;
  ring = ring;
  members = members;
  held = [];
  handed = 0;
  safe_to = 0;
  sent_aru = 0;
  last = 0;
  waiting = [];
  kept = None;
}

-- the first token of a ring
abbrev pub first_token : RingName → Token
first_token ring = record { ring = ring; token_seq = 1; seq = 0; aru = 0; aru_id = None; rtr = [] }

abbrev pub same_ring : RingName → RingName → Bool
same_ring a b = (a.seq == b.seq) && (a.rep == b.rep)

-- the held message of this number
abbrev pub message_at : Held → ℕ → Option Message
message_at held n = lookup (is_at (nat_cmp n)) held

abbrev pub holds : Held → ℕ → Bool
holds held n = is_some (message_at held n)

-- with one more message
abbrev pub with_message : Held → Message → Held
with_message held m = insert_entry nat_cmp held m.number m

-- without the message of this number
abbrev pub without : Held → ℕ → Held
without held n = remove_entry (is_at (nat_cmp n)) held

-- the held messages up to a number
abbrev pub up_to : ℕ → Held → Held
up_to seq held = filter (λ e. nat_le e.0 seq) held

abbrev pub with_messages : Held → List Message → Held
with_messages held [] = held
with_messages held (m ∷ ms) = with_messages (with_message held m) ms

-- the greatest n such that all from low + 1 to n are held
abbrev pub whole_above : ℕ → Held → ℕ
whole_above low [] = low
whole_above low (e ∷ es) = if e.0 == low + 1 then whole_above (low + 1) es else low

-- the greatest n such that 1 to n are held
abbrev pub aru_of : Held → ℕ
aru_of held = whole_above 0 held

-- the member that takes the token with this token_seq
abbrev pub taker_of : List ℕ → ℕ → ℕ
taker_of members token_seq = slice_index members ((token_seq - 1) % length members)

-- the next member, or the first after the last
abbrev pub next_of : Ring → ℕ
next_of s = slice_index s.members ((unwrap_or (position (λ p. p == s.me) s.members) 0 + 1) % length s.members)

-- an agreed message only waits for its turn, a safe one also until all may hold it. Old counts as agreed, Mark as safe
abbrev pub is_agreed : Body → Bool
is_agreed (App Agreed payload) = true
is_agreed (App Safe payload) = false
is_agreed (Old ring number sender service payload) = true
is_agreed Mark = false

abbrev pub may_go_up : ℕ → ℕ × Message → Bool
may_go_up safe_to e = if is_agreed e.1.body then true else nat_le e.0 safe_to

-- the messages to deliver to the node: handed + 1 and so on, while each is held and may be delivered
abbrev pub going_up : ℕ → ℕ → Held → List Message
going_up handed safe_to [] = []
going_up handed safe_to (e ∷ es) =
    if nat_le e.0 handed then going_up handed safe_to es
    else if (e.0 == handed + 1) && may_go_up safe_to e then e.1 ∷ going_up (handed + 1) safe_to es
    else []

-- the messages delivered to the node, and the state after that
abbrev pub handed_up : Ring → List Message
handed_up s = going_up s.handed s.safe_to s.held

abbrev pub after_hand_up : Ring → Ring
after_hand_up s = record s { handed = s.handed + length (handed_up s) }
