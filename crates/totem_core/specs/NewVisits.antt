-- Contracts of the calls that take a visit of a new ring (docs/PROTOCOL.md, "The node").
use Rattle.std.specs.Prelude.{◌≡◌, ⊤, true, Ok, Err}
use Rattle.totem_packets.specs.declared.token.Token.{Token}
use Rattle.totem_ring.specs.Rings.{Ring, first_token}
use Rattle.totem_ring.specs.Steps.{given, on_token}
use Rattle.totem_recover.specs.Exchange.{Leaving, next_bodies, on_ring, obligation_after}
use Rattle.totem_core.specs.declared.leaving.NewVisit.{NewVisit}
use Rattle.totem_core.specs.Outcomes.{Outcome, by_ring, IsRefused}
use Rattle.totem_core.specs.Visiting.{visit_entries, visit_steps, after_visit}
use Rattle.totem_core.specs.Nodes.{Node, State, Recovering, Operational, Gathering, Committing, InRecovery}

-- a visit of the new ring: its result, the entries and ring steps written of it, and the obligation set after it
pub record IsNewlyVisited (v : NewVisit) (r : Leaving) (installed old new : Ring) (t : Token) : Type 0 where
  pub taken : on_token (given old (next_bodies r)) t ≡ Ok (record { state = new; packets = v.out.packets.items; handed = v.out.handed.items })
  pub entries : v.entries.items ≡ visit_entries r installed new v.out.handed.items
  pub steps : v.ring_steps.items ≡ visit_steps old.ring (next_bodies r) t
  pub obligation : v.obligation ≡ obligation_after r new

abbrev pub IsNewVisit : Outcome NewVisit → Leaving → Ring → Ring → Ring → Token → Type 0
IsNewVisit (Ok v) r installed old new t = IsNewlyVisited v r installed old new t
IsNewVisit (Err fault) r installed old new t = IsRefused fault old new (by_ring (on_token (given old (next_bodies r)) t))

-- the same for the new ring's first token; the recovery notes that it was taken here
abbrev pub IsFirstVisit : Outcome NewVisit → Ring → Recovering → Recovering → Type 0
IsFirstVisit (Ok v) installed old new =
    (new ≡ record old { ring = new.ring; started = true })
    × IsNewlyVisited v old.recovery installed old.ring new.ring (first_token old.ring.ring)
IsFirstVisit (Err fault) installed old new =
    IsRefused fault old new (by_ring (on_token (given old.ring (next_bodies old.recovery)) (first_token old.ring.ring)))

-- the visit's obligation set is the one after the visit, if the node is in this state
abbrev pub OwesAfter : NewVisit → State → Type 0
OwesAfter v Operational = ⊤
OwesAfter v (Gathering g) = ⊤
OwesAfter v (Committing g) = ⊤
OwesAfter v (InRecovery x) = v.obligation ≡ obligation_after x.recovery x.ring

-- the node, which was in this state, after the visit is noted
abbrev pub visit_noted : Node → NewVisit → State → Node
visit_noted n v Operational = n
visit_noted n v (Gathering g) = n
visit_noted n v (Committing g) = n
visit_noted n v (InRecovery x) =
    after_visit (record n { quiet = 0 }) x (record { state = x.ring; packets = v.out.packets.items; handed = v.out.handed.items })
    (on_ring x.recovery x.ring v.out.packets.items)
