-- Contracts of the calls that make a transition of membership (docs/PROTOCOL.md, "The node").
use Rattle.std.specs.Prelude.{◌≡◌, ◌<◌, ℕ, List, [], ◌∷◌, Bool, false, if◌then◌else◌, max, Option, None, Some, Ok, Err}
use Rattle.totem_packets.specs.declared.commit.CommitToken.{CommitToken}
use Rattle.totem_packets.specs.Sets.{is_least}
use Rattle.totem_member.specs.declared.views.CommitView.{CommitView}
use Rattle.totem_member.specs.declared.views.Phase.TheVariants.{Gather as InGather}
use Rattle.totem_member.specs.Commits.{first_commit}
use Rattle.totem_member.specs.Gathers.{Gather, consensus}
use Rattle.totem_core.specs.declared.fault.NodeFault.TheVariants.{Memory}
use Rattle.totem_core.specs.declared.outcome.StepOut.{StepOut}
use Rattle.totem_core.specs.declared.transition.Transition.{Transition}
use Rattle.totem_names.specs.Sources.{◌>>=◌}
use Rattle.totem_core.specs.Outcomes.{Outcome, by_member, Fails}
use Rattle.totem_core.specs.Nodes.{Node, Stepped, sending, report}
use Rattle.totem_core.specs.Gathering.{join_broadcast, look_at_consensus}
use Rattle.totem_core.specs.Table.{starting, on_timer, counting, counted}

-- the node after the transition
abbrev pub applied : Node → Transition → Node
applied n transition = record n { state = transition.state; quiet = transition.quiet; seq = transition.seq; filled = transition.filled }

-- the node's step is this transition
abbrev pub Makes : Transition → Node → Stepped → Type 0
Makes transition n done = done ≡ sending (applied n transition) transition.packets.items

-- what the node shows at consensus on these members, when its gathering knows ring numbers up to this one
abbrev pub view_at : Node → List ℕ → ℕ → CommitView
view_at n members seq = record { me = n.me; members = members; seq = max n.seq seq; filled = n.filled; phase = InGather; started = false }

-- the commit token that the node makes at consensus on these members, if there is one, and if it is the least of them
abbrev pub token_at : Node → Option (List ℕ) → ℕ → Outcome (Option CommitToken)
token_at n None seq = Ok None
token_at n (Some members) seq =
    if is_least members n.me then (do
      token ← by_member (first_commit (view_at n members seq) (report n))
      Ok (Some token))
    else Ok None

-- consensus is checked; the gathering's Join is broadcast if it is to be sent again
abbrev pub looking : Node → Gather → Bool → Outcome Stepped
looking n g again = look_at_consensus n g (consensus g) (if again then join_broadcast g ∷ [] else [])

-- the transition is the written step of this node, or the refusal is the written one
abbrev pub IsTransition : Outcome Transition → Node → Outcome Stepped → Type 0
IsTransition (Ok transition) n written = written ≡ Ok (sending (applied n transition) transition.packets.items)
IsTransition (Err fault) n written = Fails fault written

-- the same for a commit token: if there is no transition, the first token of the new ring is taken
abbrev pub IsCommitTransition : Outcome (Option Transition) → Node → Outcome Stepped → Type 0
IsCommitTransition (Ok (Some transition)) n written = written ≡ Ok (sending (applied n transition) transition.packets.items)
IsCommitTransition (Ok None) n written = written ≡ starting n n.state
IsCommitTransition (Err fault) n written = Fails fault written

-- the same for a timer: if there is no transition, it is counted
abbrev pub IsTimerTransition : Outcome (Option Transition) → Node → Type 0
IsTimerTransition (Ok (Some transition)) n = on_timer n n.state ≡ Ok (sending (applied n transition) transition.packets.items)
IsTimerTransition (Ok None) n = (on_timer n n.state ≡ Ok (counting n n.state)) × (n.quiet < 2)
IsTimerTransition (Err fault) n = Fails fault (on_timer n n.state)

-- what is sent when a timer is only counted; the only refusal is out of memory
abbrev pub IsCounting : Outcome StepOut → Node → Type 0
IsCounting (Ok out) n =
    counting n n.state ≡ record { node = counted n; packets = out.packets.items; entries = out.entries.items; ring_steps = out.ring_steps.items }
IsCounting (Err fault) n = fault ≡ Memory
