-- A node's state, the ring of the commit token that it made or filled last, and the numbers of its rings.
use Rattle.totem_weave.proofs.Common.{◌≡◌, ℕ, ◌+◌, ◌<◌, ◌≤◌, false, Option, None, Some, is_some, sym, subst, arith, All, true≢false, RingName, Ring, Gather, State, Node, Stepped}
use Rattle.totem_core.specs.declared.state.State.TheVariants.{Operational, Gathering, Committing, InRecovery}

-- the ring made or filled last is above the installed one, and the node's number is no less than theirs
abbrev pub IsAbove : Option RingName → ℕ → ℕ → Type 0
IsAbove None installed seq = installed ≤ seq
IsAbove (Some ring) installed seq = (installed < ring.seq) × (ring.seq ≤ seq)

-- in Operational no commit token was made or filled since the installing, and a recovery is on the ring made or filled last
abbrev pub Suits : State → Option RingName → Type 0
Suits Operational filled = is_some filled ≡ false
Suits (Gathering g) filled = Unit {0}
Suits (Committing g) filled = Unit {0}
Suits (InRecovery x) filled = filled ≡ Some x.ring.ring

-- the least number of a ring on which a step can still follow
abbrev pub least_from : Option RingName → ℕ → ℕ
least_from None installed = installed
least_from (Some ring) installed = installed + 1

-- a node's state, what it made or filled last, its installed ring's number and its own suit one another,
-- and no step can follow on a ring below this number
pub record Stands (least : ℕ) (state : State) (filled : Option RingName) (installed seq : ℕ) : Type 0 where
  pub above : IsAbove filled installed seq
  pub suits : Suits state filled
  pub none_below : least ≤ least_from filled installed

abbrev pub NodeStands : ℕ → Node → Type 0
NodeStands least n = Stands least n.state n.filled n.installed.ring.seq n.seq

-- no step is on a ring below the number, and the same holds of the node after it
pub record Goes (least : ℕ) (s : Stepped) : Type 0 where
  pub stands : NodeStands least s.node
  pub steps : All (λ step. least ≤ step.ring.seq) s.ring_steps

up_to : (filled : Option RingName) (installed seq : ℕ) → IsAbove filled installed seq → installed ≤ seq
up_to None installed seq above = above
up_to (Some ring) installed seq above = omega arith

one_more : (least : ℕ) (filled : Option RingName) (installed : ℕ) → least ≤ least_from filled installed → least ≤ installed + 1
one_more least None installed low = omega arith
one_more least (Some ring) installed low = low

unsealed : (least : ℕ) (filled : Option RingName) (installed : ℕ) → is_some filled ≡ false → least ≤ least_from filled installed → least ≤ installed
unsealed least None installed is low = low
unsealed least (Some ring) installed is low = absurd (true≢false is)

module _ (least : ℕ) (n : Node) (s : NodeStands least n) where
  -- until it is sealed, a node can take steps on the installed ring
  pub on_installed : is_some n.filled ≡ false → least ≤ n.installed.ring.seq
  on_installed is = unsealed least n.filled n.installed.ring.seq is s.none_below

  -- and then on the ring made or filled last
  pub on_new : (ring : RingName) → n.filled ≡ Some ring → (least ≤ ring.seq) × (ring.seq ≤ n.seq)
  on_new ring is =
      let t : Stands least n.state (Some ring) n.installed.ring.seq n.seq = subst (λ (f : Option RingName). Stands least n.state f n.installed.ring.seq n.seq) is s in
      (omega (arith, t.above.0, t.none_below), t.above.1)

  -- it goes to this state
  pub turned : (state : State) → Suits state n.filled → Stands least state n.filled n.installed.ring.seq n.seq
  turned state suits = record { above = s.above; suits = suits; none_below = s.none_below }

  -- its installed ring takes a step
  pub still_installed : (ring : Ring) → ring.ring ≡ n.installed.ring → Stands least n.state n.filled ring.ring.seq n.seq
  still_installed ring same = subst (λ (name : RingName). Stands least n.state n.filled name.seq n.seq) (sym same) s

  -- it makes or fills the commit token of a ring above its number
  pub sealed : (g : Gather) (ring : RingName) → n.seq < ring.seq → Stands least (Committing g) (Some ring) n.installed.ring.seq ring.seq
  sealed g ring more =
      let low : n.installed.ring.seq ≤ n.seq = up_to n.filled n.installed.ring.seq n.seq s.above in
      record { above = (omega arith, omega arith); suits = tt; none_below = one_more least n.filled n.installed.ring.seq s.none_below }
