-- A run with a certificate has no closed list.
use Rattle.totem_cert.proofs.Common.{◌≡◌, ℕ, zero, suc, ◌<◌, List, Some, arith, Place, Log, Numbering, number_at, Certified, Placed, placed, ClosedListsExcludeCertificates}
use Rattle.totem_evs.proofs.Ordered.{has_number}
use Rattle.totem_cert.proofs.One.{waits_below}

-- an event that a certificate numbers gets its number sooner or later
numbered_placed : (run : List Log) (lines : List Numbering) → Certified run lines → (n k : ℕ) (e : Place) → k < n → number_at lines e ≡ Some k → Placed run e
numbered_placed run lines cert zero k e lt at = absurd (omega arith)
numbered_placed run lines cert (suc n) k e lt at = placed (λ g waits. (let b = waits_below run lines e g k cert at waits in numbered_placed run lines cert n b.number g (let under = b.below in omega arith) b.given))

pub excluded : ClosedListsExcludeCertificates
excluded run k places lines closed cert =
    let left = closed.begins.left in
    let n = has_number run lines closed.start cert.matches left.event in
    left.never (numbered_placed run lines cert (suc n.0) n.0 closed.start (omega arith) n.1)
