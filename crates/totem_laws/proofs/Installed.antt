-- If each entry names the configuration that it is in, a process that never changed to a configuration did nothing in it.
use Rattle.totem_evs.proofs.Common.{ℕ, inl, inr, List, [], ◌∷◌, refl, RingId, ConfId, Regular, MsgId, log_of, ChangesTo, StaysInPlace}
use Rattle.totem_cert.proofs.Common.{Deliver, Fail, Log}
use Rattle.totem_evs.specs.Following.{Com, DeliversOrEnds}
use Rattle.totem_laws.specs.Laws.{InstalledBreaksWithSafety}

module _ (run : List Log) (q : ℕ) (c : RingId) (never : (j : ℕ) → ChangesTo (log_of run q) j (Regular c) → ⊥) where
  -- no change could have put the log in c or in what follows it
  not_there : (d : ConfId) (j : ℕ) → ChangesTo (log_of run q) j d → Com (log_of run q) c d → ⊥
  not_there d j change (inl same) = never j (rw same at change)
  not_there d j change (inr follows) = never follows.from follows.first.change

  nothing_there : (m : MsgId) → StaysInPlace (log_of run q) → DeliversOrEnds run q c m → ⊥
  nothing_there m placed (inl (i, (d, delivers, stays))) =
      let stands = placed.named i d (Deliver m d, delivers, refl) in not_there d stands.from stands.change stays
  nothing_there m placed (inr (inl (i, d, fails, stays))) =
      let stands = placed.named i d (Fail d, fails, refl) in not_there d stands.from stands.change stays
  nothing_there m placed (inr (inr (loud, (d, goes_on, last, stays)))) = not_there d last.index last.change stays

pub with_safety : InstalledBreaksWithSafety
with_safety run (e ∷ []) placed (c, (i, at, (m, q, safe, delivers, member, never))) =
    (c, (i, at, (m, Regular c, q, safe, delivers, inl refl, member, nothing_there run q c never m (placed q))))
with_safety run [] placed h = h
with_safety run (e ∷ f ∷ more) placed h = h
