-- What breaks a specification in one regular configuration breaks it.
use Rattle.totem_evs.proofs.Common.{◌≡◌, inl, inr, suc, List, [], ◌∷◌, Some, refl, arith, RingId, Regular, MsgId, Place, entry_at, SendsAt, Precedes, here, strict, IsHop, BreaksAtomicityIn, BreaksCausalityIn, BreaksIn, Breaks}
use Rattle.totem_evs.specs.declared.entry.Entry.TheVariants.{Send, Deliver}
use Rattle.totem_evs.specs.declared.log.Log.{Log}
use Rattle.totem_evs.specs.declared.spec.SpecNo.{SpecNo}
use Rattle.totem_evs.specs.AgreementFaults.{BreaksAtomicity, BreaksCausality}

-- who sent or delivered m before it sent n did so after the send of m
pub hop_precedes : (run : List Log) (c : RingId) (m n : MsgId) (e f : Place) → SendsAt run e m (Regular c) → SendsAt run f n (Regular c) → IsHop run c m e f → Precedes run e f
hop_precedes run c m n e f (s, at_e) (t, at_f) (inl before) = (e, f, here, inl ((Send m (Regular c) s, at_e), (Send n (Regular c) t, at_f), before), here)
hop_precedes run c m n e f sends (t, at_f) (inr (j, is, (i, lt, delivers))) =
    let g : Place = record { proc = f.proc; at = suc i } in
    let at_g : entry_at run g ≡ Some (Deliver m (Regular c)) = delivers in
    (e, g, here, inr (m, Regular c, sends, (Regular c, at_g)), strict (inl ((Deliver m (Regular c), at_g), (Send n (Regular c) t, at_f), (refl, omega arith))) here)

atomicity : (run : List Log) (c : RingId) (places : List Place) → BreaksAtomicityIn run c places → BreaksAtomicity run places
atomicity run c places h = grind arith

causality : (run : List Log) (c : RingId) (places : List Place) → BreaksCausalityIn run c places → BreaksCausality run places
causality run c (e ∷ f ∷ g ∷ []) (j, at_g, (m, n, first, second, hop, wrong)) = (j, at_g, (c, m, n, first, second, hop_precedes run c m n e f first second hop, wrong))
causality run c [] h = h
causality run c (e ∷ []) h = h
causality run c (e ∷ f ∷ []) h = h
causality run c (e ∷ f ∷ g ∷ x ∷ more) h = h

pub breaks_in : (run : List Log) (c : RingId) (k : SpecNo) (places : List Place) → BreaksIn run c k places → Breaks run k places
breaks_in run c k places h = grind (arith, atomicity, causality)
