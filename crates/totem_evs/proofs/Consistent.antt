-- A run that meets a specification, everywhere or in one regular configuration, has nothing that breaks it there.
use Rattle.totem_evs.proofs.Common.{ℕ, inl, inr, List, [], ◌∷◌, arith, RingId, ConfId, Regular, Transitional, Place, log_of, IsRegular, IsTransitional, StaysInPlace, TakesTurns, AtomicityIn, CausalityIn, BreaksAtomicityIn, BreaksCausalityIn, BreaksIn, MeetsIn, Breaks, Meets, BreaksAreBreaks}
use Rattle.totem_evs.specs.declared.entry.Entry.{Entry}
use Rattle.totem_evs.specs.declared.log.Log.{Log}
use Rattle.totem_evs.specs.declared.spec.SpecNo.{SpecNo}
use Rattle.totem_evs.specs.declared.spec.SpecNo.TheVariants as spec
use Rattle.totem_evs.specs.Agreement.{Goes, OwnDeliveryIn, NoGapsIn, SafetyIn, InstalledIn}
use Rattle.totem_evs.specs.Synchrony.{IsVirtuallySynchronous}
use Rattle.totem_evs.specs.DeliveryFaults.{BreaksUnsent, BreaksTwice}
use Rattle.totem_evs.specs.ChangeFaults.{IsMisplaced, BreaksEnd, BreaksPlace, BreaksConfiguration, AreWrongNeighbours, BreaksTurns}
use Rattle.totem_evs.specs.AgreementFaults.{GoesAt, BreaksOwnDeliveryIn, BreaksAtomicity, BreaksCausality, BreaksGapIn, BreaksSafetyIn, BreaksInstalledIn}
use Rattle.totem_evs.proofs.Closed.{closed_cycles, closed_rises}

-- ---- 1 and 2

pub not_both : (x : ConfId) → IsRegular x → IsTransitional x → ⊥
not_both x r t = grind arith

unsent : (run : List Log) (places : List Place) → BreaksUnsent run places → Meets run spec.Unsent → ⊥
unsent run places h k = grind arith

twice : (run : List Log) (places : List Place) → BreaksTwice run places → Meets run spec.Twice → ⊥
twice run (e ∷ []) (i, at, (m, x, sends, t)) ok = not_both x (ok.regular e.proc i m x sends) t
twice run (e ∷ f ∷ []) (i, at, (j, at', inl (m, x, y, s, t, other))) ok =
    let one = ok.one_send e.proc i f.proc j m x y s t in elim other [ inl never ↦ never one.0 | inr never ↦ never one.1 ]
twice run (e ∷ f ∷ []) (i, at, (j, at', inr (m, x, y, s, t, same, never))) ok = never (ok.one_delivery e.proc i j m x y s (rw same t))
twice run [] h ok = h
twice run (e ∷ f ∷ g ∷ more) h ok = h

ends_alone : (run : List Log) (places : List Place) → BreaksEnd run places → Meets run spec.End → ⊥
ends_alone run places h k = grind arith

-- what stays in place has nothing out of place
pub placed_contradicts : (log : List Entry) (i : ℕ) → StaysInPlace log → IsMisplaced log i → ⊥
placed_contradicts log i ok (lt, inl (zero, never)) = never (rw zero (ok.begins (omega arith)))
placed_contradicts log i ok (lt, inr (inl (x, names, never))) = never (ok.named i x names)
placed_contradicts log i ok (lt, inr (inr (k, x, before, fails))) = ok.final k i x fails before lt

misplaced : (run : List Log) (places : List Place) → BreaksPlace run places → Meets run spec.Misplaced → ⊥
misplaced run (e ∷ []) (i, at, h) ok = placed_contradicts (log_of run e.proc) i (ok e.proc) h
misplaced run [] h ok = h
misplaced run (e ∷ f ∷ more) h ok = h

configuration : (run : List Log) (places : List Place) → BreaksConfiguration run places → Meets run spec.Configuration → ⊥
configuration run (e ∷ []) (i, at, (x, ms, changes, never)) ok = never (ok.own e.proc i x ms changes)
configuration run (e ∷ f ∷ []) (i, at, (j, at', (x, ms, ns, s, t, inl (same, never)))) ok = never (ok.once e.proc i j x (ms, s) (ns, rw same t))
configuration run (e ∷ f ∷ []) (i, at, (j, at', (x, ms, ns, s, t, inr never))) ok = never (ok.members e.proc i f.proc j x ms ns s t)
configuration run [] h ok = h
configuration run (e ∷ f ∷ g ∷ more) h ok = h

neighbours : (log : List Entry) (i j : ℕ) → TakesTurns log → AreWrongNeighbours log i j → ⊥
neighbours log i j ok (x, y, ms, ns, next, inl (r, s)) = not_both y s ((ok.turns i j x y ms ns next).0 r)
neighbours log i j ok (x, y, ms, ns, next, inr (inl (r, s))) = not_both x ((ok.turns i j x y ms ns next).1 s) r
neighbours log i j ok (Regular c, y, ms, ns, next, inr (inr (inl (r, t, never)))) = never (ok.from i j c y ms ns t next)
neighbours log i j ok (Transitional l c, y, ms, ns, next, inr (inr (inl (r, t, never)))) = r
neighbours log i j ok (x, Regular c, ms, ns, next, inr (inr (inr (inl (t, r, never))))) = never (ok.to i j x c ms ns t next)
neighbours log i j ok (x, Transitional l c, ms, ns, next, inr (inr (inr (inl (t, r, never))))) = r
neighbours log i j ok (x, y, ms, ns, next, inr (inr (inr (inr (c, d, least, is_x, is_y, other))))) =
    other (ok.named i j c d least ms ns (rw (is_x, is_y) at next))

turns : (run : List Log) (places : List Place) → BreaksTurns run places → Meets run spec.Turns → ⊥
turns run (e ∷ []) (i, at, (x, change, t, first)) ok = not_both x ((ok.each e.proc).regular_first i x change first) t
turns run (e ∷ f ∷ []) (i, at, (j, at', (same, inl wrong))) ok = neighbours (log_of run e.proc) i j (ok.each e.proc) wrong
turns run (e ∷ f ∷ []) (i, at, (j, at', (same, inr wrong))) ok = neighbours (log_of run e.proc) j i (ok.each e.proc) wrong
turns run (e ∷ f ∷ g ∷ h ∷ []) (i, at, (j, at', (o, at'', (l, at''', (same, same', (lt, c, d, t, ms, ns, ks, ls, moves, never, first, second)))))) ok =
    never (ok.origin e.proc i j g.proc o l c d t ms ns ks ls lt moves first second)
turns run [] h ok = h
turns run (e ∷ f ∷ g ∷ []) h ok = h
turns run (e ∷ f ∷ g ∷ h ∷ x ∷ more) b ok = b

-- ---- 3 to 7, in one regular configuration

goes : (log : List Entry) (x d : ConfId) (j : ℕ) → GoesAt log x d j → Goes log x d
goes log x d j (i, from, next, to) = (i, j, from, next, to)

own_in : (run : List Log) (c : RingId) (places : List Place) → BreaksOwnDeliveryIn run c places → OwnDeliveryIn run c → ⊥
own_in run c (e ∷ []) (i, at, (m, sends, never)) ok = never (ok.each e.proc i m sends)
own_in run c [] h ok = h
own_in run c (e ∷ f ∷ more) h ok = h

atomicity_in : (run : List Log) (c : RingId) (places : List Place) → BreaksAtomicityIn run c places → AtomicityIn run c → ⊥
atomicity_in run c (e ∷ f ∷ g ∷ []) (i, at_e, (j, at_f, (l, at_g, (same, (x, stays, (m, d, delivers, by_p, by_q, never)))))) ok =
    let there = ok.each e.proc g.proc x d stays (goes _ x d j by_p) (goes _ x d l by_q) i m delivers in never there.0 there.1
atomicity_in run c [] h ok = h
atomicity_in run c (e ∷ []) h ok = h
atomicity_in run c (e ∷ f ∷ []) h ok = h
atomicity_in run c (e ∷ f ∷ g ∷ x ∷ more) h ok = h

causality_in : (run : List Log) (c : RingId) (places : List Place) → BreaksCausalityIn run c places → CausalityIn run c → ⊥
causality_in run c (e ∷ f ∷ g ∷ []) (j, at_g, (m, n, first, second, before, (delivers, never))) ok =
    let there = ok.each m n e f first second before g.proc j delivers in never there.0 there.1 there.2
causality_in run c [] h ok = h
causality_in run c (e ∷ []) h ok = h
causality_in run c (e ∷ f ∷ []) h ok = h
causality_in run c (e ∷ f ∷ g ∷ x ∷ more) h ok = h

gap_in : (run : List Log) (c : RingId) (places : List Place) → BreaksGapIn run c places → NoGapsIn run c → ⊥
gap_in run c (e ∷ f ∷ g ∷ []) (i, at_e, (j, at_f, (l, at_g, (same, (m, n, d, x, s, o, del_m, del_n, lt, delivers, stays, sends, member, never))))) ok =
    never (ok.each m n e.proc i j g.proc l d del_m del_n lt delivers stays s o x sends member)
gap_in run c [] h ok = h
gap_in run c (e ∷ []) h ok = h
gap_in run c (e ∷ f ∷ []) h ok = h
gap_in run c (e ∷ f ∷ g ∷ x ∷ more) h ok = h

safety_in : (run : List Log) (c : RingId) (places : List Place) → BreaksSafetyIn run c places → SafetyIn run c → ⊥
safety_in run c places h k = grind arith

installed_in : (run : List Log) (c : RingId) (places : List Place) → BreaksInstalledIn run c places → InstalledIn run c → ⊥
installed_in run c (e ∷ []) (i, at, (m, q, safe, delivers, member, never)) ok = let j = ok.each m e.proc i q safe delivers member in never j.0 j.1
installed_in run c [] h ok = h
installed_in run c (e ∷ f ∷ more) h ok = h

pub not_met_in : (run : List Log) (c : RingId) (k : SpecNo) (places : List Place) → BreaksIn run c k places → MeetsIn run c k → ⊥
not_met_in run c k places h m = grind (arith, own_in, atomicity_in, causality_in, gap_in, safety_in, installed_in)

-- ---- 3 to 7

atomicity : (run : List Log) (places : List Place) → BreaksAtomicity run places → Meets run spec.Atomicity → ⊥
atomicity run (e ∷ f ∷ g ∷ []) (i, at_e, (j, at_f, (l, at_g, (same, (x, (m, d, delivers, by_p, by_q, never)))))) ok =
    let there = ok e.proc g.proc x d (goes _ x d j by_p) (goes _ x d l by_q) i m delivers in never there.0 there.1
atomicity run [] h ok = h
atomicity run (e ∷ []) h ok = h
atomicity run (e ∷ f ∷ []) h ok = h
atomicity run (e ∷ f ∷ g ∷ x ∷ more) h ok = h

causality : (run : List Log) (places : List Place) → BreaksCausality run places → Meets run spec.Causality → ⊥
causality run (e ∷ f ∷ g ∷ []) (j, at_g, (c, m, n, first, second, before, (delivers, never))) ok =
    let there = ok c m n e f first second before g.proc j delivers in never there.0 there.1 there.2
causality run [] h ok = h
causality run (e ∷ []) h ok = h
causality run (e ∷ f ∷ []) h ok = h
causality run (e ∷ f ∷ g ∷ x ∷ more) h ok = h

-- ---- each specification

pub not_met : (run : List Log) (k : SpecNo) (places : List Place) → Breaks run k places → Meets run k → ⊥
not_met run spec.Cycle places h ok = closed_cycles run places ok h
not_met run spec.Unsent places h ok = unsent run places h ok
not_met run spec.Twice places h ok = twice run places h ok
not_met run spec.End places h ok = ends_alone run places h ok
not_met run spec.Misplaced places h ok = misplaced run places h ok
not_met run spec.Configuration places h ok = configuration run places h ok
not_met run spec.Turns places h ok = turns run places h ok
not_met run spec.OwnDelivery places h ok = own_in run h.0 places h.1 (ok h.0)
not_met run spec.Atomicity places h ok = atomicity run places h ok
not_met run spec.Causality places h ok = causality run places h ok
not_met run spec.Order places h ok = closed_rises run ok.0 ok.1 places h
not_met run spec.Gap places h ok = gap_in run h.0 places h.1 (ok h.0)
not_met run spec.Safety places h ok = safety_in run h.0 places h.1 (ok h.0)
not_met run spec.Installed places h ok = installed_in run h.0 places h.1 (ok h.0)

-- what a run that meets the specifications meets
pub one_of : (run : List Log) → IsVirtuallySynchronous run → (k : SpecNo) → Meets run k
one_of run h k = grind (arith, turns)

pub breaks : BreaksAreBreaks
breaks run k places h ev = not_met run k places h (one_of run ev k)
