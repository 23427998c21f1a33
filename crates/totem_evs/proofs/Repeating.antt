-- An entry whose line repeats, as the next part of a run.
use Rattle.totem_evs.proofs.Common.{Contains, ◌↔◌, ◌==◌, nat_lt, refl, ◌≡◌, ◌⊎◌, ℕ, List, [], false, inl, inr, Option, Some, Ok, sym, subst, arith, Seen, Comes, Version, begins, called, members_of, ReadState, IsReadState, ComesIn, MayCome, HasPart, IsEntry, Goes}
use Rattle.totem_evs.specs.declared.entry.Entry.{Entry}
use Rattle.totem_evs.specs.declared.lines.Line.TheVariants as lines
use Rattle.totem_evs.specs.declared.part.Part.TheVariants as parts
use Rattle.totem_evs.specs.declared.stage.OpenLog.{OpenLog}
use Rattle.totem_evs.specs.declared.stage.Stage.{Stage}
use Rattle.totem_evs.specs.Parts.{next_at, next_stage, within_at}
use Rattle.totem_evs.specs.RunGrammar.{by_line, line_at}
use Rattle.totem_evs.proofs.States.{state_entry}

-- the line of an entry, in a log that is not full
within_comes : (a b : Seen) (version : Version) (log : OpenLog) (e : Entry) → (log.entries == 1000000) ≡ false
    → Comes a b (line_at version false (nat_lt 0 log.entries) log.failed) (λ more. Ok (lines.Entry e, more))
    → Comes a b (within_at version log.entries log.failed) (λ more. Ok (Some (parts.Entry e), more))
unfolding within_at
within_comes a b version log e room comes =
    called a a b _ (line_at version (log.entries == 1000000) (nat_lt 0 log.entries) log.failed) (λ l. Ok (Some (by_line l.0 parts.Close parts.Entry), l.1)) (lines.Entry e) (begins a _) (rw room comes)

-- who names nobody lets nobody else wait
waits_still : (waiting begun : List ℕ) (e : Entry) → members_of e ≡ [] → (q : ℕ) → Contains waiting q ↔ (Contains waiting q ⊎ (Contains (members_of e) q × (Contains begun q → ⊥)))
waits_still waiting begun e none q = (λ has. inl has, λ either. elim either [ inl has ↦ has | inr named ↦ (let h = rw none at named.0 in absurd (omega (arith, h.1))) ])

-- an entry may come in a log that is not full
pub may_come : (s : ReadState) (log : OpenLog) (e : Entry) → s.stage.log ≡ Some log → (log.entries == 1000000) ≡ false → MayCome s.stage (Some (parts.Entry e))
may_come s log e begun room =
    let Q : Option OpenLog → Type 0 = λ l. ComesIn s.stage.version s.stage.logs s.stage.last l (Some (parts.Entry e)) in
    subst Q (sym begun) room

-- its line was taken
pub has_entry : (a b : Seen) (s t : ReadState) (log : OpenLog) (e : Entry) → s.stage.log ≡ Some log → (log.entries == 1000000) ≡ false → IsEntry e → Goes s (parts.Entry e) t
    → Comes a b (line_at s.stage.version false (nat_lt 0 log.entries) log.failed) (λ more. Ok (lines.Entry e, more)) → HasPart a b s (parts.Entry e) t
has_entry a b s t log e begun room fits goes comes =
    let P : Option OpenLog → Type 0 = λ l. Comes a b (next_at s.stage.version s.stage.logs s.stage.last l) (λ more. Ok (Some (parts.Entry e), more)) in
    record { taken = subst P (sym begun) (within_comes a b s.stage.version log e room comes); comes = may_come s log e begun room; is = fits; goes = goes }

pub repeated : (a b : Seen) (s : ReadState) (stage : Stage) (log : OpenLog) (e : Entry) → IsReadState s → s.stage.log ≡ Some log → (log.entries == 1000000) ≡ false → stage ≡ next_stage s.stage (parts.Entry e)
    → members_of e ≡ [] → IsEntry e → Comes a b (line_at s.stage.version false (nat_lt 0 log.entries) log.failed) (λ more. Ok (lines.Entry e, more))
    → let t : ReadState = record { stage = stage; begun = s.begun; waiting = s.waiting } in HasPart a b s (parts.Entry e) t × IsReadState t
repeated a b s stage log e is begun room goes none fits comes =
    let next = state_entry s stage s.begun s.waiting e is (may_come s log e begun room) goes refl (waits_still s.waiting s.begun e none) in
    (has_entry a b s _ log e begun room fits next.1 comes, next.0)
