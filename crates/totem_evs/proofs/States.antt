-- The state of a reader of parts, part after part.
use Rattle.totem_evs.proofs.Common.{Contains, ◌↔◌, ◌==◌, ◌≡◌, ◌≢◌, ◌⊎◌, ◌+◌, ◌≤◌, ℕ, List, [], ◌∷◌, ◌++◌, false, Option, Some, refl, sym, arith, Version, append-nil, length_push, nat_tests, members_of, next_stage, with_entry, ReadState, IsReadState, Goes, MayCome, ComesIn}
use Rattle.std.specs.Option.{ForSome}
use Rattle.totem_evs.specs.declared.ending.Ending.{Ending}
use Rattle.totem_evs.specs.declared.entry.Entry.{Entry}
use Rattle.totem_evs.specs.declared.part.Part.TheVariants as parts
use Rattle.totem_evs.specs.declared.stage.Stage.{Stage}
use Rattle.totem_evs.specs.declared.stage.OpenLog.{OpenLog}
use Rattle.totem_evs.proofs.Waits.{waits_log, waits_entry, waits_still, waits_apart}

-- below the limit one more is allowed
below_limit : (n limit : ℕ) → (n == limit) ≡ false → n ≤ limit → n + 1 ≤ limit
below_limit n limit other le = grind (arith, nat_tests)

logs_left : (version : Version) (logs last : ℕ) (log : Option OpenLog) (p : ℕ) → ComesIn version logs last log (Some (parts.Log p)) → (logs == 32) ≡ false
logs_left version logs last log p h = grind arith

entries_left : (version : Version) (logs last : ℕ) (log : Option OpenLog) (e : Entry) → ForSome log (λ l. l.entries ≤ 1000000) → ComesIn version logs last log (Some (parts.Entry e)) → ForSome (with_entry log e) (λ l. l.entries ≤ 1000000)
entries_left version logs last log e h k = grind (arith, below_limit)

-- a log begins
pub state_log : (s : ReadState) (stage : Stage) (begun waiting : List ℕ) (p : ℕ) → IsReadState s → MayCome s.stage (Some (parts.Log p)) → stage ≡ next_stage s.stage (parts.Log p) → begun ≡ s.begun ++ p ∷ []
    → ((q : ℕ) → Contains waiting q ↔ (Contains s.waiting q × (q ≢ p))) → let t : ReadState = record { stage = stage; begun = begun; waiting = waiting } in IsReadState t × Goes s (parts.Log p) t
state_log s stage begun waiting p is comes goes more h =
    let waits = waits_log s.waiting s.begun waiting p is.apart h in
    let left = logs_left s.stage.version s.stage.logs s.stage.last s.stage.log p comes in
    rw (goes, more) (
      record {
        few_logs = below_limit s.stage.logs 32 left is.few_logs;
        few_entries = λ x e. (let same : 0 ≡ x.entries = cc in omega arith);
        count = omega (arith, length_push s.begun p, is.count);
        apart = waits_apart s.waiting [] (s.begun ++ p ∷ []) waiting waits;
      },
      record { stage = refl; begun = refl; waiting = waits },
    )

-- an entry follows
pub state_entry : (s : ReadState) (stage : Stage) (begun waiting : List ℕ) (e : Entry) → IsReadState s → MayCome s.stage (Some (parts.Entry e)) → stage ≡ next_stage s.stage (parts.Entry e) → begun ≡ s.begun
    → ((q : ℕ) → Contains waiting q ↔ (Contains s.waiting q ⊎ (Contains (members_of e) q × (Contains s.begun q → ⊥)))) → let t : ReadState = record { stage = stage; begun = begun; waiting = waiting } in IsReadState t × Goes s (parts.Entry e) t
state_entry s stage begun waiting e is comes goes same h =
    let waits = waits_entry s.waiting (members_of e) s.begun waiting is.apart h in
    rw (goes, same) (
      record {
        few_logs = is.few_logs;
        few_entries = entries_left s.stage.version s.stage.logs s.stage.last s.stage.log e is.few_entries comes;
        count = is.count;
        apart = waits_apart s.waiting (members_of e) s.begun waiting waits;
      },
      record { stage = refl; begun = sym (append-nil s.begun); waiting = waits },
    )

-- a log ends
pub state_close : (s : ReadState) (stage : Stage) (ending : Ending) → IsReadState s → stage ≡ next_stage s.stage (parts.Close ending)
    → let t : ReadState = record { stage = stage; begun = s.begun; waiting = s.waiting } in IsReadState t × Goes s (parts.Close ending) t
state_close s stage ending is goes =
    rw goes (
      record { few_logs = is.few_logs; few_entries = λ x e. absurd cc; count = is.count; apart = is.apart },
      record { stage = refl; begun = sym (append-nil s.begun); waiting = waits_still s.waiting s.begun is.apart },
    )
