-- Building the tables of a run, log by log.
use Rattle.totem_stitch.proofs.Common.{◌≡◌, ℕ, ◌+◌, ◌<◌, ◌≤◌, ◌⊎◌, inl, inr, List, [], length, slice_get, Option, Some, None, sym, ◌∙◌, refl, arith, slice_get_within, BTreeMap, RingId, ConfId, Entry, log_of, IsFollower, IsOrigin, IsTable}
use Rattle.std.specs.BTreeMap as tree
use Rattle.totem_evs.specs.declared.log.Log.{Log}
use Rattle.totem_evs.proofs.LogOf.{log_of_cases, log_of_at, Rising, less_or_not}
use Rattle.totem_stitch.specs.declared.table.Table.{Table}
use Rattle.totem_stitch.specs.declared.stitch.Stitch.{Stitch}
use Rattle.totem_stitch.specs.Tables.{process_order}
use Rattle.totem_stitch.specs.Stitched.{follower_by, origin_by, IsStitch}
use Rattle.totem_evs.proofs.ProcOrder.{exact_proc}
use Rattle.totem_stitch.proofs.Updating.{everywhere}

-- p has no log among the first k of the run
pub record HasNoLog (run : List Log) (k p : ℕ) : Type 0 where
  pub never : (j : ℕ) (log : Log) → j < k → slice_get run j ≡ Some log → log.proc ≡ p → ⊥

-- p has one there, and this is its table
pub record HasTable (run : List Log) (k p : ℕ) (table : Table) : Type 0 where
  pub index : ℕ
  pub log : Log
  pub before : index < k
  pub at : slice_get run index ≡ Some log
  pub process : log.proc ≡ p
  pub is : IsTable table log.entries

abbrev pub KnowsProcess : List Log → ℕ → ℕ → Option Table → Type 0
KnowsProcess run k p None = HasNoLog run k p
KnowsProcess run k p (Some table) = HasTable run k p table

-- the first k logs of the run have their tables
pub record KnowsLogs (tables : BTreeMap ℕ Table) (run : List Log) (k : ℕ) : Type 0 where
  pub each : (p : ℕ) → KnowsProcess run k p (tree.get process_order tables p)

pub no_logs_yet : (tables : BTreeMap ℕ Table) (run : List Log) → tree.IsEmpty tables → KnowsLogs tables run 0
no_logs_yet tables run empty = record { each = λ p. rw empty (record { never = λ j log lt at same. omega arith }) }

one_log : (run : List Log) (k : ℕ) (a b : Log) → slice_get run k ≡ Some a → slice_get run k ≡ Some b → a ≡ b
one_log run k a b h g = let e : Some a ≡ Some b = sym h ∙ g in cc

knows_more : (run : List Log) (k p : ℕ) (log : Log) (o : Option Table) → slice_get run k ≡ Some log → (o ≡ None → log.proc ≡ p → ⊥) → KnowsProcess run k p o → KnowsProcess run (k + 1) p o
knows_more run k p log None at never h = record {
  never = λ j l lt at_j same. elim (less_or_not j k) [
    | inl under ↦ h.never j l under at_j same
    | inr more ↦ elim more [ inl over ↦ omega arith | inr here ↦ (let one = one_log run k log l at (rw here at at_j) in never refl (rw (← one) at same)) ]
  ];
}
knows_more run k p log (Some table) at never h = let before = h.before in record { index = h.index; log = h.log; before = omega arith; at = h.at; process = h.process; is = h.is }

pub one_more_log : (tables more : BTreeMap ℕ Table) (run : List Log) (k : ℕ) (log : Log) (table : Table) → slice_get run k ≡ Some log → IsTable table log.entries → tree.Updates process_order tables more log.proc (Some table)
    → KnowsLogs tables run k → KnowsLogs more run (k + 1)
one_more_log tables more run k log table at is added before = record {
  each = everywhere process_order exact_proc (λ p o. KnowsProcess run (k + 1) p o) tables more log.proc table added
      (record { index = k; log = log; before = omega arith; at = at; process = refl; is = is })
      (λ p known. knows_more run k p log _ at (λ none same. (let some = known (sym same) in cc)) (before.each p));
}

-- nothing follows in an empty log
empty_follower : (c : RingId) → IsFollower [] c None
empty_follower c = record { never = λ t f. (let at = f.first.change in absurd cc) }

empty_origin : (t : ConfId) → IsOrigin [] t None
empty_origin t = record { never = λ c f. (let at = f.first.change in absurd cc) }

record IsKnown (log : List Entry) (o : Option Table) : Type 0 where
  pub followers : (c : RingId) → IsFollower log c (follower_by o c)
  pub origins : (t : ConfId) → IsOrigin log t (origin_by o t)

known_table : (run : List Log) (k p : ℕ) (o : Option Table) → Rising run → length run ≤ k → KnowsProcess run k p o → IsKnown (log_of run p) o
known_table run k p None rising end h = go (log_of_cases run p)
  where
    go : (log_of run p ≡ []) ⊎ ((j : ℕ) × (log : Log) × (slice_get run j ≡ Some log) × (log.proc ≡ p) × (log_of run p ≡ log.entries)) → IsKnown (log_of run p) None
    go (inl none) = rw none (record { followers = empty_follower; origins = empty_origin })
    go (inr (j, log, at, same, is)) = absurd (h.never j log (omega (arith, slice_get_within run j log at)) at same)
known_table run k p (Some table) rising end h =
    let whole = log_of_at run h.index h.log rising h.at in
    let logs : log_of run p ≡ h.log.entries = rw (← h.process) whole in
    rw logs (record { followers = h.is.followers; origins = h.is.origins })

-- all logs have their tables
pub is_stitch : (stitch : Stitch) (run : List Log) (k : ℕ) → Rising run → length run ≤ k → KnowsLogs stitch.tables run k → IsStitch stitch run
is_stitch stitch run k rising end known = record {
  followers = λ p c. (known_table run k p _ rising end (known.each p)).followers c;
  origins = λ p t. (known_table run k p _ rising end (known.each p)).origins t;
}
