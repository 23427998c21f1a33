-- What the workers find (docs/SPECIFICATIONS.md, "Passes").
use Rattle.std.specs.Prelude.{◌≡◌, ◌<◌, ℕ, List, Option, None, IfSome, All, length, slice_index_or}
use Rattle.totem_names.specs.declared.ring.RingId.{RingId}
use Rattle.totem_evs.specs.declared.log.Log.{Log}
use Rattle.totem_pass_d.specs.declared.findings.Findings.{Findings}
use Rattle.totem_pass_d.specs.declared.jobs.Jobs.{Jobs}
use Rattle.totem_pass_d.specs.Jobs.{AreFindingsAt}
use Rattle.totem_audit.specs.declared.job.DoneJob.{DoneJob}

-- the result is correct for the job that it names, which is one of the jobs
pub record IsRight (run : List Log) (rings : List RingId) (r : DoneJob) : Type 0 where
  pub within : r.index < length rings
  pub right : AreFindingsAt run rings r.index r.findings

-- each result is
pub record AreRight (run : List Log) (rings : List RingId) (results : List DoneJob) : Type 0 where
  pub each : All (IsRight run rings) results

-- the jobs are those of this run, in these configurations
pub record AreNamed (logs : List Log) (rings : List RingId) (jobs : Jobs) : Type 0 where
  pub run : jobs.run.now.logs ≡ logs
  pub confs : jobs.rings.items ≡ rings

-- what is known of each job, if anything, is correct for it
pub record AreKnown (run : List Log) (rings : List RingId) (known : List (Option Findings)) : Type 0 where
  pub count : length known ≡ length rings
  pub right : (i : ℕ) → i < length rings → IfSome (slice_index_or known i None) (AreFindingsAt run rings i)
