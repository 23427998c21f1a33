-- What a result of a job says (docs/SPECIFICATIONS.md, "Passes").
use Rattle.std.specs.Prelude.{◌≡◌, ◌+◌, ℕ, List, slice_get, Some}
use Rattle.totem_names.specs.declared.ring.RingId.{RingId}
use Rattle.totem_names.specs.declared.version.Version.{Version}
use Rattle.totem_evs.specs.declared.log.Log.{Log}
use Rattle.totem_evs.specs.Answers.{AreRings}
use Rattle.totem_pass_d.specs.declared.findings.Findings.{Findings}
use Rattle.totem_pass_d.specs.Findings.{AreFindings}
use Rattle.totem_audit.specs.JobRecord.{JobRecord}

-- the job of this number belongs to the regular configuration c: jobs are numbered from 1, in the order of the rings
pub record IsJobOf (run : List Log) (job : ℕ) (c : RingId) : Type 0 where
  pub rings : List RingId
  pub are : AreRings run rings
  pub index : ℕ
  pub number : job ≡ index + 1
  pub at : slice_get rings index ≡ Some c

-- the run has a job of this number
abbrev pub HasJob : List Log → ℕ → Type 0
HasJob run job = (c : RingId) × IsJobOf run job c

-- the run has a job of this number, and these are its findings
pub record IsFoundBy (run : List Log) (job : ℕ) (findings : Findings) : Type 0 where
  pub ring : RingId
  pub is : IsJobOf run job ring
  pub found : AreFindings run ring findings

-- the result names this run and this job, and has the job's findings
pub record IsResultOf (v : Version) (run : List Log) (number : ℕ) (r : JobRecord) : Type 0 where
  pub version : r.version ≡ v
  pub logs : r.logs ≡ run
  pub job : r.job ≡ number
  pub right : IsFoundBy run number r.findings
