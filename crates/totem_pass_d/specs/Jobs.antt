-- The jobs of the last pass (docs/SPECIFICATIONS.md, "Passes").
use Rattle.std.specs.Prelude.{◌≡◌, ℕ, List, slice_get, Some}
use Rattle.totem_names.specs.declared.ring.RingId.{RingId}
use Rattle.totem_names.specs.contracts.ring.RingIdOrd.TheImpl as ring
use Rattle.totem_table.specs.contracts.keys.ChangeOrd.TheImpl as change
use Rattle.totem_evs.specs.declared.log.Log.{Log}
use Rattle.totem_evs.specs.Answers.{MeetsPasses, AreRings}
use Rattle.totem_judge_traffic.specs.Traffics.{AreTraffic}
use Rattle.totem_pass_d.specs.declared.findings.Findings.{Findings}
use Rattle.totem_pass_d.specs.declared.jobs.Jobs.{Jobs}
use Rattle.totem_pass_d.specs.Comings.{HoldsComings}
use Rattle.totem_pass_d.specs.Findings.{AreFindings}

-- the jobs are those of this run, which has passed the earlier passes: one for each regular configuration, in order
pub record AreJobs (run : List Log) (jobs : Jobs) : Type 0 where
  pub logs : jobs.run.now.logs ≡ run
  pub meets : MeetsPasses run
  pub rings : AreRings run jobs.rings.items
  pub observed : AreTraffic run jobs.observed.items
  pub comings : HoldsComings ring.cmp-value.it change.cmp-value.it jobs.comings.rings jobs.comings.indices run

-- what is found in the configuration at this index of the list, if any
pub record AreFindingsAt (run : List Log) (rings : List RingId) (index : ℕ) (findings : Findings) : Type 0 where
  pub at : (c : RingId) → slice_get rings index ≡ Some c → AreFindings run c findings
