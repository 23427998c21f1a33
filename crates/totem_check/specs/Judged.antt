-- A run judged along an order of its events (docs/SPECIFICATIONS.md, "Passes").
use Rattle.std.specs.Prelude.{◌≢◌, List, [], IfSome}
use Rattle.totem_evs.specs.declared.log.Log.{Log}
use Rattle.totem_evs.specs.Answers.{No, Lists, ListsConfigurations, MeetsPasses, IsAnswered, pass_a, pass_b}
use Rattle.totem_evs.specs.Unsettled.{ArePending}
use Rattle.totem_pass_ab.specs.Listed.{ListsFirst}
use Rattle.totem_pass_d.specs.Jobs.{AreJobs}
use Rattle.totem_judge.specs.declared.judging.View.{View}
use Rattle.totem_judge.specs.Judged.{IsView}
use Rattle.totem_outcome.specs.declared.accepted.Accepted.{Accepted}
use Rattle.totem_check.specs.declared.early.Early.{Early}
use Rattle.totem_check.specs.declared.early.Early.TheVariants.{Broken, Passed}
use Rattle.totem_check.specs.declared.last_pass.LastPass.{LastPass}
use Rattle.totem_check.specs.declared.judgement.Judgement.{Judgement}
use Rattle.totem_check.specs.declared.judgement.Judgement.TheVariants as judgements
use Rattle.totem_outcome.specs.Checks.{ListsOpen}

-- the view is one of this run
abbrev pub IsViewOf : List Log → View → Type 0
IsViewOf run view = IsView run view.observed.items view.pending.items

-- what passes A and B list, if they list anything; otherwise the run meets their specifications
abbrev pub IsEarly : List Log → Early → Type 0
IsEarly run (Broken faults) = (faults.items ≢ []) × ListsFirst run faults.items
IsEarly run (Passed view) = MeetsPasses run × IfSome view (IsViewOf run)

-- the jobs are those of this run, and the list has all that is pending
pub record IsLastPass (run : List Log) (last : LastPass) : Type 0 where
  pub jobs : AreJobs run last.jobs
  pub pending : ArePending run last.pending.items

-- passes A, B and D list nothing, and all that is left open is listed
pub record IsMet (run : List Log) (accepted : Accepted) : Type 0 where
  pub a : Lists run pass_a []
  pub b : Lists run pass_b []
  pub d : ListsConfigurations run []
  pub lists : ListsOpen run accepted

-- the judgement on a run whose events have an order: a no is the answer for the run, and so is a yes, with the numbers of that order
abbrev pub IsJudged : List Log → Judgement → Type 0
IsJudged run (judgements.Yes accepted) = IsMet run accepted
IsJudged run (judgements.No faults) = IsAnswered run (No faults.items)
