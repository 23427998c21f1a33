-- What is known of jobs, as it is gathered and as it is used.
use Rattle.totem_pass_d.proofs.Common.{RingId, Log, less_or_not}
use Rattle.std.proofs.Common.{◌≡◌, ◌<◌, ◌∙◌, ◌+◌, ℕ, zero, suc, inl, inr, List, [], ◌∷◌, ◌++◌, Option, None, Some, IfSome, length, set, slice_index_or, option_to_list, replicate, arith}
use Rattle.std.proofs.lemmas.List.{get_or-set_same, get_or-set_other, length-set, length-replicate, get_or-replicate, replicate-append-replicate}
use Rattle.std.proofs.lemmas.List.Elements.{All-append, All-pop}
use Rattle.totem_pass_d.specs.declared.findings.Findings.{Findings}
use Rattle.totem_pass_d.specs.declared.jobs.Jobs.{Jobs}
use Rattle.totem_pass_d.specs.Jobs.{AreFindingsAt}
use Rattle.totem_audit.specs.declared.job.DoneJob.{DoneJob}
use Rattle.totem_audit.specs.Jobs.{IsRight, AreRight, AreNamed, AreKnown}

-- one job is set to correct findings, or to nothing
pub known_set : (run : List Log) (rings : List RingId) (known : List (Option Findings)) (i : ℕ) (x : Option Findings) → AreKnown run rings known → i < length rings → IfSome x (AreFindingsAt run rings i)
    → AreKnown run rings (set known i x)
known_set run rings known i x are lt is = record {
  count = length-set known i x ∙ are.count;
  right = λ j within. elim (less_or_not j i) [
    | inl under ↦ rw (get_or-set_other known i j x None (λ e. absurd (omega (arith, under, e)))) (are.right j within)
    | inr rest ↦ elim rest [
      | inl over ↦ rw (get_or-set_other known i j x None (λ e. absurd (omega (arith, over, e)))) (are.right j within)
      | inr same ↦ rw (same, get_or-set_same known i x None (omega (arith, lt, are.count))) is
    ]
  ];
}

-- one more job, of which nothing is known
pub nothing_more : (n : ℕ) (known : List (Option Findings)) → known ≡ replicate n None → known ++ None ∷ [] ≡ replicate (n + 1) None
nothing_more n known is = rw is (replicate-append-replicate n 1 None)

-- nothing is known of any job
pub nothing_is_known : (run : List Log) (rings : List RingId) (known : List (Option Findings)) → known ≡ replicate (length rings) None → AreKnown run rings known
nothing_is_known run rings known is = record {
  count = rw is (length-replicate (length rings) None);
  right = λ i within. rw (is, get_or-replicate {A = Option Findings} (length rings) i None None within) tt;
}

-- there is no result yet
pub none_right : (run : List Log) (rings : List RingId) (results : List DoneJob) → results ≡ [] → AreRight run rings results
none_right run rings results is = record { each = rw is (λ k d lt. absurd (omega (arith, lt))) }

-- one more result
pub one_right : (run : List Log) (rings : List RingId) (results more : List DoneJob) (r : DoneJob) → AreRight run rings results → IsRight run rings r → more ≡ results ++ r ∷ []
    → AreRight run rings more
one_right run rings results more r are right is = record { each = rw is (All-append (IsRight run rings) results (r ∷ []) are.each (λ k d lt. only k d lt)) }
  where
    only : (k : ℕ) (d : DoneJob) → k < length (r ∷ []) → IsRight run rings (slice_index_or (r ∷ []) k d)
    only zero d lt = right
    only (suc k) d lt = absurd (omega (arith, lt))

-- results of the jobs are results of the named jobs, and the converse
pub right_by_name : (run : List Log) (rings : List RingId) (jobs : Jobs) (results : List DoneJob) → AreNamed run rings jobs → AreRight jobs.run.now.logs jobs.rings.items results → AreRight run rings results
right_by_name run rings jobs results named are = rw (named.run, named.confs) at are

pub right_by_jobs : (run : List Log) (rings : List RingId) (jobs : Jobs) (results : List DoneJob) → AreNamed run rings jobs → AreRight run rings results → AreRight jobs.run.now.logs jobs.rings.items results
right_by_jobs run rings jobs results named are = rw (named.run, named.confs) are

-- all results but the last, and the last
pub popped : (run : List Log) (rings : List RingId) (results rest : List DoneJob) (r : DoneJob) → AreRight run rings results → results ≡ rest ++ option_to_list (Some r) → AreRight run rings rest × IsRight run rings r
popped run rings results rest r are is = let p = All-pop (IsRight run rings) results rest (Some r) is are.each in (record { each = p.0 }, p.1)
