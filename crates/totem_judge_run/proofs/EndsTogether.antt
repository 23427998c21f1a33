-- Whether the members of a quiet log's last configuration end there too.
use Rattle.totem_judge_run.proofs.Common.{below_more, AllWithin, ◌≡◌, ◌↔◌, ◌+◌, ◌<◌, ◌≤◌, ℕ, inl, inr, List, [], ◌∷◌, ◌++◌, length, get_or, slice_get, Some, Bool, IsTrue, sym, ◌∙◌, ap, arith, slice_get_read, slice_get_within, get_or_from_slice_get, ConfId, Place, Entry, Conf, Log, IsQuiet, ending_of, log_of, IsLastChange, SharesEnd, EndsTogether, Rising, log_of_cases, log_of_at, in_order, less_or_not, GoesOn, HasNoChange, StandsLast, IsLast, IsLogEnd, LogShares, IsLogOf, HasNoLog, AllShare, SomeStrays, StraysAt, EndsWithAll, Along, along_more}
use Rattle.totem_evs.specs.declared.ending.Ending.TheVariants.{Quiet}
use Rattle.totem_evs.specs.declared.spec.SpecNo.TheVariants as spec
use Rattle.totem_evs.specs.ChangeFaults.{EndsAlone, BreaksEnd}
use Rattle.totem_evs.specs.Answers.{ComesFirst, IsLeastBreak}
use Rattle.totem_judge_run.specs.declared.ends_2_1.LogEnd.{LogEnd}
use Rattle.totem_judge_run.proofs.Placed.{same_place}
use Rattle.totem_judge_run.proofs.Decisions.{neither_below}
use Rattle.totem_judge_run.proofs.LogEnds.{ending_of_at}

-- ---- the ends of all logs

-- those for the first n logs
abbrev pub EndsBefore : List Log → ℕ → List LogEnd → Type 0
EndsBefore run n ends = Along (λ (l : Log) (end : LogEnd). IsLogEnd l.entries end) run ends n

pub ends_more : (run : List Log) (n : ℕ) (log : Log) (end : LogEnd) (ends : List LogEnd) → slice_get run n ≡ Some log → IsTrue end.goes_on ↔ GoesOn log.entries → IsLast log.entries end.last → EndsBefore run n ends → EndsBefore run (n + 1) (ends ++ end ∷ [])
ends_more run n log end ends at goes last before = along_more (λ (l : Log) (e : LogEnd). IsLogEnd l.entries e) run ends n log end at (record { goes_on = goes; last = last }) before

-- ---- finding the log of a process

pub no_log : (run : List Log) (p n : ℕ) → length run ≤ n → AllWithin (λ log. log.proc ≡ p → ⊥) run 0 n → HasNoLog run p
no_log run p n end before = record { none = λ (j, log, lt, at, same). rw at at (before j log (omega arith) (omega arith)) same }

-- what is read at the index of p's log is p's log
pub read_there : (run logs : List Log) (p k : ℕ) (log : Log) → logs ≡ run → IsLogOf run p k → log ≡ get_or logs k log → (slice_get run k ≡ Some log) × (log.proc ≡ p)
read_there run logs p k log same found is = grind (arith, slice_get_within, slice_get_read)

-- ---- whether a member shares an end

-- the log of a member shares an end exactly where the member does
pub shared : (run : List Log) (k : ℕ) (log : Log) (x : ConfId) (p : ℕ) (b : Bool) → Rising run → slice_get run k ≡ Some log → log.proc ≡ p → IsTrue b ↔ LogShares log x → IsTrue b ↔ SharesEnd run x p
shared run k log x p b rising at proc decides = (λ t. to (decides.0 t), λ h. decides.1 (from h))
  where
    entries : log_of run p ≡ log.entries
    entries = rw (← proc) (log_of_at run k log rising at)

    ending : ending_of run p ≡ log.ending
    ending = rw (← proc) (ending_of_at run k log rising at)

    to : LogShares log x → SharesEnd run x p
    to h = record {
      has_log = (k, log, slice_get_within run k log at, get_or_from_slice_get run k log log at, proc);
      goes_on = rw entries h.goes_on.never;
      ends = elim h.ends [
        | inl last ↦ inl (rw entries last)
        | inr may ↦ inr (λ quiet. may.loud (sym ending ∙ quiet), λ i change. may.never.none i (rw entries at change))
      ];
    }

    from : SharesEnd run x p → LogShares log x
    from h = record {
      goes_on = record { never = rw entries at h.goes_on };
      ends = elim h.ends [
        | inl last ↦ inl (rw entries at last)
        | inr may ↦ inr (record { loud = λ quiet. may.0 (ending ∙ quiet); never = record { none = λ i change. may.1 i (rw entries change) } })
      ];
    }

-- ---- whether all members do

pub all_share : (run : List Log) (x : ConfId) (ms : List ℕ) (n : ℕ) → length ms ≤ n → AllWithin (SharesEnd run x) ms 0 n → AllShare run x ms
all_share run x ms n end before = record { each = λ q (j, lt, is). rw is at (before j q (omega arith) (omega arith)) }

-- ---- whether the members of a log's last change do

last_same : (log : List Entry) (i j : ℕ) (x : ConfId) (ms : List ℕ) → StandsLast log i → IsLastChange log j x ms → i ≡ j
last_same log i j x ms stands last = neither_below i j (λ under. stands.none_after j under (x, (ms, last.change))) (λ over. last.none_after i over stands.change)

pub strays_here : (run : List Log) (log : List Entry) (i : ℕ) (e : Entry) (x : ConfId) (ms : List ℕ) → StandsLast log i → slice_get log i ≡ Some e → e ≡ Conf x ms → SomeStrays run x ms → StraysAt run log i
strays_here run log i e x ms stands at is strays = record { conf = x; members = ms; last = record { change = rw is at at; none_after = stands.none_after }; strays = strays }

pub with_all : (run : List Log) (log : List Entry) (i : ℕ) (e : Entry) (x : ConfId) (ms : List ℕ) → StandsLast log i → slice_get log i ≡ Some e → e ≡ Conf x ms → AllShare run x ms → EndsWithAll run log
with_all run log i e x ms stands at is all = record {
  each = λ j y ns q last among.
      let same : i ≡ j = last_same log i j y ns stands last in
      let here : slice_get log j ≡ Some (Conf x ms) = rw (same, is) at at in
      let there : slice_get log j ≡ Some (Conf y ns) = last.change in
      let confs : x ≡ y = cc in
      let members : ms ≡ ns = cc in
      rw (← confs) (all.each q (rw members among));
}

pub with_none : (run : List Log) (log : List Entry) → HasNoChange log → EndsWithAll run log
with_none run log none = record { each = λ i x ms q last among. absurd (none.none i (x, (ms, last.change))) }

-- ---- the first quiet log that ends alone

-- the quiet ones of the first k logs end with all their members
pub record TogetherBefore (run : List Log) (k : ℕ) : Type 0 where
  pub each : (j : ℕ) → j < k → (log : Log) → slice_get run j ≡ Some log → log.ending ≡ Quiet → EndsWithAll run log.entries

pub together_more : (run : List Log) (k : ℕ) (log : Log) → slice_get run k ≡ Some log → (log.ending ≡ Quiet → EndsWithAll run log.entries) → TogetherBefore run k → TogetherBefore run (k + 1)
together_more run k log at here before = record {
  each = below_more (λ j. (l : Log) → slice_get run j ≡ Some l → l.ending ≡ Quiet → EndsWithAll run l.entries) k before.each (λ l at_k. (let one : log ≡ l = cc in rw one at here));
}

-- if p, whose log is at k, is quiet, so is that log
quiet_at : (run : List Log) (k p : ℕ) (log : Log) → Rising run → slice_get run k ≡ Some log → log.proc ≡ p → IsQuiet run p → log.ending ≡ Quiet
quiet_at run k p log rising at proc quiet = sym (ending_of_at run k log rising at) ∙ rw (← proc) at quiet

no_last : (i : ℕ) (x : ConfId) (ms : List ℕ) → IsLastChange [] i x ms → ⊥
no_last i x ms last = let at : slice_get {X = Entry} [] i ≡ Some (Conf x ms) = last.change in cc

pub all_together : (run : List Log) (k : ℕ) → Rising run → length run ≤ k → TogetherBefore run k → EndsTogether run
all_together run k rising end before = λ p i x ms q quiet last among. elim (log_of_cases run p) [
  | inl none ↦ absurd (no_last i x ms (rw none at last))
  | inr found ↦
      (before.each found.0 (omega (arith, slice_get_within run found.0 found.1 found.2)) found.1 found.2 (quiet_at run found.0 p found.1 rising found.2 found.3 quiet)).each
      i x ms q (rw found.4 at last) among
]

pub none_alone : (run : List Log) (k : ℕ) → Rising run → length run ≤ k → AllWithin (λ log. log.ending ≡ Quiet → ⊥) run 0 k → EndsTogether run
none_alone run k rising end before = all_together run k rising end
    (record { each = λ j lt log at quiet. absurd (before j log (omega arith) lt (rw (get_or_from_slice_get run j log log at) quiet)) })

-- the first quiet log that ends without a member, after those that end with all, is the first event
pub least_end : (run : List Log) (k i n : ℕ) (log : Log) → Rising run → slice_get run k ≡ Some log → log.ending ≡ Quiet → StraysAt run log.entries i → TogetherBefore run k → n ≡ i + 1
    → IsLeastBreak run spec.End (record { proc = log.proc; at = n } ∷ [])
least_end run k i n log rising at quiet strays before e = record {
  holds = (i, e, (strays.conf, strays.members, strays.strays.member, ending_of_at run k log rising at ∙ quiet, rw (log_of_at run k log rising at) strays.last, strays.strays.among, strays.strays.strays));
  first = λ others h. among others h;
}
  where
    in_this : (f : Place) (j m : ℕ) (l : Log) (x : ConfId) (ms : List ℕ) → f.at ≡ j + 1 → IsLastChange (log_of run f.proc) j x ms → m ≡ k → slice_get run m ≡ Some l → l.proc ≡ f.proc → log_of run f.proc ≡ l.entries
        → ComesFirst (record { proc = log.proc; at = n } ∷ []) (f ∷ [])
    in_this f j m l x ms at_f last same at_m same_proc is =
        let same_log : l ≡ log = (let there : slice_get run k ≡ Some l = rw same at at_m in cc) in
        let here : IsLastChange log.entries j x ms = rw (is ∙ ap (λ (o : Log). o.entries) same_log) at last in
        let procs : log.proc ≡ f.proc = sym (ap (λ (o : Log). o.proc) same_log) ∙ same_proc in
        let stands : StandsLast log.entries i = record { change = (strays.conf, (strays.members, strays.last.change)); none_after = strays.last.none_after } in
        let one : i ≡ j = last_same log.entries i j x ms stands here in
        let ats : n ≡ f.at = omega arith in
        inr (same_place log.proc n f procs ats, tt)

    single : (f : Place) (j : ℕ) → f.at ≡ j + 1 → EndsAlone run f.proc j → ComesFirst (record { proc = log.proc; at = n } ∷ []) (f ∷ [])
    single f j at_f (x, ms, q, hushed, last, member, never) = elim (log_of_cases run f.proc) [
      | inl none ↦ absurd (no_last j x ms (rw none at last))
      | inr found ↦ elim (less_or_not found.0 k) [
        | inl under ↦
            absurd (never ((before.each found.0 under found.1 found.2 (quiet_at run found.0 f.proc found.1 rising found.2 found.3 hushed)).each j x ms q (rw found.4 at last) member))
        | inr (inl over) ↦ inl (inl (let lt = in_order run k found.0 log found.1 rising at found.2 over in omega (arith, found.3)))
        | inr (inr same) ↦ in_this f j found.0 found.1 x ms at_f last same found.2 found.3 found.4
      ]
    ]

    among : (others : List Place) → BreaksEnd run others → ComesFirst (record { proc = log.proc; at = n } ∷ []) others
    among [] h = absurd h
    among (f ∷ []) (j, at_f, h) = single f j at_f h
    among (f ∷ g ∷ more) h = absurd h
