-- What is known of the logs so far, part after part.
use Rattle.totem_evs.proofs.Common.{nat_lt, ◌==◌, All, AllPairs, Contains, IsTrue, ◌↔◌, ◌≡◌, ◌⊎◌, ◌+◌, ◌-◌, ◌*◌, ◌<◌, ◌≤◌, ℕ, List, [], ◌∷◌, ◌++◌, length, Bool, true, false, Option, Some, None, inl, inr, refl, sym, ap, subst, ◌∙◌, append_assoc, arith, Version, Three, IsProcessIn, flat_map, append-nil, length_push, get_or_push, get_or_append_left, slice_get-get_or, get_or_from_slice_get, eqb-true, cases_lt, All-push, Contains-push, Contains-push_cases, Contains-append_left, Contains-append_right, Contains-append_cases, nat_tests, IsEntry, IsFailure, IsEntries, EndsInFail, IsClosedBy, IsLog, IsBelowLog, is_failure, members_of, all_members, HasLog, EachHasLog, IsLeastMissing, next_stage, with_entry, ReadState, IsFirst, IsPart, Goes, MayCome, ComesIn, begun_by, named_by, GatheredLogs, none_gathered, gathered, MayGather}
use Rattle.std.proofs.lemmas.List.Quantifiers.{all_pairs_push, Any-push}
use Rattle.std.proofs.lemmas.Grind.{flat_map-append}
use Rattle.totem_evs.specs.declared.ending.Ending.{Ending}
use Rattle.totem_evs.specs.declared.entry.Entry.{Entry}
use Rattle.totem_evs.specs.declared.log.Log.{Log}
use Rattle.totem_evs.specs.declared.part.Part.{Part}
use Rattle.totem_evs.specs.declared.part.Part.TheVariants as parts
use Rattle.totem_evs.specs.declared.stage.OpenLog.{OpenLog}
use Rattle.totem_evs.specs.declared.stage.Stage.{Stage}
use Rattle.totem_evs.proofs.Waits.{Waits, in_none}
use Rattle.totem_evs.proofs.Folding.{OfLast, FewEntries}
use Rattle.totem_evs.proofs.Weaker.{any_ending}

-- between logs
pub record Idle (last : ℕ) (g : GatheredLogs) : Type 0 where
  pub proc : g.proc ≡ None
  pub entries : g.entries ≡ []
  pub below : All (λ l. l.proc ≤ last) g.logs

-- in a log
pub record Busy (log : OpenLog) (last : ℕ) (g : GatheredLogs) : Type 0 where
  pub proc : g.proc ≡ Some last
  pub process : IsProcessIn Three last
  pub count : length g.entries ≡ log.entries
  pub few : log.entries ≤ 1000000
  pub each : All IsEntry g.entries
  pub fails : IsTrue log.failed ↔ EndsInFail g.entries
  pub below : All (λ l. l.proc < last) g.logs

abbrev pub InLog : Option OpenLog → ℕ → GatheredLogs → Type 0
InLog None last g = Idle last g
InLog (Some log) last g = Busy log last g

abbrev pub opened : Option OpenLog → ℕ
opened None = 0
opened (Some log) = 1

-- the members that were named so far
abbrev pub named : GatheredLogs → List ℕ
named g = all_members g.logs ++ flat_map members_of g.entries

-- a log of q has begun
abbrev pub HasBegun : GatheredLogs → ℕ → Type 0
HasBegun g q = HasLog g.logs q ⊎ (g.proc ≡ Some q)

-- what is known of the logs so far
pub record Gathers (logs last : ℕ) (log : Option OpenLog) (begun waiting : List ℕ) (g : GatheredLogs) : Type 0 where
  pub inside : InLog log last g
  pub count : length g.logs + opened log ≡ logs
  pub few : logs ≤ 32
  pub rising : AllPairs IsBelowLog g.logs
  pub each : All IsLog g.logs
  pub has : (q : ℕ) → Contains begun q ↔ HasBegun g q
  pub waits : (q : ℕ) → Contains waiting q ↔ (Contains (named g) q × (Contains begun q → ⊥))

-- the same, of a state
abbrev pub GathersIn : ReadState → GatheredLogs → Type 0
GathersIn s g = Gathers s.stage.logs s.stage.last s.stage.log s.begun s.waiting g

-- ---- tests

pub below_limit : (n limit : ℕ) → (n == limit) ≡ false → n ≤ limit → n + 1 ≤ limit
below_limit n limit other le = grind (arith, nat_tests)

above_none : (n : ℕ) → nat_lt 0 n ≡ true → 0 < n
above_none n e = grind (arith, nat_tests)

-- ---- an entry more

in_push : (es : List Entry) (e : Entry) → EndsInFail (es ++ e ∷ []) ↔ IsFailure e
in_push es e = (
  (λ h.
      let before : length es ≡ h.0 = omega (arith, length_push es e, h.2) in
      let same : h.1 ≡ e = sym (get_or_from_slice_get (es ++ e ∷ []) h.0 h.1 e h.3) ∙ get_or_push es e e h.0 before in
      subst IsFailure same h.4),
  (λ f. (length es, e, length_push es e, slice_get-get_or (es ++ e ∷ []) (length es) e (omega (arith, length_push es e)) ∙ ap (λ (x : Entry). Some x) (get_or_push es e e (length es) refl), f)),
)

none_fails : EndsInFail [] → ⊥
none_fails h = omega (arith, h.2)

failure_true : (e : Entry) → IsTrue (is_failure e) ↔ IsFailure e
failure_true e = grind arith

-- ---- members

named_more : (ms : List ℕ) (es : List Entry) (e : Entry) → ms ++ flat_map members_of (es ++ e ∷ []) ≡ (ms ++ flat_map members_of es) ++ members_of e
named_more ms es e = ap (λ (xs : List ℕ). ms ++ xs) (flat_map-append members_of es (e ∷ []) ∙ ap (λ (xs : List ℕ). flat_map members_of es ++ xs) (append-nil (members_of e))) ∙ sym (append_assoc ms (flat_map members_of es) (members_of e))

named_closed : (ls : List Log) (l : Log) → all_members (ls ++ l ∷ []) ++ flat_map members_of [] ≡ (all_members ls ++ flat_map members_of l.entries) ++ []
named_closed ls l = ap (λ (xs : List ℕ). xs ++ []) (flat_map-append (λ (log : Log). flat_map members_of log.entries) ls (l ∷ []) ∙ ap (λ (xs : List ℕ). all_members ls ++ xs) (append-nil (flat_map members_of l.entries)))

-- the processes that wait, if some are named now and others were named before
waits_goes : (before now after begun more waiting next : List ℕ) → after ≡ before ++ now → ((q : ℕ) → Contains begun q → Contains more q) → Waits waiting now more next → ((q : ℕ) → Contains waiting q ↔ (Contains before q × (Contains begun q → ⊥)))
    → (q : ℕ) → Contains next q ↔ (Contains after q × (Contains more q → ⊥))
waits_goes before now after begun more waiting next e keeps w h q = rw e (
  (λ c. let k = (w q).0 c in (elim k.0 [ inl old ↦ Contains-append_left before now q ((h q).0 old).0 | inr new ↦ Contains-append_right before now q new ], k.1)),
  (λ c. (w q).1 (elim (Contains-append_cases before now q c.0) [ inl old ↦ inl ((h q).1 (old, λ b. c.1 (keeps q b))) | inr new ↦ inr new ], c.1)),
)

-- ---- logs

has_push : (ls : List Log) (l : Log) (q : ℕ) → HasLog (ls ++ l ∷ []) q → HasLog ls q ⊎ (l.proc ≡ q)
has_push ls l q h = grind (arith, cases_lt, get_or_append_left, length_push, get_or_push)

has_before : (ls : List Log) (l : Log) (q : ℕ) → HasLog ls q → HasLog (ls ++ l ∷ []) q
has_before ls l q h = (h.0, h.1, omega (arith, length_push ls l, h.2), get_or_append_left ls (l ∷ []) h.1 h.0 h.2 ∙ h.3, h.4)

-- ---- whether a number is in a list

differ : (x q : ℕ) → x ≡ q → (x == q) ≡ false → ⊥
differ x q same e = grind (arith, nat_tests)

decided : (xs : List ℕ) (q : ℕ) → Contains xs q ⊎ (Contains xs q → ⊥)
decided [] q = inr (in_none q)
decided (x ∷ xs) q = elim (decided xs q) [
  | inl c ↦ inl (Contains-append_right (x ∷ []) xs q c)
  | inr no' ↦ go (x == q) refl no'
]
  where
    go : (t : Bool) → (x == q) ≡ t → (Contains xs q → ⊥) → Contains (x ∷ xs) q ⊎ (Contains (x ∷ xs) q → ⊥)
    go true e others = inl (Contains-append_left (x ∷ []) xs q (subst (λ (y : ℕ). Contains (x ∷ []) y) (eqb-true x q e) (Contains-push [] x)))
    go false e others = inr (λ c. elim (Contains-append_cases (x ∷ []) xs q c) [
      | inl one ↦ elim (Contains-push_cases [] x q one) [ inl none ↦ in_none q none | inr same ↦ differ x q same e ]
      | inr rest ↦ others rest
    ])

-- ---- part after part

-- before the first part
none_yet : Gathers 0 0 None [] [] none_gathered
none_yet = grind (arith, in_none)

pub first_gathers : (version : Version) (s : ReadState) → IsFirst version s → GathersIn s none_gathered
first_gathers version s first = subst (λ (st : Stage). Gathers st.logs st.last st.log s.begun s.waiting none_gathered) (sym first.stage) (rw (first.begun, first.waiting) none_yet)

goes_log : (version : Version) (logs last : ℕ) (log : Option OpenLog) (begun waiting next : List ℕ) (g : GatheredLogs) (p : ℕ) → Gathers logs last log begun waiting g → IsProcessIn Three p → ComesIn version logs last log (Some (parts.Log p)) → Waits waiting [] (begun ++ p ∷ []) next
    → Gathers (logs + 1) p (Some (record { entries = 0; failed = false })) (begun ++ p ∷ []) next (gathered g (parts.Log p))
goes_log version logs last (Some l) begun waiting next g p h is comes w = absurd comes
goes_log version logs last None begun waiting next g p h is comes w = record {
  inside = record {
    proc = refl;
    process = is;
    count = refl;
    few = omega arith;
    each = λ k d within. absurd (omega arith);
    fails = ((λ e. absurd cc), (λ f. absurd (none_fails f)));
    below = λ k d within. omega (arith, h.inside.below k d within, comes.1);
  };
  count = omega (arith, h.count);
  few = below_limit logs 32 comes.0 h.few;
  rising = h.rising;
  each = h.each;
  has = λ q. (
    (λ c. elim (Contains-push_cases begun p q c) [
      | inl old ↦ elim ((h.has q).0 old) [ inl has ↦ inl has | inr e ↦ absurd (let k = h.inside.proc in cc) ]
      | inr same ↦ inr (ap (λ (x : ℕ). Some x) same)
    ]),
    (λ c. elim c [
      | inl has ↦ Contains-append_left begun (p ∷ []) q ((h.has q).1 (inl has))
      | inr e ↦ (let same : p ≡ q = cc in subst (λ (x : ℕ). Contains (begun ++ p ∷ []) x) same (Contains-push begun p))
    ]),
  );
  waits = waits_goes (named g) [] (all_members g.logs ++ []) begun (begun ++ p ∷ []) waiting next
      (sym (append-nil (all_members g.logs ++ flat_map members_of g.entries) ∙ ap (λ (es : List Entry). all_members g.logs ++ flat_map members_of es) h.inside.entries))
      (λ q b. Contains-append_left begun (p ∷ []) q b) w h.waits;
}

goes_entry : (version : Version) (logs last : ℕ) (log : Option OpenLog) (begun waiting next : List ℕ) (g : GatheredLogs) (e : Entry) → Gathers logs last log begun waiting g → IsEntry e → ComesIn version logs last log (Some (parts.Entry e)) → Waits waiting (members_of e) (begun ++ []) next
    → Gathers logs last (with_entry log e) (begun ++ []) next (gathered g (parts.Entry e))
goes_entry version logs last None begun waiting next g e h is comes w = absurd comes
goes_entry version logs last (Some l) begun waiting next g e h is comes w = record {
  inside = record {
    proc = h.inside.proc;
    process = h.inside.process;
    count = omega (arith, length_push g.entries e, h.inside.count);
    few = below_limit l.entries 1000000 comes h.inside.few;
    each = All-push IsEntry g.entries e h.inside.each is;
    fails = ((λ t. (in_push g.entries e).1 ((failure_true e).0 t)), (λ f. (failure_true e).1 ((in_push g.entries e).0 f)));
    below = h.inside.below;
  };
  count = h.count;
  few = h.few;
  rising = h.rising;
  each = h.each;
  has = rw (append-nil begun) h.has;
  waits = waits_goes (named g) (members_of e) (all_members g.logs ++ flat_map members_of (g.entries ++ e ∷ [])) begun (begun ++ []) waiting next (named_more (all_members g.logs) g.entries e) (λ q b. Contains-append_left begun [] q b) w h.waits;
}

-- the entries of a log that ends may end so
may_end : (version : Version) (logs last : ℕ) (log : OpenLog) (g : GatheredLogs) (ending : Ending) → Busy log last g → ComesIn version logs last (Some log) (Some (parts.Close ending)) → IsEntries g.entries × IsClosedBy g.entries ending
may_end version logs last log g ending h k = grind (arith, above_none)

goes_close : (version : Version) (logs last : ℕ) (log : Option OpenLog) (begun waiting next : List ℕ) (g : GatheredLogs) (ending : Ending) → Gathers logs last log begun waiting g → ComesIn version logs last log (Some (parts.Close ending)) → Waits waiting [] (begun ++ []) next
    → Gathers logs last None (begun ++ []) next (gathered g (parts.Close ending))
goes_close version logs last None begun waiting next g ending h comes w = absurd comes
goes_close version logs last (Some l) begun waiting next g ending h comes w =
    let b = h.inside in
    let ends = may_end version logs last l g ending b comes in
    let new : Log = record { proc = last; entries = g.entries; ending = ending } in
    rw b.proc (record {
      inside = record { proc = refl; entries = refl; below = All-push (λ x. x.proc ≤ last) g.logs new (λ k d within. omega (arith, b.below k d within)) (omega arith) };
      count = omega (arith, length_push g.logs new, h.count);
      few = h.few;
      rising = all_pairs_push IsBelowLog g.logs new h.rising b.below;
      each = All-push IsLog g.logs new h.each (record { process = b.process; entries = ends.0; ending = ends.1; word = any_ending ending });
      has = rw (append-nil begun) (λ q. (
        (λ c. elim ((h.has q).0 c) [
          | inl has ↦ inl (has_before g.logs new q has)
          | inr e ↦ inl (let same : last ≡ q = (let k = b.proc in cc) in Any-push (λ (x : Log). x.proc ≡ q) g.logs new same)
        ]),
        (λ c. elim c [
          | inl has ↦ elim (has_push g.logs new q has) [ inl old ↦ (h.has q).1 (inl old) | inr same ↦ (h.has q).1 (inr (b.proc ∙ ap (λ (x : ℕ). Some x) same)) ]
          | inr e ↦ absurd cc
        ]),
      ));
      waits = waits_goes (named g) [] (all_members (g.logs ++ new ∷ []) ++ []) begun (begun ++ []) waiting next (named_closed g.logs new) (λ q c. Contains-append_left begun [] q c) w h.waits;
    })

-- after one more part
goes_in : (s : ReadState) (part : Part) (begun next : List ℕ) (g : GatheredLogs) → GathersIn s g → IsPart part → MayCome s.stage (Some part) → begun ≡ s.begun ++ begun_by part → Waits s.waiting (named_by part) begun next
    → Gathers (next_stage s.stage part).logs (next_stage s.stage part).last (next_stage s.stage part).log begun next (gathered g part)
goes_in s (parts.Log p) begun next g h is comes e w = rw e (goes_log s.stage.version s.stage.logs s.stage.last s.stage.log s.begun s.waiting next g p h is comes (rw e at w))
goes_in s (parts.Entry x) begun next g h is comes e w = rw e (goes_entry s.stage.version s.stage.logs s.stage.last s.stage.log s.begun s.waiting next g x h is comes (rw e at w))
goes_in s (parts.Close ending) begun next g h is comes e w = rw e (goes_close s.stage.version s.stage.logs s.stage.last s.stage.log s.begun s.waiting next g ending h comes (rw e at w))

pub goes_gathers : (s t : ReadState) (part : Part) (g : GatheredLogs) → GathersIn s g → IsPart part → MayCome s.stage (Some part) → Goes s part t → GathersIn t (gathered g part)
goes_gathers s t part g h is comes goes = subst (λ (st : Stage). Gathers st.logs st.last st.log t.begun t.waiting (gathered g part)) (sym goes.stage) (goes_in s part t.begun t.waiting g h is comes goes.begun goes.waiting)

may_gather_in : (version : Version) (logs last : ℕ) (log : Option OpenLog) (g : GatheredLogs) (part : Part) → InLog log last g → ComesIn version logs last log (Some part) → MayGather g part
may_gather_in version logs last log g part h k = grind (arith, may_end)

-- a log that ends may be gathered
pub may_gather : (s : ReadState) (g : GatheredLogs) (part : Part) → GathersIn s g → MayCome s.stage (Some part) → MayGather g part
may_gather s g part h comes = may_gather_in s.stage.version s.stage.logs s.stage.last s.stage.log g part h.inside comes

few_in : (log : Option OpenLog) (last : ℕ) (g : GatheredLogs) → InLog log last g → FewEntries log × OfLast log last g.proc
few_in log last g h = grind arith

-- the limits are kept, and the log that has not ended is that of the last process
pub limits : (s : ReadState) (g : GatheredLogs) → GathersIn s g → FewEntries s.stage.log × OfLast s.stage.log s.stage.last g.proc
limits s g h = few_in s.stage.log s.stage.last g h.inside

-- ---- how much may still follow

abbrev pending : Option OpenLog → ℕ
pending None = 0
pending (Some log) = 1000002 - log.entries

-- more than the parts that may still follow
abbrev pub parts_left : Stage → ℕ
parts_left stage = 1000003 * (33 - stage.logs) + pending stage.log

falls_in : (version : Version) (logs last : ℕ) (log : Option OpenLog) (part : Part) → logs ≤ 32 → FewEntries log → ComesIn version logs last log (Some part) → parts_left (next_stage (record { version = version; logs = logs; last = last; log = log }) part) < parts_left (record { version = version; logs = logs; last = last; log = log })
falls_in version logs last log part h k m = grind arith

pub falls : (s t : ReadState) (part : Part) (g : GatheredLogs) → GathersIn s g → MayCome s.stage (Some part) → Goes s part t → parts_left t.stage < parts_left s.stage
falls s t part g h comes goes = rw goes.stage (falls_in s.stage.version s.stage.logs s.stage.last s.stage.log part h.few (limits s g h).0 comes)

-- ---- the end

idle_in : (version : Version) (logs last : ℕ) (log : Option OpenLog) (g : GatheredLogs) → InLog log last g → ComesIn version logs last log None → Idle last g
idle_in version logs last log g h comes = grind arith

-- at the end the members that were named are those of the logs
named_all : (last : ℕ) (g : GatheredLogs) → Idle last g → named g ≡ all_members g.logs
named_all last g idle = ap (λ (es : List Entry). all_members g.logs ++ flat_map members_of es) idle.entries ∙ append-nil (all_members g.logs)

begun_has : (last : ℕ) (g : GatheredLogs) (q : ℕ) → Idle last g → HasBegun g q → HasLog g.logs q
begun_has last g q idle h = grind arith

-- no process waits
pub each_has : (s : ReadState) (g : GatheredLogs) → GathersIn s g → MayCome s.stage None → ((q : ℕ) → Contains s.waiting q → ⊥) → EachHasLog g.logs (all_members g.logs)
each_has s g h comes none q c =
    let idle = idle_in s.stage.version s.stage.logs s.stage.last s.stage.log g h.inside comes in
    elim (decided s.begun q) [
      | inl b ↦ begun_has s.stage.last g q idle ((h.has q).0 b)
      | inr no' ↦ absurd (none q ((h.waits q).1 (rw (named_all s.stage.last g idle) c, no')))
    ]

-- p is the least that waits
pub least_lacks : (s : ReadState) (g : GatheredLogs) (p : ℕ) → GathersIn s g → MayCome s.stage None → Contains s.waiting p → ((q : ℕ) → Contains s.waiting q → p ≤ q) → IsLeastMissing g.logs (all_members g.logs) p
least_lacks s g p h comes waits least =
    let idle = idle_in s.stage.version s.stage.logs s.stage.last s.stage.log g h.inside comes in
    let k = (h.waits p).0 waits in
    record {
      named = rw (named_all s.stage.last g idle) at k.0;
      missing = λ has. k.1 ((h.has p).1 (inl has));
      least = λ q c lacks. least q ((h.waits q).1 (rw (named_all s.stage.last g idle) c, λ b. lacks (begun_has s.stage.last g q idle ((h.has q).0 b))));
    }
