-- All changes to regular configurations are gathered, each in one place.
use Rattle.totem_judge.proofs.Common.{◌≡◌, inl, inr, ℕ, ◌<◌, ◌≤◌, List, length, slice_get, Some, refl, sym, subst, arith, slice_get_within, RingId, Regular, Entry, Conf, Log, IsRun, ChangesTo, log_of, Follows, Numbering, Certified, less_or_not, Traffic, IsLogAt, IsOrderly, same_change, change_within, one_at, IsEventAt, HasSuch, IsAny, AreCovered, AreRisingTo, IsReplayed, IsSeen}
use Rattle.totem_judge_run.specs.Stays.{IsStay}
use Rattle.totem_judge.specs.declared.gathered.Gathered.{Gathered}
use Rattle.totem_judge.specs.declared.gathered.Stay.{Stay}
use Rattle.totem_judge.proofs.Numbers.{entries_of, one_change_number}
use Rattle.totem_judge.proofs.Listed.{stay_in, Verified}

-- a change to a regular configuration in a stay is that with which the stay begins
begins : (log : List Entry) (c d : RingId) (from turn end i : ℕ) → IsStay log d from turn end → from ≤ i → i < end → ChangesTo log i (Regular c) → d ≡ c
begins log c d from turn end i is le until change = elim (less_or_not from i) [
  | inl after ↦ absurd (
      let at : i ≡ turn = is.changes i after until (Regular c, change) in
      let turns = is.turns (omega (arith, at, until)) in
      let same : turns.conf ≡ Regular c = same_change log turn i turns.conf (Regular c) (sym at) turns.change change in
      let follows : Follows log d (Regular c) = rw same at turns.follows in
      follows.transitional
      )
  | inr (inl under) ↦ absurd (omega arith)
  | inr (inr same) ↦ (let equal : Regular d ≡ Regular c = same_change log from i (Regular d) (Regular c) same is.change change in cc)
]

-- the configurations of an orderly run were gathered and verified
pub record AllSeen (run : List Log) (lines : List Numbering) (list : List Gathered) : Type 0 where
  pub is_run : IsRun run
  pub orderly : IsOrderly run
  pub certified : Certified run lines
  pub covered : AreCovered run list (length run)
  pub rise : AreRisingTo list (length list)
  pub seen : (k : ℕ) (g : Gathered) → slice_get list k ≡ Some g → (traffic : Traffic) × IsSeen run lines g traffic

module _ {run : List Log} {lines : List Numbering} {list : List Gathered} (all : AllSeen run lines list) where
  open all use {is_run, orderly, certified, covered, rise, seen}

  replayed_at : (k j : ℕ) (g : Gathered) (stay : Stay) → slice_get list k ≡ Some g → slice_get g.stays.items j ≡ Some stay → IsReplayed run lines g stay
  replayed_at k j g stay at stands = (seen k g at).1.lists.replayed.each j stay (slice_get_within g.stays.items j stay stands) stands

  -- the configuration of this ring is gathered, with a stay of the log at l
  pub record Gathers (l : ℕ) (c : RingId) : Type 0 where
    pub at : ℕ
    pub gathered : Gathered
    pub stands : slice_get list at ≡ Some gathered
    pub ring : gathered.ring ≡ c
    pub has : HasSuch IsAny gathered.stays.items (length gathered.stays.items) l

  pub gathers : (l p i : ℕ) (c : RingId) → IsLogAt run l p → ChangesTo (log_of run p) i (Regular c) → Gathers l c
  gathers l p i c log change =
      let within = rw (entries_of run l p is_run.rising log) at (change_within (log_of run p) i (Regular c) change) in
      let found = (covered.each l log.log (slice_get_within run l log.log log.stands) log.stands).each i within in
      let g = found.gathered in
      let stay = found.stay in
      let is = stay_in run lines g stay p is_run orderly (subst (λ (j : ℕ). IsLogAt run j p) (sym found.log_is) log) (replayed_at found.at found.place g stay found.stands found.stay_is) in
      record {
        at = found.at;
        gathered = g;
        stands = found.stands;
        ring = begins (log_of run p) c g.ring stay.from stay.turn stay.end i is found.from found.until change;
        has = record { at = found.place; stay = stay; before = slice_get_within g.stays.items found.place stay found.stay_is; stands = found.stay_is; of = found.log_is; such = tt };
      }

  -- a change to the configuration, with its number
  record Changed (g : Gathered) : Type 0 where
    pub l : ℕ
    pub p : ℕ
    pub at : ℕ
    pub members : List ℕ
    pub log : IsLogAt run l p
    pub event : IsEventAt run lines l at (Conf (Regular g.ring) members) g.number

  changed : (k : ℕ) (g : Gathered) → slice_get list k ≡ Some g → Changed g
  changed k g at =
      let first = (seen k g at).1.members in
      let r = replayed_at k first.at g first.stay at first.stands in
      record {
        l = first.stay.log;
        p = r.log.proc;
        at = first.stay.from;
        members = r.bounded.change.0;
        log = record { log = r.log; stands = r.log_is; proc = refl };
        event = record { log = r.log; line = r.line; log_is = r.log_is; line_is = r.line_is; entry_is = r.bounded.change.1; number_is = r.number };
      }

  -- the configuration of a ring is gathered once
  one_gathered : (j k : ℕ) (g h : Gathered) → slice_get list j ≡ Some g → slice_get list k ≡ Some h → g.ring ≡ h.ring → g ≡ h
  one_gathered j k g h at_j at_k same = elim (less_or_not j k) [
    | inl under ↦ absurd (let lt = rise.rising j k g h under (slice_get_within list k h at_k) at_j at_k in omega (arith, lt, numbers))
    | inr (inl over) ↦ absurd (let lt = rise.rising k j h g over (slice_get_within list j g at_j) at_k at_j in omega (arith, lt, numbers))
    | inr (inr is) ↦ one_at list k g h (rw is at at_j) at_k
  ]
    where
      numbers : g.number ≡ h.number
      numbers =
          let a = changed j g at_j in
          let b = changed k h at_k in
          let event : IsEventAt run lines a.l a.at (Conf (Regular h.ring) a.members) g.number = subst (λ (c : RingId). IsEventAt run lines a.l a.at (Conf (Regular c) a.members) g.number) same a.event in
          one_change_number run lines is_run.rising certified a.l b.l a.p b.p a.at b.at (Regular h.ring) a.members b.members g.number h.number a.log b.log event b.event

  -- each process that changes to the configuration has a stay there
  pub verified : (k : ℕ) (g : Gathered) (traffic : Traffic) → slice_get list k ≡ Some g → IsSeen run lines g traffic → Verified run lines g traffic
  verified k g traffic at is = record {
    is_run = is_run;
    orderly = orderly;
    certified = certified;
    seen = is;
    whole = λ l p i log change. (let found = gathers l p i g.ring log change in subst (λ (x : Gathered). HasSuch IsAny x.stays.items (length x.stays.items) l) (one_gathered found.at k found.gathered g found.stands at found.ring) found.has);
  }
