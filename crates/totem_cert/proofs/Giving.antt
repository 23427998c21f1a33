-- The next class gets its number.
use Rattle.totem_cert.proofs.Common.{◌≡◌, ◌≢◌, ℕ, zero, suc, ◌+◌, ◌<◌, ◌≤◌, ◌⊎◌, below_more, inl, inr, List, [], ◌∷◌, ◌++◌, length, set, slice_get, Some, None, refl, sym, ◌∙◌, ap, arith, length-append, slice_get_within, length-set, Place, Entry, Log, Numbering, numbers_of, number_at, number_in, InClass, Rising, Table, IsTable, IsEntryAt, place, class_at, count_of, given_at, Pushes, Fits, IsGiven, IsNext, IsNextIn, IsSound, entries_left, stands_last, cases_eq}
use Rattle.totem_cert.specs.declared.heads.Head.{Head}
use Rattle.totem_cert.specs.declared.heads.Head.TheVariants.{Class}
use Rattle.totem_cert.specs.Heads.{IsHead}
use Rattle.totem_cert.proofs.Lists.{set_here, set_other, push_other}
use Rattle.totem_cert.proofs.Classmates.{class_self}
use Rattle.totem_cert.proofs.Classes.{alone_itself, in_class, class_from}
use Rattle.totem_cert.proofs.ClassHeads.{head_is}
use Rattle.totem_cert.proofs.LineFacts.{same_parts, line_of_at}
use Rattle.totem_cert.proofs.LogHeads.{ready_same}
use Rattle.totem_cert.proofs.Next.{ready_at}

-- the numbers of any other process stay
numbers_stay : (lines : List Numbering) (k : ℕ) (line now : Numbering) (q : ℕ) → slice_get lines k ≡ Some line → now.proc ≡ line.proc → (line.proc ≡ q → ⊥) → numbers_of (set lines k now) q ≡ numbers_of lines q
numbers_stay [] k line now q at proc other = absurd cc
numbers_stay (x ∷ xs) zero line now q at proc other = grind arith
numbers_stay (x ∷ xs) (suc k) line now q at proc other = grind (arith, numbers_stay xs k line now q)

left_set : (run : List Log) (lines : List Numbering) (k : ℕ) (log : Log) (line now : Numbering) → slice_get run k ≡ Some log → slice_get lines k ≡ Some line → length line.numbers < length now.numbers → length now.numbers ≤ length log.entries
    → entries_left run (set lines k now) < entries_left run lines
left_set [] lines k log line now at_l at_n lt le = absurd cc
left_set (l ∷ logs) [] k log line now at_l at_n lt le = absurd cc
left_set (l ∷ logs) (x ∷ xs) zero log line now at_l at_n lt le = grind arith
left_set (l ∷ logs) (x ∷ xs) (suc k) log line now at_l at_n lt le = grind (arith, left_set logs xs k log line now)

-- the line with one more number
abbrev longer_by : ℕ → Numbering → Numbering
longer_by n line = record line { numbers = line.numbers ++ n ∷ [] }

-- one head gets its number
module _ (run : List Log) (rising : Rising run) (old new : List Numbering) (fits : Fits run old) (k n : ℕ) (log : Log) (log_at : slice_get run k ≡ Some log) (lt : given_at old k < length log.entries) (pushes : Pushes old new k n) where
  given_is : given_at old k ≡ length pushes.line.numbers
  given_is = ap count_of pushes.line_at

  now_at : slice_get new k ≡ Some (longer_by n pushes.line)
  now_at = rw pushes.is (set_here old k (longer_by n pushes.line) (slice_get_within old k pushes.line pushes.line_at))

  stays : (j : ℕ) → j ≢ k → slice_get new j ≡ slice_get old j
  stays j other = rw pushes.is (set_other old k j (longer_by n pushes.line) other)

  longer : length (pushes.line.numbers ++ n ∷ []) ≡ length pushes.line.numbers + 1
  longer = simp length-append (omega arith)

  at_line : (j : ℕ) (l : Log) (m : Numbering) → j ≡ k → slice_get run j ≡ Some l → slice_get new j ≡ Some m → (l ≡ log) × (m ≡ longer_by n pushes.line)
  at_line j l m same at_l at_m = ((let h : slice_get run k ≡ Some l = rw same at at_l in cc), (let h : slice_get new k ≡ Some m = rw same at at_m in let g = now_at in cc))

  pub push_fits : Fits run new
  push_fits = grind (arith, length-set, cases_eq, at_line, stays, longer, given_is)

  pub push_left : entries_left run new < entries_left run old
  push_left = rw pushes.is (left_set run old k log pushes.line (longer_by n pushes.line) log_at pushes.line_at (omega (arith, longer)) (omega (arith, longer, given_is, lt)))

  pub push_given : (j : ℕ) → j ≢ k → given_at new j ≡ given_at old j
  push_given j other = ap count_of (stays j other)

  numbers_are : (numbers_of old log.proc ≡ pushes.line.numbers) × (numbers_of new log.proc ≡ pushes.line.numbers ++ n ∷ [])
  numbers_are = (line_of_at run old k log pushes.line rising fits log_at pushes.line_at, line_of_at run new k log (longer_by n pushes.line) rising push_fits log_at now_at)

  pub push_fresh : number_at new (place log.proc (given_at old k)) ≡ Some n
  push_fresh = rw (given_is, numbers_are.1) (stands_last pushes.line.numbers n)

  -- no other number changed
  pub push_changes : (e : Place) → (e ≡ place log.proc (given_at old k)) ⊎ (number_at new e ≡ number_at old e)
  push_changes e = elim (cases_eq e.proc log.proc) [
    | inl same ↦ go e.at refl same
    | inr other ↦ inr (ap (λ (ns : List ℕ). number_in ns e.at) (rw pushes.is (numbers_stay old k pushes.line (longer_by n pushes.line) e.proc pushes.line_at refl
        (λ same. other (sym same ∙ fits.proc k log pushes.line log_at pushes.line_at)))))
  ]
    where
      go : (a : ℕ) → e.at ≡ a → e.proc ≡ log.proc → (e ≡ place log.proc (given_at old k)) ⊎ (number_at new e ≡ number_at old e)
      go zero at proc = inr (rw at refl)
      go (suc i) at proc = elim (cases_eq i (length pushes.line.numbers)) [
        | inl here ↦ inl (same_parts e log.proc (suc (given_at old k)) proc (omega (arith, given_is)))
        | inr other ↦ inr (rw (proc, at, numbers_are.0, numbers_are.1) (push_other pushes.line.numbers n i other))
      ]

-- ---- the heads of a class

-- the heads of the class among the first i logs have got the number
pub record GivenTo (run : List Log) (table : Table) (old new : List Numbering) (c n i : ℕ) : Type 0 where
  pub next : IsNextIn run table old c
  pub fits : Fits run new
  pub each : (x : Place) → (InClass run (place next.at.log.proc (given_at old next.k)) x × (number_at new x ≡ Some n)) ⊎ (number_at new x ≡ number_at old x)
  pub done : (j : ℕ) → j < i → (y : Entry) (a : IsEntryAt run j (given_at old j) y) → class_at table j (given_at old j) y ≡ Some c → number_at new (place a.log.proc (given_at old j)) ≡ Some n
  pub after : (j : ℕ) → i ≤ j → given_at new j ≡ given_at old j
  pub left : (entries_left run new < entries_left run old) ⊎ (new ≡ old)

module _ (run : List Log) (table : Table) (rising : Rising run) (is_table : IsTable run table) (old : List Numbering) (sound : IsSound run old) (c n : ℕ) where
  module _ (new : List Numbering) (k : ℕ) (log : Log) (log_at : slice_get run k ≡ Some log) (h : Head) (head : IsHead run table new k h) (up : GivenTo run table old new c n k) where
    given_k : given_at new k ≡ given_at old k
    given_k = up.after k (omega arith)

    pub given_stay : (h ≡ Class c → ⊥) → GivenTo run table old new c n (k + 1)
    given_stay other = record {
      next = up.next;
      fits = up.fits;
      each = up.each;
      done = below_more (λ j. (y : Entry) (a : IsEntryAt run j (given_at old j) y) → class_at table j (given_at old j) y ≡ Some c → number_at new (place a.log.proc (given_at old j)) ≡ Some n) k up.done
          (λ y a is. absurd (other (head_is run table new k c h y head (rw given_k a) (rw given_k is))));
      after = λ j le. up.after j (omega arith);
      left = up.left;
    }

    module _ (next_lines : List Numbering) (pushes : Pushes new next_lines k n) (is : h ≡ Class c) where
      at_k : IsHead run table new k (Class c)
      at_k = rw is at head

      one : at_k.1.log ≡ log
      one = let p = at_k.1.is_log in cc

      within : given_at new k < length log.entries
      within = rw one at (slice_get_within at_k.1.log.entries (given_at new k) at_k.0 at_k.1.is_entry)

      pub given_push : GivenTo run table old next_lines c n (k + 1)
      given_push = record {
        next = up.next;
        fits = push_fits run rising new next_lines up.fits k n log log_at within pushes;
        each = λ x. elim (push_changes run rising new next_lines up.fits k n log log_at within pushes x) [
          | inl here ↦ inl (
            rw (here, ← one) (in_class run table rising is_table up.next.k (given_at old up.next.k) up.next.entry up.next.at c up.next.class k (given_at new k) at_k.0 at_k.1 at_k.2),
            rw here (push_fresh run rising new next_lines up.fits k n log log_at within pushes),
          )
          | inr same ↦ elim (up.each x) [ inl (shares, given) ↦ inl (shares, same ∙ given) | inr was ↦ inr (same ∙ was) ]
        ];
        done = below_more (λ j. (y : Entry) (a : IsEntryAt run j (given_at old j) y) → class_at table j (given_at old j) y ≡ Some c → number_at next_lines (place a.log.proc (given_at old j)) ≡ Some n) k
            (λ j lt y a is. kept (place a.log.proc (given_at old j)) (up.done j lt y a is))
            (λ y a is. (let same : a.log ≡ log = (let p = a.is_log in cc) in rw (same, ← given_k) (push_fresh run rising new next_lines up.fits k n log log_at within pushes)));
        after = λ j le. push_given run rising new next_lines up.fits k n log log_at within pushes j (λ same. omega (arith, same)) ∙ up.after j (omega arith);
        left = inl (let less = push_left run rising new next_lines up.fits k n log log_at within pushes in elim up.left [ inl lt ↦ omega arith | inr same ↦ rw same at less ]);
      }
        where
          kept : (x : Place) → number_at new x ≡ Some n → number_at next_lines x ≡ Some n
          kept x given = elim (push_changes run rising new next_lines up.fits k n log log_at within pushes x) [
            | inl here ↦ rw here (push_fresh run rising new next_lines up.fits k n log log_at within pushes)
            | inr same ↦ same ∙ given
          ]

  pub given_all : (new : List Numbering) (i : ℕ) → length run ≤ i → GivenTo run table old new c n i → IsGiven run old new n
  given_all new i end up = record {
    event = place up.next.at.log.proc (given_at old up.next.k);
    next = up.next.next;
    fresh = fresh;
    each = up.each;
    fits = up.fits;
    left = elim up.left [
      | inl lt ↦ lt
      | inr same ↦ absurd (let given = fresh (place up.next.at.log.proc (given_at old up.next.k)) (class_self run (place up.next.at.log.proc (given_at old up.next.k)) up.next.next.ready.event) in let none = up.next.next.ready.unnumbered in let was = rw same at given in cc)
    ];
  }
    where
      -- the events of the class are heads
      fresh : (x : Place) → InClass run (place up.next.at.log.proc (given_at old up.next.k)) x → number_at new x ≡ Some n
      fresh x shares =
          let ready = ready_same run old sound.number (place up.next.at.log.proc (given_at old up.next.k)) x sound.sound shares up.next.next.ready in
          let (j, y, a, is) = ready_at run old x rising sound.fits ready in
          let in_c = class_from run table rising is_table up.next.k (given_at old up.next.k) up.next.entry up.next.at c up.next.class j (given_at old j) y a (rw is at shares) in
          rw is (up.done j (let lt = slice_get_within run j a.log a.is_log in omega arith) y a in_c)

-- ---- an entry that is alone in its class

pub given_alone : (run : List Log) (table : Table) (old new : List Numbering) (k n : ℕ) (log : Log) (x : Entry) → Rising run → IsTable run table → IsSound run old → slice_get run k ≡ Some log → (a : IsEntryAt run k (given_at old k) x)
    → class_at table k (given_at old k) x ≡ None → IsNext run old (place log.proc (given_at old k)) → Pushes old new k n → IsGiven run old new n
given_alone run table old new k n log x rising is_table sound log_at a alone next pushes = record {
  event = place log.proc (given_at old k);
  next = next;
  fresh = λ f shares. (let same : place a.log.proc (given_at old k) ≡ f = alone_itself run table rising is_table k (given_at old k) x a f alone (rw one shares) in
      rw (← same, one) (push_fresh run rising old new sound.fits k n log log_at within pushes));
  each = λ f. elim (push_changes run rising old new sound.fits k n log log_at within pushes f) [
    | inl here ↦ inl (rw here (class_self run (place log.proc (given_at old k)) next.ready.event), rw here (push_fresh run rising old new sound.fits k n log log_at within pushes))
    | inr same ↦ inr same
  ];
  fits = push_fits run rising old new sound.fits k n log log_at within pushes;
  left = push_left run rising old new sound.fits k n log log_at within pushes;
}
  where
    one : a.log ≡ log
    one = let p = a.is_log in cc

    within : given_at old k < length log.entries
    within = rw one at (slice_get_within a.log.entries (given_at old k) x a.is_entry)
