-- The first wanted entries, noted entry by entry.
use Rattle.totem_cert.proofs.Common.{◌≡◌, ℕ, ◌+◌, ◌<◌, ◌≤◌, ◌⊎◌, inl, inr, List, length, set, get_or, slice_get, Option, Some, None, Bool, true, cond, refl, sym, ◌∙◌, arith, if◌then◌else◌, nat_le, nat_lt, common_steps, leb-true, ltb-true, cases_eq, slice_get_within, slice_get-get_or, get_or_from_slice_get, length-set, Place, Entry, Log, Numbering, Table, place, given_at, class_wanted, IsWanted, IsPast, AreFirsts, AreFirstsTo, Notes}
use Rattle.std.proofs.Math.Dec.{leb, ltb}
use Rattle.totem_table.specs.Tables.{IsEntryAt, number_at}
use Rattle.totem_cert.specs.declared.firsts.Wanted.{Wanted}
use Rattle.totem_cert.proofs.Lists.{set_here, set_other}

pub notes_first : (old : List (Option Place)) (class : ℕ) (e : Place) → class < length old → get_or old class None ≡ None → Notes old (set old class (Some e)) (Some class) e
notes_first old class e within none = grind (arith, length-set, cases_eq, slice_get-get_or, set_here, set_other)

pub notes_later : (old : List (Option Place)) (class : ℕ) (e : Place) → class < length old → (get_or old class None ≡ None → ⊥) → Notes old old (Some class) e
notes_later old class e within some = grind (arith, get_or_from_slice_get)

pub notes_past : (old : List (Option Place)) (class : ℕ) (e : Place) → length old ≤ class → Notes old old (Some class) e
notes_past old class e past = grind (arith, slice_get_within)

pub notes_nothing : (old : List (Option Place)) (e : Place) → Notes old old None e
notes_nothing old e = record { long = refl; each = λ c. inl (refl, λ h none. cc) }

tested : (t : Bool) (c : ℕ) (o : Option ℕ) → cond t o None ≡ Some c → (t ≡ true) × (o ≡ Some c)
tested t c o is = grind (arith, common_steps)

-- what is wanted is late enough
pub le_parts : (a b c : ℕ) (o : Option ℕ) → (if nat_le a b then o else None) ≡ Some c → (a ≤ b) × (o ≡ Some c)
le_parts a b c o is = let parts = tested (leb a b) c o is in (leb-true a b parts.0, parts.1)

pub lt_parts : (a b c : ℕ) (o : Option ℕ) → (if nat_lt a b then o else None) ≡ Some c → (a < b) × (o ≡ Some c)
lt_parts a b c o is = let parts = tested (ltb a b) c o is in (ltb-true a b parts.0, parts.1)

before_or_not : (k i l j : ℕ) → IsPast k i l j ⊎ ((k < l) ⊎ ((k ≡ l) × (i ≤ j)))
before_or_not k i l j = grind arith

-- what comes before the next entry comes before this one, or is it
past_more : (k i l j : ℕ) → IsPast k (i + 1) l j → IsPast k i l j ⊎ ((l ≡ k) × (j ≡ i))
past_more k i l j past = grind (arith, common_steps)

module _ (run : List Log) (table : Table) (lines : List Numbering) (wanted : Wanted) where
  -- one more entry
  pub first_more : (old new : List (Option Place)) (k i : ℕ) (x : Entry) (class : Option ℕ) (e : Place) (at : IsEntryAt run k i x) → class ≡ class_wanted wanted (length table.messages.items) (given_at lines k) i x (number_at table k i)
      → Notes old new class e → e ≡ place at.log.proc i → AreFirstsTo run table lines wanted old k i → AreFirstsTo run table lines wanted new k (i + 1)
  first_more old new k i x class e at class_is notes e_is so_far = record {
    long = notes.long ∙ so_far.long;
    none = λ c l j at_c past w. elim (notes.each c) [
      | inl (same, other) ↦ elim (past_more k i l j past) [
        | inl before ↦ so_far.none c l j (sym same ∙ at_c) before w
        | inr (eq, also) ↦ other (class_is ∙ wanted_here c l j eq also w) (sym same ∙ at_c)
      ]
      | inr (_, _, now) ↦ cc
    ];
    found = λ c f at_c. elim (notes.each c) [
      | inl (same, _) ↦ so_far.found c f (sym same ∙ at_c)
      | inr (is, was, now) ↦ record {
        k = k;
        i = i;
        is_wanted = record { entry = x; at = at; class = sym class_is ∙ is };
        is = (let one : e ≡ f = cc in sym one ∙ e_is);
        first = λ l j w. elim (before_or_not k i l j) [ inl before ↦ absurd (so_far.none c l j was before w) | inr after ↦ after ];
      }
    ];
  }
    where
      wanted_here : (c l j : ℕ) → l ≡ k → j ≡ i → IsWanted run table lines wanted c l j → class_wanted wanted (length table.messages.items) (given_at lines k) i x (number_at table k i) ≡ Some c
      wanted_here c l j eq also w = grind arith

  -- one more log
  pub firsts_log : (firsts : List (Option Place)) (k i : ℕ) (log : Log) → slice_get run k ≡ Some log → length log.entries ≤ i → AreFirstsTo run table lines wanted firsts k i → AreFirstsTo run table lines wanted firsts (k + 1) 0
  firsts_log firsts k i log log_at end so_far = record {
    long = so_far.long;
    none = λ c l j at_c past w. so_far.none c l j at_c (earlier c l j past w) w;
    found = so_far.found;
  }
    where
      earlier : (c l j : ℕ) → IsPast (k + 1) 0 l j → IsWanted run table lines wanted c l j → IsPast k i l j
      earlier c l j past w = grind (arith, cases_eq, slice_get_within)

  pub unwanted : (firsts : List (Option Place)) (c l j : ℕ) → AreFirsts run table lines wanted firsts → slice_get firsts c ≡ Some None → IsWanted run table lines wanted c l j → ⊥
  unwanted firsts c l j are at w = are.none c l j at (inl (slice_get_within run l w.at.log w.at.is_log)) w
