-- What follows a regular configuration in a log, from the first change to it and the next one.
use Rattle.totem_judge_run.proofs.Common.{arith, ℕ, List, false, Bool, IsTrue, ◌↔◌, RingId, ConfId, Regular, Entry, ChangesTo, IsTransitional, IsFirstChange, IsNextChange, Follows, one_next, same_first}
use Rattle.totem_search.specs.Following.{NoNextChange, NeverChangesTo}
use Rattle.totem_search.proofs.Loops.{no_is}

pub never_follows : (log : List Entry) (c : RingId) (d : ConfId) → NeverChangesTo log (Regular c) → IsTrue false ↔ Follows log c d
never_follows log c d never = no_is (λ h. never.never h.from h.first.change)

pub nothing_follows : (log : List Entry) (c : RingId) (d : ConfId) (i : ℕ) → IsFirstChange log (Regular c) i → NoNextChange log i → IsTrue false ↔ Follows log c d
nothing_follows log c d i first none = no_is (λ h. let same = same_first log (Regular c) h.from i h.first first in none.none h.to (rw same at h.next.later) h.next.change)

pub changes_at_next : (log : List Entry) (c : RingId) (d : ConfId) (i j : ℕ) → IsFirstChange log (Regular c) i → IsNextChange log i j → Follows log c d → ChangesTo log j d
changes_at_next log c d i j first next h =
    let from = same_first log (Regular c) h.from i h.first first in
    let to = one_next log i h.to j (rw from at h.next) next in rw to at h.change

pub other_follows : (log : List Entry) (c : RingId) (d : ConfId) (i j : ℕ) → IsFirstChange log (Regular c) i → IsNextChange log i j → (ChangesTo log j d → ⊥) → IsTrue false ↔ Follows log c d
other_follows log c d i j first next never = no_is (λ h. never (changes_at_next log c d i j first next h))

pub that_follows : (log : List Entry) (c : RingId) (d : ConfId) (i j : ℕ) (b : Bool) → IsFirstChange log (Regular c) i → IsNextChange log i j → ChangesTo log j d → IsTrue b ↔ IsTransitional d → IsTrue b ↔ Follows log c d
that_follows log c d i j b first next change tells = grind arith
