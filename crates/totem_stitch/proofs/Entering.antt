-- Entering a log in its table, entry by entry.
use Rattle.totem_stitch.proofs.Common.{◌≡◌, ℕ, ◌+◌, ◌<◌, ◌≤◌, inl, inr, List, length, Option, Some, None, true, false, is_some, unwrap_or, sym, refl, ap, subst, arith, slice_get_within, BTreeMap, RingId, ConfId, Regular, Entry, ChangesTo, IsNextChange, IsFirstChange, Follows, NothingFollows, IsFollower, FollowsFirst, IsOrigin, IsNoRegular, NoneComesNext, MovesNext, HasNotCome, HasCome, KnowsFollower, HasNoOrigin, KnowsOrigin, KnowsLog, IsTable, one_next, same_first}
use Rattle.std.specs.BTreeMap as tree
use Rattle.totem_evs.specs.declared.entry.Entry.TheVariants.{Conf}
use Rattle.totem_evs.proofs.LogOf.{less_or_not}
use Rattle.totem_stitch.specs.Tables.{ring_order, conf_order}
use Rattle.totem_stitch.specs.declared.table.Table.{Table}
use Rattle.totem_names.proofs.Exact.{exact_ring, exact_conf}
use Rattle.totem_stitch.proofs.Updating.{everywhere}
use Rattle.totem_stitch.proofs.NextChanges.{one_change}

-- at most one configuration follows
pub one_follower : (log : List Entry) (c : RingId) (t u : ConfId) → Follows log c t → Follows log c u → t ≡ u
one_follower log c t u a b =
    let starts = same_first log (Regular c) a.from b.from a.first b.first in
    let next : IsNextChange log b.from a.to = rw starts at a.next in
    let ends = one_next log b.from a.to b.to next b.next in
    let change : ChangesTo log b.to t = rw ends at a.change in
    one_change log b.to t u change b.change

same_ring_of : (log : List Entry) (i : ℕ) (c d : RingId) → ChangesTo log i (Regular c) → ChangesTo log i (Regular d) → c ≡ d
same_ring_of log i c d a b = let e = one_change log i (Regular c) (Regular d) a b in cc

-- the first n entries change to the configuration

not_come_more : (log : List Entry) (n : ℕ) (c : RingId) → (ChangesTo log n (Regular c) → ⊥) → HasNotCome log n c → HasNotCome log (n + 1) c
not_come_more log n c never before = record {
  never = λ i lt change. elim (less_or_not i n) [
    | inl under ↦ before.never i under change
    | inr more ↦ elim more [ inl over ↦ omega arith | inr same ↦ never (rw same at change) ]
  ];
}

come_more : (log : List Entry) (n : ℕ) (c : RingId) (f : Option ConfId) → HasCome log n c f → HasCome log (n + 1) c f
come_more log n c f h = let before = h.before in record { index = h.index; before = omega arith; first = h.first; follows = h.follows }

knows_more : (log : List Entry) (n : ℕ) (c : RingId) (o : Option (Option ConfId)) → (o ≡ None → ChangesTo log n (Regular c) → ⊥) → KnowsFollower log n c o → KnowsFollower log (n + 1) c o
knows_more log n c None never h = not_come_more log n c (never refl) h
knows_more log n c (Some f) never h = come_more log n c f h

-- the first regular configuration that it follows

no_origin_more : (log : List Entry) (n : ℕ) (t : ConfId) → ((c : RingId) (other : Follows log c t) → other.from ≡ n → ⊥) → HasNoOrigin log n t → HasNoOrigin log (n + 1) t
no_origin_more log n t never before = record { later = λ c other. (let le = before.later c other in let apart = never c other in go other.from le apart) }
  where
    go : (i : ℕ) → n ≤ i → (i ≡ n → ⊥) → n + 1 ≤ i
    go i le apart = elim (less_or_not i n) [
      | inl under ↦ omega arith
      | inr more ↦ elim more [ inl over ↦ omega arith | inr same ↦ absurd (apart same) ]
    ]

origin_more : (log : List Entry) (n : ℕ) (t : ConfId) (o : Option RingId) → (o ≡ None → (c : RingId) (other : Follows log c t) → other.from ≡ n → ⊥) → KnowsOrigin log n t o → KnowsOrigin log (n + 1) t o
origin_more log n t None never h = no_origin_more log n t (never refl) h
origin_more log n t (Some c) never h = h

first_at : (log : List Entry) (c : RingId) (t : ConfId) (n : ℕ) (other : Follows log c t) → other.from ≡ n → IsFirstChange log (Regular c) n
first_at log c t n other same = rw same at other.first

-- the first change to c, and the next change

first_now : (log : List Entry) (n : ℕ) (c : RingId) → ChangesTo log n (Regular c) → HasNotCome log n c → IsFirstChange log (Regular c) n
first_now log n c change h = record { change = change; none_before = h.never }

follows_now : (log : List Entry) (n : ℕ) (c : RingId) (t : ConfId) → IsFirstChange log (Regular c) n → MovesNext log n t → Follows log c t
follows_now log n c t first moves = record { from = n; to = moves.next.to; first = first; next = moves.next.next; change = moves.next.change; transitional = moves.transitional }

nothing_now : (log : List Entry) (n : ℕ) (c : RingId) → IsFirstChange log (Regular c) n → NoneComesNext log n → NothingFollows log c
nothing_now log n c first none = record {
  never = λ t h. (
      let same = same_first log (Regular c) h.from n h.first first in
      let next : IsNextChange log n h.to = rw same at h.next in
      none.never t (record { to = h.to; next = next; change = h.change }) h.transitional);
}

-- entering an entry

module _ (log : List Entry) (n : ℕ) where
  -- it does not change to a regular configuration
  pub enters_other : (table : Table) → IsNoRegular log n → KnowsLog table log n → KnowsLog table log (n + 1)
  enters_other table none before = record {
    followers = λ c. knows_more log n c _ (λ _ change. none.never c change) (before.followers c);
    origins = λ t. origin_more log n t _ (λ _ c other same. none.never c (first_at log c t n other same).change) (before.origins t);
  }

  come_before : (c d : RingId) (t : ConfId) (o : Option (Option ConfId)) → is_some o ≡ true → KnowsFollower log n c o → ChangesTo log n (Regular c) → (other : Follows log d t) → other.from ≡ n → ⊥
  come_before c d t None some h change other same = absurd cc
  come_before c d t (Some f) some h change other same =
      let first = first_at log d t n other same in
      let rings : d ≡ c = same_ring_of log n d c first.change change in
      let first_c : IsFirstChange log (Regular c) n = rw (← rings) first in
      first_c.none_before h.index h.before h.first.change

  -- it changes to one to which the log changed before
  pub enters_again : (table : Table) (c : RingId) → ChangesTo log n (Regular c) → is_some (tree.get ring_order table.followers c) ≡ true → KnowsLog table log n → KnowsLog table log (n + 1)
  enters_again table c change some before = record {
    followers = λ d. knows_more log n d _ (λ none change'. (let rings : c ≡ d = same_ring_of log n c d change change' in absurd_none d rings none)) (before.followers d);
    origins = λ t. origin_more log n t _ (λ _ d other same. come_before c d t _ some (before.followers c) change other same) (before.origins t);
  }
    where
      absurd_none : (d : RingId) → c ≡ d → tree.get ring_order table.followers d ≡ None → ⊥
      absurd_none d rings none = let h : is_some (tree.get ring_order table.followers d) ≡ true = subst (λ (z : RingId). is_some (tree.get ring_order table.followers z) ≡ true) rings some in
          let k : is_some (tree.get ring_order table.followers d) ≡ false = ap (λ (o : Option (Option ConfId)). is_some o) none in cc

  not_come : (c : RingId) (o : Option (Option ConfId)) → is_some o ≡ false → KnowsFollower log n c o → HasNotCome log n c
  not_come c None e h = h
  not_come c (Some f) e h = absurd cc

  no_origin : (t : ConfId) (o : Option RingId) → is_some o ≡ false → KnowsOrigin log n t o → HasNoOrigin log n t
  no_origin t None e h = h
  no_origin t (Some f) e h = absurd cc

  -- it is the first change to c
  pub is_first : (table : Table) (c : RingId) → ChangesTo log n (Regular c) → is_some (tree.get ring_order table.followers c) ≡ false → KnowsLog table log n → IsFirstChange log (Regular c) n
  is_first table c change new before = first_now log n c change (not_come c _ new (before.followers c))

  has_come : (c : RingId) (f : Option ConfId) → IsFirstChange log (Regular c) n → IsFollower log c f → HasCome log (n + 1) c f
  has_come c f first follows = record { index = n; before = omega arith; first = first; follows = follows }

  -- what follows c is entered
  followers_more : (table : Table) (m : BTreeMap RingId (Option ConfId)) (c : RingId) (f : Option ConfId) → IsFirstChange log (Regular c) n → IsFollower log c f → tree.Updates ring_order table.followers m c (Some f)
      → KnowsLog table log n → (d : RingId) → KnowsFollower log (n + 1) d (tree.get ring_order m d)
  followers_more table m c f first follows new before =
      everywhere ring_order exact_ring (λ d o. KnowsFollower log (n + 1) d o) table.followers m c f new (has_come c f first follows)
      (λ d known. knows_more log n d _ (λ none change. (let rings : d ≡ c = same_ring_of log n d c change first.change in let some = known rings in cc)) (before.followers d))

  ring_is : (c d : RingId) (t : ConfId) → IsFirstChange log (Regular c) n → (other : Follows log d t) → other.from ≡ n → Follows log c t
  ring_is c d t first other same = let rings : d ≡ c = same_ring_of log n d c (first_at log d t n other same).change first.change in subst (λ (z : RingId). Follows log z t) rings other

  -- nothing follows c
  pub enters_last : (table : Table) (m : BTreeMap RingId (Option ConfId)) (c : RingId) → IsFirstChange log (Regular c) n → NoneComesNext log n → tree.Updates ring_order table.followers m c (Some None)
      → KnowsLog table log n → KnowsLog (record table { followers = m }) log (n + 1)
  enters_last table m c first none new before = record {
    followers = followers_more table m c None first (nothing_now log n c first none) new before;
    origins = λ t. origin_more log n t _ (λ _ d other same. (nothing_now log n c first none).never t (ring_is c d t first other same)) (before.origins t);
  }

  -- x follows c, and it followed another one before
  pub enters_known : (table : Table) (m : BTreeMap RingId (Option ConfId)) (c : RingId) (x : ConfId) → IsFirstChange log (Regular c) n → MovesNext log n x → tree.Updates ring_order table.followers m c (Some (Some x))
      → is_some (tree.get conf_order table.origins x) ≡ true → KnowsLog table log n → KnowsLog (record table { followers = m }) log (n + 1)
  enters_known table m c x first moves new some before = record {
    followers = followers_more table m c (Some x) first (follows_now log n c x first moves) new before;
    origins = λ t. origin_more log n t _ (λ none d other same. known t none (one_follower log c x t (follows_now log n c x first moves) (ring_is c d t first other same))) (before.origins t);
  }
    where
      known : (t : ConfId) → tree.get conf_order table.origins t ≡ None → x ≡ t → ⊥
      known t none e = let h : is_some (tree.get conf_order table.origins t) ≡ true = subst (λ (z : ConfId). is_some (tree.get conf_order table.origins z) ≡ true) e some in
          let k : is_some (tree.get conf_order table.origins t) ≡ false = ap (λ (o : Option RingId). is_some o) none in cc

  follows_first : (c : RingId) (x : ConfId) → IsFirstChange log (Regular c) n → MovesNext log n x → HasNoOrigin log n x → FollowsFirst log c x
  follows_first c x first moves none = record {
    follows = record { from = n; to = moves.next.to; first = first; next = moves.next.next; change = moves.next.change; transitional = moves.transitional };
    earliest = λ d other. none.later d other;
  }

  -- x follows c, and it follows none before
  pub enters_new : (table : Table) (m : BTreeMap RingId (Option ConfId)) (r : BTreeMap ConfId RingId) (c : RingId) (x : ConfId) → IsFirstChange log (Regular c) n → MovesNext log n x → tree.Updates ring_order table.followers m c (Some (Some x))
      → is_some (tree.get conf_order table.origins x) ≡ false → tree.Updates conf_order table.origins r x (Some c) → KnowsLog table log n → KnowsLog (record { followers = m; origins = r }) log (n + 1)
  enters_new table m r c x first moves new none added before = record {
    followers = followers_more table m c (Some x) first (follows_now log n c x first moves) new before;
    origins = everywhere conf_order exact_conf (λ t o. KnowsOrigin log (n + 1) t o) table.origins r x c added (follows_first c x first moves (no_origin x _ none (before.origins x)))
        (λ t known. origin_more log n t _ (λ empty d other same. (let some = known (sym (one_follower log c x t (follows_now log n c x first moves) (ring_is c d t first other same))) in cc)) (before.origins t));
  }

-- no entry is entered
pub knows_yet : (table : Table) (log : List Entry) → tree.IsEmpty table.followers → tree.IsEmpty table.origins → KnowsLog table log 0
knows_yet table log no_followers no_origins = record {
  followers = λ c. rw no_followers (record { never = λ i lt change. omega arith });
  origins = λ t. rw no_origins (record { later = λ c other. omega arith });
}

-- all entries are
pub knows_all : (table : Table) (log : List Entry) (n : ℕ) → length log ≤ n → KnowsLog table log n → IsTable table log
knows_all table log n end known = record {
  followers = λ c. follower c _ (known.followers c);
  origins = λ t. origin t _ (known.origins t);
}
  where
    within : (i : ℕ) (x : ConfId) → ChangesTo log i x → i < length log
    within i x (ms, at) = slice_get_within log i (Conf x ms) at

    follower : (c : RingId) (o : Option (Option ConfId)) → KnowsFollower log n c o → IsFollower log c (unwrap_or o None)
    follower c None h = record { never = λ t f. h.never f.from (let w = within f.from (Regular c) f.first.change in omega arith) f.first.change }
    follower c (Some f) h = h.follows

    origin : (t : ConfId) (o : Option RingId) → KnowsOrigin log n t o → IsOrigin log t o
    origin t None h = record { never = λ c f. (let w = within f.from (Regular c) f.first.change in let le = h.later c f in omega arith) }
    origin t (Some c) h = h
