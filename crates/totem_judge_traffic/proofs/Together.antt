-- 4 over the traffic of a configuration.
use Rattle.totem_judge_traffic.proofs.Common.{◌≡◌, ◌⊎◌, inl, inr, ℕ, ◌<◌, List, refl, sym, subst, arith, All, RingId, ConfId, Regular, MsgId, Log, Entry, Conf, ChangesTo, Delivers, log_of, IsNextChange, Com, Follows, MeetsPasses, less_or_not, IsLogAt, IsTrafficOf, IsWhole, IsTogether, IsAtomic, Shows, one_next}
use Rattle.totem_evs.specs.declared.spec.SpecNo.TheVariants as spec
use Rattle.totem_evs.specs.Agreement.{Goes}
use Rattle.totem_evs.proofs.Originating.{origin}
use Rattle.totem_judge_traffic.specs.declared.log_set.LogSet.{LogSet}
use Rattle.totem_judge_traffic.specs.declared.traffic.Traffic.{Traffic}
use Rattle.totem_judge_traffic.specs.LogSets.{Has}
use Rattle.totem_judge_traffic.proofs.Facts.{all_at, has_log, got_of}

-- ---- what follows a configuration in a log

one_change : (log : List Entry) (i : ℕ) (x y : ConfId) → ChangesTo log i x → ChangesTo log i y → x ≡ y
one_change log i x y (ms, at) (ns, also) = cc

module _ (run : List Log) (c : RingId) (meets : MeetsPasses run) where
  -- the next configuration after c follows it
  next_follows : (p : ℕ) (d : ConfId) → Goes (log_of run p) (Regular c) d → Follows (log_of run p) c d
  next_follows p d (i, j, change, next, to) = record {
    from = i;
    to = j;
    first = record { change = change; none_before = λ k lt other. let same = meets.one.once p k i (Regular c) other change in omega arith };
    next = next;
    change = to;
    transitional = ((meets.turns.each p).turns i j (Regular c) d change.0 to.0 (record { first = change.1; second = to.1; next = next })).0 tt;
  }

  -- one configuration follows c in a log
  pub one_following : (q : ℕ) (x y : ConfId) → Follows (log_of run q) c x → Follows (log_of run q) c y → x ≡ y
  one_following q x y a b =
      let from : b.from ≡ a.from = meets.one.once q b.from a.from (Regular c) b.first.change a.first.change in
      let next : IsNextChange (log_of run q) a.from b.to = rw from at b.next in
      let to : b.to ≡ a.to = one_next (log_of run q) a.from b.to a.to next a.next in
      one_change (log_of run q) a.to x y a.change (rw to at b.change)

  -- what follows c in one log follows it in another
  pub follows_too : (p q i : ℕ) (x : ConfId) → Follows (log_of run p) c x → ChangesTo (log_of run q) i x → Follows (log_of run q) c x
  follows_too p q i x f change =
      let of = origin run q i x meets change f.transitional in
      let same : c ≡ of.ring = go of.ring of.follows (less_or_not p q) in
      subst (λ (r : RingId). Follows (log_of run q) r x) (sym same) of.follows
    where
      go : (r : RingId) → Follows (log_of run q) r x → (p < q) ⊎ ((q < p) ⊎ (p ≡ q)) → c ≡ r
      go r g (inl lt) = meets.turns.origin p f.from f.to q g.from g.to c r x f.first.change.0 f.change.0 g.first.change.0 g.change.0 lt f.transitional
          (record { first = f.first.change.1; second = f.change.1; next = f.next }) (record { first = g.first.change.1; second = g.change.1; next = g.next })
      go r g (inr (inl gt)) = sym (meets.turns.origin q g.from g.to p f.from f.to r c x g.first.change.0 g.change.0 f.first.change.0 f.change.0 gt f.transitional
          (record { first = g.first.change.1; second = g.change.1; next = g.next }) (record { first = f.first.change.1; second = f.change.1; next = f.next }))
      go r g (inr (inr same)) = one_ring r g (subst (λ (k : ℕ). Follows (log_of run k) c x) same f)
        where
          one_ring : (r : RingId) → Follows (log_of run q) r x → Follows (log_of run q) c x → c ≡ r
          one_ring r g h =
              let to : h.to ≡ g.to = meets.one.once q h.to g.to x h.change g.change in
              let later : h.from < g.to = (let l = h.next.later in omega arith) in
              let earlier : g.from < h.to = (let l = g.next.later in omega arith) in
              let from : h.from ≡ g.from = elim (less_or_not h.from g.from) [
                | inl under ↦ absurd (h.next.none_between g.from under earlier (Regular r, g.first.change))
                | inr others ↦ elim others [ inl over ↦ absurd (g.next.none_between h.from over later (Regular c, h.first.change)) | inr e ↦ e ]
              ] in
              let e : Regular c ≡ Regular r = one_change (log_of run q) g.from (Regular c) (Regular r) (rw from at h.first.change) g.first.change in
              cc

-- ---- which processes move on together

-- if all or none of a group are in a set, and one is, each is
each_of : (group set : LogSet) (j k : ℕ) → IsWhole group set → Has group j → Has group k → Has set j → Has set k
each_of group set j k whole at_j at_k has = grind arith

module _ (run : List Log) (c : RingId) (traffic : Traffic) (meets : MeetsPasses run) (is : IsTrafficOf run c traffic) (clean : All (IsAtomic traffic.following.items) traffic.got.items) where
  -- a process that changes has a log
  log_of_change : (p : ℕ) (x d : ConfId) → Goes (log_of run p) x d → (index : ℕ) × IsLogAt run index p
  log_of_change p x d (i, j, (ms, at), next, to) = has_log run p i (Conf x ms) at

  -- from c
  there : (p q : ℕ) (d : ConfId) → Goes (log_of run p) (Regular c) d → Goes (log_of run q) (Regular c) d → (i : ℕ) (m : MsgId) → Delivers (log_of run p) i m (Regular c)
      → (j : ℕ) × Delivers (log_of run q) j m (Regular c)
  there p q d goes too i m delivers =
      let has = is.all_got p i m (Regular c, delivers, inl refl) in
      let known = got_of run c traffic is m has in
      let follows = next_follows run c meets p d goes in
      let f = is.following p d follows in
      let together = all_at (IsTogether has.got) traffic.following.items f.at f.following (all_at (IsAtomic traffic.following.items) traffic.got.items has.at has.got clean has.stands) f.stands in
      let one = log_of_change p (Regular c) d goes in
      let other = log_of_change q (Regular c) d too in
      (known.regular.exact other.0 q other.1).0 (each_of f.following.logs has.got.regular one.0 other.0 together.0 ((f.is.logs.exact one.0 p one.1).1 follows)
      ((f.is.logs.exact other.0 q other.1).1 (next_follows run c meets q d too)) ((known.regular.exact one.0 p one.1).1 (i, delivers)))

  -- from what follows it
  behind : (p q : ℕ) (x d : ConfId) → Follows (log_of run p) c x → Goes (log_of run p) x d → Goes (log_of run q) x d → (i : ℕ) (m : MsgId) → Delivers (log_of run p) i m x
      → (j : ℕ) × Delivers (log_of run q) j m x
  behind p q x d follows goes too i m delivers =
      let has = is.all_got p i m (x, delivers, inr follows) in
      let known = got_of run c traffic is m has in
      let f = is.following p x follows in
      let together = all_at (IsTogether has.got) traffic.following.items f.at f.following (all_at (IsAtomic traffic.following.items) traffic.got.items has.at has.got clean has.stands) f.stands in
      let one = log_of_change p x d goes in
      let other = log_of_change q x d too in
      let at = (known.transitional.exact other.0 q other.1).0 (each_of f.following.left has.got.transitional one.0 other.0 together.1 ((f.is.left.exact one.0 p one.1).1 (d, goes))
      ((f.is.left.exact other.0 q other.1).1 (d, too)) ((known.transitional.exact one.0 p one.1).1 (i, x, delivers, follows))) in
      let same : at.1 ≡ x = one_following run c meets q at.1 x at.3 (follows_too run c meets p q too.0 x follows too.2) in
      (at.0, rw same at at.2)

  atomic : (p q : ℕ) (x d : ConfId) → Com (log_of run p) c x → Goes (log_of run p) x d → Goes (log_of run q) x d → (i : ℕ) (m : MsgId) → Delivers (log_of run p) i m x
      → (j : ℕ) × Delivers (log_of run q) j m x
  atomic p q x d (inl e) goes too i m delivers =
      subst (λ (y : ConfId). Goes (log_of run p) y d → Goes (log_of run q) y d → Delivers (log_of run p) i m y → (j : ℕ) × Delivers (log_of run q) j m y) (sym e)
      (λ a b del. there p q d a b i m del) goes too delivers
  atomic p q x d (inr follows) goes too i m delivers = behind p q x d follows goes too i m delivers

pub atomicity_met : (traffic : Traffic) → All (IsAtomic traffic.following.items) traffic.got.items → Shows spec.Atomicity traffic
atomicity_met traffic clean = record {
  met = λ run c meets is. record { each = λ p q x d stays goes too i m delivers. atomic run c traffic meets is clean p q x d stays goes too i m delivers };
}
