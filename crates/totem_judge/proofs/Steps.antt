-- Steps of the loops over stays, logs and members.
use Rattle.totem_judge.proofs.Common.{◌≡◌, ◌≢◌, ◌⊎◌, inl, inr, ℕ, zero, suc, ◌+◌, ◌<◌, ◌≤◌, List, [], ◌∷◌, ◌++◌, length, length-set, replicate, slice_get, slice_set, Some, refl, sym, ◌∙◌, ap, subst, arith, append-nil, ◌↔◌, slice_index, Contains, slice_get_within, RingId, ConfId, Log, Pending, Traffic, IsLogAt, IsTrafficOf, AddsPending, before_or_at, one_at, stands_last, HasSuch, Selects, IsLogOfMember, AreLogsOfMembers, TurnsTo, IsFollowing, HasFollowingOf, HasFollowings, IsCoveredTo, AreCoveredTo, AreCovered, IsPendingTo, AddsAll, MsgId, Entry, Deliver, Got, Sent, IsBy, EachBelow, AreSkipped, AreUnsent, IsOriginAt, AreSentIn, IsDeliveryOf, IsListed, AreAsListed}
use Rattle.std.proofs.lemmas.Grind.{get_or-set_at}
use Rattle.std.proofs.lemmas.List.{get_or-replicate, get_or-set_other, length-replicate}
use Rattle.totem_judge_traffic.specs.declared.log_set.LogSet.{LogSet}
use Rattle.totem_judge_traffic.specs.declared.traffic.Following.{Following}
use Rattle.totem_judge_traffic.specs.LogSets.{Has, IsEmpty}
use Rattle.totem_judge.specs.declared.gathered.Gathered.{Gathered}
use Rattle.totem_judge.proofs.Numbers.{below_or_not}
use Rattle.totem_judge.specs.declared.gathered.Stay.{Stay}

same_or_not : (a b : ℕ) → (a ≡ b) ⊎ (a ≢ b)
same_or_not a b = grind arith

-- ---- what holds at each index

pub each_more : (Holds : ℕ → Type 0) (n : ℕ) → Holds n → EachBelow Holds n → EachBelow Holds (n + 1)
each_more Holds n here so_far = grind (arith, before_or_at)

-- ---- sets of stays' logs

-- what is in a set, if it got one more
set_more : (old new : LogSet) (Was Is : ℕ → Type 0) (k : ℕ) → Has new k → ((i : ℕ) → i ≢ k → Has new i ↔ Has old i) → Is k → ((i : ℕ) → i ≢ k → Was i ↔ Is i) → ((i : ℕ) → Has old i ↔ Was i) → (i : ℕ) → Has new i ↔ Is i
set_more old new Was Is k here others is same so_far i = elim (same_or_not i k) [
  | inl one ↦ rw one (λ has. is, λ h. here)
  | inr apart ↦ (λ has. (same i apart).0 ((so_far i).0 ((others i apart).0 has)), λ h. (others i apart).1 ((so_far i).1 ((same i apart).1 h)))
]

such_later : (Such : Stay → Type 0) (stays : List Stay) (n log : ℕ) → HasSuch Such stays n log → HasSuch Such stays (n + 1) log
such_later Such stays n log h = record { at = h.at; stay = h.stay; before = (let lt = h.before in omega arith); stands = h.stands; of = h.of; such = h.such }

such_earlier : (Such : Stay → Type 0) (stays : List Stay) (n log : ℕ) (h : HasSuch Such stays (n + 1) log) → h.at < n → HasSuch Such stays n log
such_earlier Such stays n log h lt = record { at = h.at; stay = h.stay; before = lt; stands = h.stands; of = h.of; such = h.such }

module _ (Such : Stay → Type 0) (stays : List Stay) (n : ℕ) (stay : Stay) (at : slice_get stays n ≡ Some stay) where
  -- the next stay keeps the condition, and its log is in the set
  pub select_more : (old new : LogSet) → Such stay → Has new stay.log → ((log : ℕ) → log ≢ stay.log → Has new log ↔ Has old log) → Selects Such stays n old → Selects Such stays (n + 1) new
  select_more old new such here others so_far = record { exact = set_more old new (HasSuch Such stays n) (HasSuch Such stays (n + 1)) stay.log here others newest same so_far.exact }
    where
      newest : HasSuch Such stays (n + 1) stay.log
      newest = record { at = n; stay = stay; before = omega arith; stands = at; of = refl; such = such }

      same : (log : ℕ) → log ≢ stay.log → HasSuch Such stays n log ↔ HasSuch Such stays (n + 1) log
      same log apart = (
        such_later Such stays n log,
        λ h. elim (before_or_at h.at n h.before) [
          | inl under ↦ such_earlier Such stays n log h under
          | inr level ↦ absurd (let e : h.stay ≡ stay = one_at stays n h.stay stay (rw level at h.stands) at in apart (sym h.of ∙ ap (λ (y : Stay). y.log) e))
        ],
      )

  -- the next stay does not keep the condition
  pub select_skip : (set : LogSet) → (Such stay → ⊥) → Selects Such stays n set → Selects Such stays (n + 1) set
  select_skip set never so_far = record {
    exact = λ log. (
      λ has. such_later Such stays n log ((so_far.exact log).0 has),
      λ h. elim (before_or_at h.at n h.before) [
        | inl under ↦ (so_far.exact log).1 (such_earlier Such stays n log h under)
        | inr level ↦ absurd (never (subst Such (one_at stays n h.stay stay (rw level at h.stands) at) h.such))
      ],
    );
  }

-- ---- members

member_later : (run : List Log) (members : List ℕ) (n index : ℕ) → IsLogOfMember run members n index → IsLogOfMember run members (n + 1) index
member_later run members n index h = record { before = (let lt = h.before in omega arith); log = h.log; stands = h.stands; member = h.member }

member_earlier : (run : List Log) (members : List ℕ) (n index : ℕ) → index < n → IsLogOfMember run members (n + 1) index → IsLogOfMember run members n index
member_earlier run members n index lt h = record { before = lt; log = h.log; stands = h.stands; member = h.member }

module _ (run : List Log) (members : List ℕ) (n : ℕ) (log : Log) (at : slice_get run n ≡ Some log) where
  pub member_more : (old new : LogSet) → Contains members log.proc → Has new n → ((index : ℕ) → index ≢ n → Has new index ↔ Has old index) → AreLogsOfMembers run members n old → AreLogsOfMembers run members (n + 1) new
  member_more old new member here others so_far = record { exact = set_more old new (IsLogOfMember run members n) (IsLogOfMember run members (n + 1)) n here others newest same so_far.exact }
    where
      newest : IsLogOfMember run members (n + 1) n
      newest = record { before = omega arith; log = log; stands = at; member = member }

      same : (index : ℕ) → index ≢ n → IsLogOfMember run members n index ↔ IsLogOfMember run members (n + 1) index
      same index apart = (member_later run members n index, λ h. elim (before_or_at index n h.before) [ inl under ↦ member_earlier run members n index under h | inr level ↦ absurd (apart level) ])

  pub member_skip : (set : LogSet) → (Contains members log.proc → ⊥) → AreLogsOfMembers run members n set → AreLogsOfMembers run members (n + 1) set
  member_skip set never so_far = record {
    exact = λ index. (
      λ has. member_later run members n index ((so_far.exact index).0 has),
      λ h. elim (before_or_at index n h.before) [
        | inl under ↦ (so_far.exact index).1 (member_earlier run members n index under h)
        | inr level ↦ absurd (never (subst (λ (l : Log). Contains members l.proc) (one_at run n h.log log (rw level at h.stands) at) h.member))
      ],
    );
  }

-- ---- what follows

-- the list has what follows in each of these logs
pub record HasFollowingsOf (run : List Log) (stays : List Stay) (list : List Following) (seen : LogSet) : Type 0 where
  pub each : (log : ℕ) → Has seen log → HasFollowingOf run stays list log

pub followings_none : (run : List Log) (stays : List Stay) (list : List Following) → HasFollowings run stays 0 list
followings_none run stays list = record { each = λ k stay x ms lt stands turns. absurd (omega arith) }

pub seen_none : (run : List Log) (stays : List Stay) (list : List Following) (seen : LogSet) → IsEmpty seen → HasFollowingsOf run stays list seen
seen_none run stays list seen empty = record { each = λ log has. absurd (empty.none log has) }

pub append_get : {X : Type 0} (xs ys : List X) (i : ℕ) (x : X) → slice_get xs i ≡ Some x → slice_get (xs ++ ys) i ≡ Some x
append_get [] ys i x at = absurd cc
append_get (z ∷ xs) ys zero x at = at
append_get (z ∷ xs) ys (suc i) x at = append_get xs ys i x at

pub following_kept : (run : List Log) (stays : List Stay) (list more : List Following) (log : ℕ) → HasFollowingOf run stays list log → HasFollowingOf run stays (list ++ more) log
following_kept run stays list more log h = record {
  at = h.at;
  following = h.following;
  stands = append_get list more h.at h.following h.stands;
  conf = h.conf;
  members = h.members;
  stay = h.stay;
  turns = h.turns;
  is = h.is;
  has = h.has;
}

module _ (run : List Log) (stays : List Stay) (n : ℕ) (stay : Stay) (at : slice_get stays n ≡ Some stay) (list : List Following) where
  same_stay : (k : ℕ) (other : Stay) → k ≡ n → slice_get stays k ≡ Some other → other ≡ stay
  same_stay k other same stands = one_at stays n other stay (rw same at stands) at

  -- what follows in the next stay is listed
  followings_more : (more : List Following) → ((x : ConfId) (ms : List ℕ) → TurnsTo run stay x ms → HasFollowingOf run stays (list ++ more) stay.log) → HasFollowings run stays n list → HasFollowings run stays (n + 1) (list ++ more)
  followings_more more here so_far = record {
    each = λ k other x ms lt stands turns. elim (before_or_at k n lt) [
      | inl under ↦ following_kept run stays list more other.log (so_far.each k other x ms under stands turns)
      | inr level ↦ (
          let same : other ≡ stay = same_stay k other level stands in
          subst (λ (y : Stay). HasFollowingOf run stays (list ++ more) y.log) (sym same) (here x ms (subst (λ (y : Stay). TurnsTo run y x ms) same turns))
          )
    ];
  }

  pub followings_same : ((x : ConfId) (ms : List ℕ) → TurnsTo run stay x ms → HasFollowingOf run stays list stay.log) → HasFollowings run stays n list → HasFollowings run stays (n + 1) list
  followings_same here so_far = subst (λ (l : List Following). HasFollowings run stays (n + 1) l) (append-nil list)
      (followings_more [] (λ x ms turns. subst (λ (l : List Following). HasFollowingOf run stays l stay.log) (sym (append-nil list)) (here x ms turns)) so_far)

  module _ (conf : ConfId) (members : List ℕ) (following : Following) (turns : TurnsTo run stay conf members) (is : IsFollowing run stays (length stays) conf members following) where
    -- what follows in this log is the new one
    newest : (log : ℕ) → Has following.logs log → HasFollowingOf run stays (list ++ following ∷ []) log
    newest log has = record { at = length list; following = following; stands = stands_last list following; conf = conf; members = members; stay = stay; turns = turns; is = is; has = has }

    pub followings_pushed : HasFollowings run stays n list → HasFollowings run stays (n + 1) (list ++ following ∷ [])
    followings_pushed so_far = followings_more (following ∷ []) (λ x ms other. newest stay.log ((is.logs.exact stay.log).1 (record { at = n; stay = stay; before = slice_get_within stays n stay at; stands = at; of = refl; such = (members, turns) }))) so_far

    pub seen_pushed : (seen new : LogSet) → ((log : ℕ) → Has new log ↔ (Has seen log ⊎ Has following.logs log)) → HasFollowingsOf run stays list seen → HasFollowingsOf run stays (list ++ following ∷ []) new
    seen_pushed seen new union so_far = record {
      each = λ log has. elim ((union log).0 has) [ inl before ↦ following_kept run stays list (following ∷ []) log (so_far.each log before) | inr here ↦ newest log here ];
    }

-- ---- entries in stays

pub covered_more : (list : List Gathered) (l n k j : ℕ) (g : Gathered) (stay : Stay) → slice_get list k ≡ Some g → slice_get g.stays.items j ≡ Some stay → stay.log ≡ l → stay.from ≡ n → IsCoveredTo list l n → IsCoveredTo list l stay.end
covered_more list l n k j g stay at stands log from so_far = record {
  each = λ i lt. elim (below_or_not i n) [
    | inl under ↦ so_far.each i under
    | inr behind ↦ record { at = k; gathered = g; stands = at; place = j; stay = stay; stay_is = stands; log_is = log; from = omega (arith, from, behind); until = lt }
  ];
}

pub covered_none : (list : List Gathered) → AreCoveredTo list (replicate 32 0)
covered_none list = record {
  long = length-replicate {A = ℕ} 32 0;
  each = λ l lt. record { each = λ i below. absurd (let none : slice_index (replicate 32 0) l ≡ 0 = get_or-replicate {A = ℕ} 32 l 0 0 lt in omega (arith, below, none)) };
}

pub all_covered_more : (list : List Gathered) (ends : List ℕ) (k j : ℕ) (g : Gathered) (stay : Stay) → slice_get list k ≡ Some g → slice_get g.stays.items j ≡ Some stay → stay.from ≡ slice_index ends stay.log → AreCoveredTo list ends → AreCoveredTo list (slice_set ends stay.log stay.end)
all_covered_more list ends k j g stay at stands from so_far = record {
  long = rw (length-set {A = ℕ}) so_far.long;
  each = λ l lt. elim (same_or_not l stay.log) [
    | inl same ↦
        let here : slice_index (slice_set ends stay.log stay.end) l ≡ stay.end = get_or-set_at ends stay.log l stay.end 0 same (let few = stay.in_range in let long = so_far.long in omega arith) in
        rw (here, same) (covered_more list stay.log (slice_index ends stay.log) k j g stay at stands refl from (so_far.each stay.log stay.in_range))
    | inr apart ↦ subst (IsCoveredTo list l) (sym (get_or-set_other ends stay.log l stay.end 0 apart)) (so_far.each l lt)
  ];
}

pub log_covered : (run : List Log) (list : List Gathered) (ends : List ℕ) (n : ℕ) (log : Log) → slice_get run n ≡ Some log → n < 32 → slice_index ends n ≡ length log.entries → AreCoveredTo list ends → AreCovered run list n → AreCovered run list (n + 1)
log_covered run list ends n log at few end all so_far = record {
  each = λ l other lt stands. elim (before_or_at l n lt) [
    | inl under ↦ so_far.each l other under stands
    | inr level ↦ (let same : other ≡ log = one_at run n other log (rw level at stands) at in rw (level, same, ← end) (all.each n few))
  ];
}

-- ---- what is pending

pub adds_more : (traffic : Traffic) (run : List Log) (n q : ℕ) (old mid new : List Pending) → IsLogAt run n q → AddsPending traffic n q mid new → AddsAll traffic run n old mid → AddsAll traffic run (n + 1) old new
adds_more traffic run n q old mid new log adds so_far = record { exact = λ c is x. (from c is x, to c is x) }
  where
    from : (c : RingId) → IsTrafficOf run c traffic → (x : Pending) → Contains new x → Contains old x ⊎ IsPendingTo run c (n + 1) x
    from c is x has = elim (((adds.exact run c is log) x).0 has) [
      | inl before ↦ elim ((so_far.exact c is x).0 before) [
        | inl there ↦ inl there
        | inr h ↦ inr (record { index = h.index; before = (let lt = h.before in omega arith); log = h.log; is = h.is })
      ]
      | inr (proc, pending) ↦ inr (record { index = n; before = omega arith; log = rw proc log; is = rw proc pending })
    ]

    to : (c : RingId) → IsTrafficOf run c traffic → (x : Pending) → Contains old x ⊎ IsPendingTo run c (n + 1) x → Contains new x
    to c is x (inl there) = ((adds.exact run c is log) x).1 (inl ((so_far.exact c is x).1 (inl there)))
    to c is x (inr h) = elim (before_or_at h.index n h.before) [
      | inl under ↦ ((adds.exact run c is log) x).1 (inl ((so_far.exact c is x).1 (inr (record { index = h.index; before = under; log = h.log; is = h.is }))))
      | inr level ↦ (
          let there : IsLogAt run n x.proc = rw level at h.log in
          let proc : x.proc ≡ q = sym there.proc ∙ ap (λ (l : Log). l.proc) (one_at run n there.log log.log there.stands log.stands) ∙ log.proc in
          ((adds.exact run c is log) x).1 (inr (proc, rw proc at h.is))
          )
    ]

pub adds_none : (traffic : Traffic) (run : List Log) (list : List Pending) → AddsAll traffic run 0 list list
adds_none traffic run list = grind arith

-- ---- what a log does not deliver

pub skipped_more : (gots : List Got) (log from n : ℕ) (got : Got) → slice_get gots n ≡ Some got → (IsBy got log → ⊥) → AreSkipped gots log from n → AreSkipped gots log from (n + 1)
skipped_more gots log from n got at never so_far = record {
  none = λ k other le lt stands by. elim (before_or_at k n lt) [
    | inl under ↦ so_far.none k other le under stands by
    | inr level ↦ (let same : other ≡ got = one_at gots n other got (rw level at stands) at in never (rw same at by))
  ];
}

pub unsent_more : (sents : List Sent) (log from n : ℕ) (sent : Sent) → slice_get sents n ≡ Some sent → (sent.sender ≡ log → ⊥) → AreUnsent sents log from n → AreUnsent sents log from (n + 1)
unsent_more sents log from n sent at never so_far = grind (arith, before_or_at, one_at)

-- ---- what is listed

module _ (entries : List Entry) (numbers : List ℕ) (g : Gathered) (stay : Stay) where
  -- the next entry is listed, and is no delivery
  pub listed_more : (at n : ℕ) (x : Entry) → slice_get entries at ≡ Some x → IsListed numbers g stay at x → AreAsListed entries numbers g stay at n → AreAsListed entries numbers g stay (at + 1) n
  listed_more at n x stands here so_far = record {
    listed = λ i y above below there. elim (before_or_at i at below) [
      | inl under ↦ so_far.listed i y above under there
      | inr level ↦ (let same : y ≡ x = one_at entries at y x (rw level at there) stands in rw (level, same) here)
    ];
    delivered = so_far.delivered;
  }

  -- the next entry sends what is listed at k, the next that the log sends
  pub sent_more : (at n k m : ℕ) (x : Entry) → slice_get entries at ≡ Some x → AreUnsent g.sent.items stay.log n k → IsOriginAt numbers g stay.log k at x → m ≤ k + 1 → AreSentIn entries numbers g stay n → AreSentIn entries numbers g stay m
  sent_more at n k m x stands unsent here le so_far = record {
    each = λ j sent lt there by. elim (before_or_at j k (omega arith)) [
      | inl under ↦ elim (below_or_not j n) [ inl before ↦ so_far.each j sent before there by | inr behind ↦ absurd (unsent.none j sent behind under there by) ]
      | inr level ↦ rw level (record { at = at; entry = x; stands = stands; is = here })
    ];
  }

  -- the log sends nothing else
  pub sent_all : (n k : ℕ) → AreUnsent g.sent.items stay.log n k → length g.sent.items ≤ k → AreSentIn entries numbers g stay n → AreSentIn entries numbers g stay (length g.sent.items)
  sent_all n k unsent all so_far = record {
    each = λ j sent lt there by. elim (below_or_not j n) [ inl under ↦ so_far.each j sent under there by | inr behind ↦ absurd (unsent.none j sent behind (omega arith) there by) ];
  }

  -- the next entry delivers what is listed at k, the next that the log delivers
  pub delivered_more : (at n k m : ℕ) (message : MsgId) (conf : ConfId) → slice_get entries at ≡ Some (Deliver message conf) → stay.from < at → at < stay.end → AreSkipped g.got.items stay.log n k
      → IsDeliveryOf numbers g stay k at message → m ≤ k + 1 → AreAsListed entries numbers g stay at n → AreAsListed entries numbers g stay (at + 1) m
  delivered_more at n k m message conf stands after until skipped here le so_far = record {
    listed = (listed_more at n (Deliver message conf) stands (k, here) so_far).listed;
    delivered = λ j got lt there by. elim (before_or_at j k (omega arith)) [
      | inl under ↦ elim (below_or_not j n) [ inl before ↦ so_far.delivered j got before there by | inr behind ↦ absurd (skipped.none j got behind under there by) ]
      | inr level ↦ rw level (record { at = at; message = message; conf = conf; after = after; until = until; entry = stands; is = here })
    ];
  }

  -- all entries are listed, and the log delivers nothing else
  pub listed_all : (at n k : ℕ) → stay.end ≤ at → AreSkipped g.got.items stay.log n k → length g.got.items ≤ k → AreAsListed entries numbers g stay at n → AreAsListed entries numbers g stay stay.end (length g.got.items)
  listed_all at n k le skipped all so_far = record {
    listed = λ i x above below stands. so_far.listed i x above (omega arith) stands;
    delivered = λ j got lt there by. elim (below_or_not j n) [ inl under ↦ so_far.delivered j got under there by | inr behind ↦ absurd (skipped.none j got behind (omega arith) there by) ];
  }
