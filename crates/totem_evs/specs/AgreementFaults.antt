-- What it means that events break specifications 3 to 7: they meet the premise, and the conclusion fails for them
-- (docs/SPECIFICATIONS.md, "Faults"). 3, 6.3, 7.1 and 7.2 are broken if they are in some regular configuration c.
use Rattle.std.specs.Prelude.{◌≡◌, ℕ, ◌<◌, List, [], ◌∷◌}
use Rattle.totem_names.specs.declared.ring.RingId.{RingId}
use Rattle.totem_names.specs.declared.conf.ConfId.{ConfId}
use Rattle.totem_names.specs.declared.conf.ConfId.TheVariants.{Regular}
use Rattle.totem_names.specs.declared.message.MsgId.{MsgId}
use Rattle.totem_names.specs.declared.place.Place.{Place}
use Rattle.totem_evs.specs.declared.entry.Entry.{Entry}
use Rattle.totem_evs.specs.declared.log.Log.{Log}
use Rattle.totem_evs.specs.Events.{ChangesTo, Sends, Delivers, IsSafe, IsMember, log_of}
use Rattle.totem_evs.specs.Steps.{SendsAt, Precedes}
use Rattle.totem_evs.specs.Following.{IsNextChange, Com, DeliversIn, HasDelivered, DeliversOrEnds}
use Rattle.totem_evs.specs.Places.{At, IsClosed, IsOrderStep}

-- p's entry i sends a message in c, and in c and what follows it p does not deliver it, has not failed and is not open
abbrev pub IsNotOwned : List Log → RingId → ℕ → ℕ → Type 0
IsNotOwned run c p i = (m : MsgId) × Sends (log_of run p) i m (Regular c) × (DeliversOrEnds run p c m → ⊥)

-- 3, in c: the send
abbrev pub BreaksOwnDeliveryIn : List Log → RingId → List Place → Type 0
BreaksOwnDeliveryIn run c (e ∷ []) = At e (IsNotOwned run c)
BreaksOwnDeliveryIn run c _ = ⊥

-- 3
abbrev pub BreaksOwnDelivery : List Log → List Place → Type 0
BreaksOwnDelivery run places = (c : RingId) × BreaksOwnDeliveryIn run c places

-- the change at j is to d, and is the next one after a change to x
abbrev pub GoesAt : List Entry → ConfId → ConfId → ℕ → Type 0
GoesAt log x d j = (i : ℕ) × ChangesTo log i x × IsNextChange log i j × ChangesTo log j d

-- p and q go from x to the same next configuration, and p delivered a message in x that q did not
abbrev pub IsParted : List Log → ConfId → ℕ → ℕ → ℕ → ℕ → ℕ → Type 0
IsParted run x p i j q k = (m : MsgId) × (d : ConfId) × Delivers (log_of run p) i m x × GoesAt (log_of run p) x d j × GoesAt (log_of run q) x d k
    × ((l : ℕ) → Delivers (log_of run q) l m x → ⊥)

-- 4: p's delivery, p's change to the next configuration, and q's
abbrev pub BreaksAtomicity : List Log → List Place → Type 0
BreaksAtomicity run (e ∷ f ∷ g ∷ []) = At e (λ p i. At f (λ r j. At g (λ q k. (p ≡ r) × ((x : ConfId) × IsParted run x p i j q k))))
BreaksAtomicity run _ = ⊥

-- in c and in what follows it, r delivers n at j, and does not deliver m before it
abbrev pub IsNotDeliveredFirst : List Log → RingId → MsgId → MsgId → ℕ → ℕ → Type 0
IsNotDeliveredFirst run c m n r j = DeliversIn (log_of run r) c n j × ((i : ℕ) → i < j → DeliversIn (log_of run r) c m i → ⊥)

-- e's send precedes f's, and r delivers the later message and not the earlier one before it
abbrev pub IsUncaused : List Log → Place → Place → ℕ → ℕ → Type 0
IsUncaused run e f r j = (c : RingId) × (m n : MsgId) × SendsAt run e m (Regular c) × SendsAt run f n (Regular c) × Precedes run e f
    × IsNotDeliveredFirst run c m n r j

-- 5: both sends, and r's delivery of the later message
abbrev pub BreaksCausality : List Log → List Place → Type 0
BreaksCausality run (e ∷ f ∷ g ∷ []) = At g (IsUncaused run e f)
BreaksCausality run _ = ⊥

-- 6.1: a closed list of steps, where different deliveries of one message count as twins
abbrev pub BreaksOrder : List Log → List Place → Type 0
BreaksOrder run places = IsClosed run (IsOrderStep run) places

-- in c and what follows it p delivers m before n, and q delivers n where m's sender is a member, and not m
abbrev pub IsGap : List Log → RingId → ℕ → ℕ → ℕ → ℕ → ℕ → Type 0
IsGap run c p i j q k = (m n : MsgId) × (d x : ConfId) × (s l : ℕ)
    × DeliversIn (log_of run p) c m i × DeliversIn (log_of run p) c n j × (i < j)
    × Delivers (log_of run q) k n d × Com (log_of run q) c d × Sends (log_of run s) l m x × IsMember run d s × (HasDelivered (log_of run q) c m → ⊥)

-- 6.3, in c: p's deliveries of both messages, and q's of the later one
abbrev pub BreaksGapIn : List Log → RingId → List Place → Type 0
BreaksGapIn run c (e ∷ f ∷ g ∷ []) = At e (λ p i. At f (λ r j. At g (λ q k. (p ≡ r) × IsGap run c p i j q k)))
BreaksGapIn run c _ = ⊥

-- 6.3
abbrev pub BreaksGap : List Log → List Place → Type 0
BreaksGap run places = (c : RingId) × BreaksGapIn run c places

-- p delivers a safe message in d, which is c or follows it, and a member of d does not deliver it in c or what follows it,
-- has not failed there and is not open there
abbrev pub IsNotReached : List Log → RingId → ℕ → ℕ → Type 0
IsNotReached run c p i = (m : MsgId) × (d : ConfId) × (q : ℕ) × IsSafe run m × Delivers (log_of run p) i m d × Com (log_of run p) c d
    × IsMember run d q × (DeliversOrEnds run q c m → ⊥)

-- 7.1, in c: p's delivery
abbrev pub BreaksSafetyIn : List Log → RingId → List Place → Type 0
BreaksSafetyIn run c (e ∷ []) = At e (IsNotReached run c)
BreaksSafetyIn run c _ = ⊥

-- 7.1
abbrev pub BreaksSafety : List Log → List Place → Type 0
BreaksSafety run places = (c : RingId) × BreaksSafetyIn run c places

-- p delivers a safe message in c, to which one of its members never changes
abbrev pub IsNotInstalled : List Log → RingId → ℕ → ℕ → Type 0
IsNotInstalled run c p i = (m : MsgId) × (q : ℕ) × IsSafe run m × Delivers (log_of run p) i m (Regular c)
    × IsMember run (Regular c) q × ((j : ℕ) → ChangesTo (log_of run q) j (Regular c) → ⊥)

-- 7.2, in c: p's delivery
abbrev pub BreaksInstalledIn : List Log → RingId → List Place → Type 0
BreaksInstalledIn run c (e ∷ []) = At e (IsNotInstalled run c)
BreaksInstalledIn run c _ = ⊥

-- 7.2
abbrev pub BreaksInstalled : List Log → List Place → Type 0
BreaksInstalled run places = (c : RingId) × BreaksInstalledIn run c places
