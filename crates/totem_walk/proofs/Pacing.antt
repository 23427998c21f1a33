-- A walk along the sender's log: the pace after its first entries, and the order that is kept so far.
use Rattle.totem_walk.proofs.Common.{◌≡◌, ℕ, ◌+◌, ◌<◌, ◌≤◌, ◌⊎◌, max, inl, inr, List, length, slice_get, Option, Some, None, refl, sym, ◌∙◌, subst, arith, slice_get_within, ConfId, MsgId, Entry, Conf, Send, Deliver, Fail, Sends, less_or_not, SendsIn, HandlesIn, HandlesNothing, Handles, index_in, KeepsOrderBefore, KeepsOrder, BreaksOrder}
use Rattle.totem_walk.specs.declared.deliveries.Deliveries.{Deliveries}
use Rattle.totem_walk.specs.declared.pace.Pace.{Pace}
use Rattle.totem_walk.specs.declared.pace.Pace.TheVariants.{Anywhere, Behind, Nowhere}
use Rattle.totem_walk.specs.Pace.{IsEarly, IsInTime, pace_with, ComesEarly, ComesInTime, GoesOn, HandlesBefore, IsReached, IsLacking, IsPace}

-- an entry that was read is the entry of the log
there_handles : (log : List Entry) (i : ℕ) (e : Entry) (m : MsgId) (x : ConfId) → slice_get log i ≡ Some e → HandlesIn e x m → Handles log i m x
there_handles log i (Conf y members) m x at h = absurd h
there_handles log i (Send o y service) m x at (same, here) = inl (service, rw (same, here) at at)
there_handles log i (Deliver o y) m x at (same, here) = inr (rw (same, here) at at)
there_handles log i (Fail y) m x at h = absurd h

there_sends : (log : List Entry) (i : ℕ) (e : Entry) (m : MsgId) (x : ConfId) → slice_get log i ≡ Some e → SendsIn e x m → Sends log i m x
there_sends log i (Conf y members) m x at h = absurd h
there_sends log i (Send o y service) m x at (same, here) = (service, rw (same, here) at at)
there_sends log i (Deliver o y) m x at h = absurd h
there_sends log i (Fail y) m x at h = absurd h

entry_is : (log : List Entry) (i : ℕ) (e f : Entry) → slice_get log i ≡ Some e → slice_get log i ≡ Some f → f ≡ e
entry_is log i e f at at' = let both : Some e ≡ Some f = sym at ∙ at' in cc

handles_there : (log : List Entry) (i : ℕ) (e : Entry) (m : MsgId) (x : ConfId) → slice_get log i ≡ Some e → Handles log i m x → HandlesIn e x m
handles_there log i e m x at (inl (s, at')) = subst (λ (z : Entry). HandlesIn z x m) (entry_is log i e (Send m x s) at at') (refl, refl)
handles_there log i e m x at (inr at') = subst (λ (z : Entry). HandlesIn z x m) (entry_is log i e (Deliver m x) at at') (refl, refl)

sends_there : (log : List Entry) (i : ℕ) (e : Entry) (m : MsgId) (x : ConfId) → slice_get log i ≡ Some e → Sends log i m x → SendsIn e x m
sends_there log i e m x at (s, at') = subst (λ (z : Entry). SendsIn z x m) (entry_is log i e (Send m x s) at at') (refl, refl)

one_handled : (e : Entry) (x : ConfId) (m o : MsgId) → HandlesIn e x m → HandlesIn e x o → m ≡ o
one_handled (Conf y members) x m o a b = absurd a
one_handled (Send n y service) x m o a b = sym a.0 ∙ b.0
one_handled (Deliver n y) x m o a b = sym a.0 ∙ b.0
one_handled (Fail y) x m o a b = absurd a

max_cases : (a b : ℕ) → (max a b ≡ a) ⊎ (max a b ≡ b)
max_cases a b = elim (less_or_not a b) [ inl lt ↦ inr (omega arith) | inr rest ↦ inl (elim rest [ inl gt ↦ omega arith | inr same ↦ omega arith ]) ]

module _ (log : List Entry) (x : ConfId) (deliveries : Deliveries) (n : ℕ) (e : Entry) (at : slice_get log n ≡ Some e) where
  -- what was handled before is handled still, and what is handled among the first entries was handled before or is handled at n
  still : (m : MsgId) → HandlesBefore log x n m → HandlesBefore log x (n + 1) m
  still m h = record { index = h.index; before = (let lt = h.before in omega arith); handles = h.handles }

  here : (m : MsgId) → HandlesIn e x m → HandlesBefore log x (n + 1) m
  here m h = record { index = n; before = omega arith; handles = there_handles log n e m x at h }

  before_or_here : (m : MsgId) → HandlesBefore log x (n + 1) m → HandlesBefore log x n m ⊎ HandlesIn e x m
  before_or_here m h = elim (less_or_not h.index n) [
    | inl under ↦ inl (record { index = h.index; before = under; handles = h.handles })
    | inr rest ↦ elim rest [
      | inl over ↦ absurd (let lt = h.before in omega arith)
      | inr same ↦ inr (handles_there log n e m x at (rw same at h.handles))
    ]
  ]

  -- the entry handles nothing
  pace_still : (pace : Pace) → HandlesNothing e x → IsPace log x deliveries n pace → IsPace log x deliveries (n + 1) pace
  pace_still Anywhere nothing h = record { never = λ m b. elim (before_or_here m b) [ inl old ↦ h.never m old | inr new ↦ nothing.never m new ] }
  pace_still (Behind last) nothing h = record {
    each = λ m b. elim (before_or_here m b) [ inl old ↦ h.each m old | inr new ↦ absurd (nothing.never m new) ];
    message = h.message;
    handled = still h.message h.handled;
    delivered = h.delivered;
  }
  pace_still Nowhere nothing h = record { message = h.message; handled = still h.message h.handled; lacks = h.lacks }

  lacking : (m : MsgId) → HandlesIn e x m → index_in deliveries m ≡ None → IsLacking log x deliveries (n + 1)
  lacking m handles none = record { message = m; handled = here m handles; lacks = none }

  reached : (m o : MsgId) (k last : ℕ) → HandlesIn e x m → HandlesIn e x o → index_in deliveries m ≡ Some k → k ≤ last → IsReached deliveries o last
  reached m o k last handles also is le = record { index = k; delivered = rw (one_handled e x m o handles also) at is; before = le }

  -- the entry handles m
  pace_handled : (pace : Pace) (i : Option ℕ) (m : MsgId) → HandlesIn e x m → index_in deliveries m ≡ i → IsPace log x deliveries n pace → IsPace log x deliveries (n + 1) (pace_with pace i)
  pace_handled Anywhere None m handles is h = lacking m handles is
  pace_handled (Behind last) None m handles is h = lacking m handles is
  pace_handled Nowhere None m handles is h = lacking m handles is
  pace_handled Anywhere (Some k) m handles is h = record {
    each = λ o b. elim (before_or_here o b) [ inl old ↦ absurd (h.never o old) | inr new ↦ reached m o k k handles new is (omega arith) ];
    message = m;
    handled = here m handles;
    delivered = is;
  }
  pace_handled (Behind last) (Some k) m handles is h = elim (max_cases last k) [
    | inl same ↦ record {
      each = each;
      message = h.message;
      handled = still h.message h.handled;
      delivered = rw same h.delivered;
    }
    | inr same ↦ record { each = each; message = m; handled = here m handles; delivered = rw same is }
  ]
    where
      further : (o : MsgId) → IsReached deliveries o last → IsReached deliveries o (max last k)
      further o r = record { index = r.index; delivered = r.delivered; before = (let le = r.before in omega arith) }

      each : (o : MsgId) → HandlesBefore log x (n + 1) o → IsReached deliveries o (max last k)
      each o b = elim (before_or_here o b) [ inl old ↦ further o (h.each o old) | inr new ↦ reached m o k (max last k) handles new is (omega arith) ]
  pace_handled Nowhere (Some k) m handles is h = record { message = h.message; handled = still h.message h.handled; lacks = h.lacks }

  pub pace_more : (old new : Pace) → GoesOn deliveries x e old new → IsPace log x deliveries n old → IsPace log x deliveries (n + 1) new
  pace_more old new goes h = go goes.way
    where
      go : (HandlesNothing e x × (new ≡ old)) ⊎ ((m : MsgId) × HandlesIn e x m × (new ≡ pace_with old (index_in deliveries m))) → IsPace log x deliveries (n + 1) new
      go (inl (nothing, same)) = subst (λ (z : Pace). IsPace log x deliveries (n + 1) z) (sym same) (pace_still old nothing h)
      go (inr (m, handles, same)) = subst (λ (z : Pace). IsPace log x deliveries (n + 1) z) (sym same) (pace_handled old (index_in deliveries m) m handles refl h)

  in_time : (pace : Pace) (m : MsgId) (k : ℕ) → IsPace log x deliveries n pace → IsInTime pace k → HandlesBefore log x n m → (l : ℕ) × (l < k) × (index_in deliveries m ≡ Some l)
  in_time Anywhere m k h time b = absurd (h.never m b)
  in_time (Behind last) m k h time b = let r = h.each m b in (r.index, (let le = r.before in omega arith), r.delivered)
  in_time Nowhere m k h time b = absurd time

  -- the entry at n sends nothing too early
  pub order_more : (pace : Pace) → ComesInTime deliveries x pace e → IsPace log x deliveries n pace → KeepsOrderBefore log x deliveries n → KeepsOrderBefore log x deliveries (n + 1)
  order_more pace time h before = record {
    each = λ i j k m o lt below handles sends there. elim (less_or_not j n) [
      | inl under ↦ before.each i j k m o lt under handles sends there
      | inr rest ↦ elim rest [
        | inl over ↦ absurd (omega arith)
        | inr same ↦ (let sends_here = sends_there log n e o x at (rw same at sends) in
            in_time pace m k h (time.each o k sends_here there) (record { index = i; before = rw same at lt; handles = handles }))
      ]
    ];
  }

  -- the entry at n sends something too early
  pub broken_here : (pace : Pace) → ComesEarly deliveries x pace e → IsPace log x deliveries n pace → BreaksOrder log x deliveries
  broken_here pace early h = go pace early.early h
    where
      broken : (m : MsgId) → HandlesBefore log x n m → ((l : ℕ) → index_in deliveries m ≡ Some l → early.index ≤ l) → BreaksOrder log x deliveries
      broken m b late = record {
        first = b.index;
        second = n;
        order = b.before;
        cause = m;
        effect = early.message;
        handles = b.handles;
        sends = there_sends log n e early.message x at early.sends;
        index = early.index;
        delivered = early.delivered;
        late = late;
      }

      go : (pace : Pace) → IsEarly pace early.index → IsPace log x deliveries n pace → BreaksOrder log x deliveries
      go Anywhere is h = absurd is
      go (Behind last) is h = broken h.message h.handled (λ l found. (let same : last ≡ l = (let at_last = h.delivered in cc) in rw same at is))
      go Nowhere is h = broken h.message h.handled (λ l found. absurd (let none = h.lacks in cc))

pub order_all : (log : List Entry) (x : ConfId) (deliveries : Deliveries) (n : ℕ) → length log ≤ n → KeepsOrderBefore log x deliveries n → KeepsOrder log x deliveries
order_all log x deliveries n end before = record {
  each = λ i j k m o lt handles sends there. before.each i j k m o lt (let within = slice_get_within log j (Send o x sends.0) sends.1 in omega arith) handles sends there;
}
