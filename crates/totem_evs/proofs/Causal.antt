-- From pairs in one log to chains of any length.
use Rattle.totem_evs.proofs.Common.{◌≡◌, ℕ, suc, ◌<◌, ◌≤◌, ◌⊎◌, inl, inr, List, slice_get, Some, refl, sym, ◌∙◌, ap, arith, RingId, ConfId, Regular, MsgId, Place, entry_at, log_of, ChangesTo, Sends, Delivers, Strict, Twin, Leads, here, strict, twin, Precedes, Com, StaysInPlace, StandsIn, Numbering, number_at, IsBelow, Certified}
use Rattle.totem_evs.specs.declared.entry.Entry.{Entry}
use Rattle.totem_evs.specs.declared.entry.Entry.TheVariants.{Conf, Send, Deliver}
use Rattle.totem_evs.specs.declared.log.Log.{Log}
use Rattle.totem_evs.specs.Delivery.{DeliversWhatWasSent, DeliversOnce}
use Rattle.totem_evs.specs.OneHop.{IsDeliveredBefore, OneHopIsFine, ChainsAreFine}
use Rattle.totem_evs.proofs.Standing.{less_or_not, one_standing}

abbrev pub place : ℕ → ℕ → Place
place p i = record { proc = p; at = suc i }

-- an event is somewhere in its log
index_of : (run : List Log) (e : Place) (x : Entry) → entry_at run e ≡ Some x → (i : ℕ) × (e ≡ place e.proc i) × (slice_get (log_of run e.proc) i ≡ Some x)
index_of run e x at = grind arith

below_trans : (lines : List Numbering) (e f g : Place) → IsBelow lines e f → IsBelow lines f g → IsBelow lines e g
below_trans lines e f g (i, j, at_e, at_f, lt) (k, l, at_f', at_g, lt') = let same : j ≡ k = cc in (i, l, at_e, at_g, omega arith)

below_irrefl : (lines : List Numbering) (e f : Place) → number_at lines e ≡ number_at lines f → IsBelow lines e f → ⊥
below_irrefl lines e f same (i, j, at_e, at_f, lt) = let eq : i ≡ j = cc in omega arith

below_same : (lines : List Numbering) (e f g : Place) → number_at lines f ≡ number_at lines g → IsBelow lines e f → IsBelow lines e g
below_same lines e f g same (i, j, at_e, at_f, lt) = (i, j, at_e, sym same ∙ at_f, lt)

same_below : (lines : List Numbering) (e f g : Place) → number_at lines e ≡ number_at lines f → IsBelow lines e g → IsBelow lines f g
same_below lines e f g same (i, j, at_e, at_g, lt) = (i, j, sym same ∙ at_e, at_g, lt)

module _ (run : List Log) (lines : List Numbering) (cert : Certified run lines) where
  -- in one log, numbers give the order
  order_by_number : (p i j : ℕ) (x y : Entry) → slice_get (log_of run p) i ≡ Some x → slice_get (log_of run p) j ≡ Some y → IsBelow lines (place p i) (place p j) → i < j
  order_by_number p i j x y at_i at_j below = elim (less_or_not i j) [
    | inl lt ↦ lt
    | inr rest ↦ elim rest [
      | inl gt ↦ absurd (below_irrefl lines (place p i) (place p i) refl (below_trans lines (place p i) (place p j) (place p i) below
          (cert.rises (place p j) (place p i) (y, at_j) (x, at_i) (refl, omega arith))))
      | inr same ↦ absurd (below_irrefl lines (place p i) (place p j) (ap (λ (k : ℕ). number_at lines (place p k)) same) below)
    ]
  ]

  -- a strict step has ascending numbers
  strict_rises : (e f : Place) → Strict run e f → IsBelow lines e f
  strict_rises e f (inl (is_e, is_f, before)) = cert.rises e f is_e is_f before
  strict_rises e f (inr (m, x, sends, delivers)) = cert.sent e f m x sends delivers

  twin_shares : (e f : Place) → Twin run e f → number_at lines e ≡ number_at lines f
  twin_shares e f (x, at_e, at_f, other) = cert.shared e f (inl (x, at_e, at_f))

  leads_up : (a e g : Place) → Leads run e g → IsBelow lines a e → IsBelow lines a g
  leads_up a e g here below = below
  leads_up a e g (strict {f = f} one rest) below = leads_up a f g rest (below_trans lines a e f below (strict_rises e f one))
  leads_up a e g (twin {f = f} one rest) below = leads_up a f g rest (below_same lines a e f (twin_shares e f one) below)

  leads_down : (a e g : Place) → Leads run e g → IsBelow lines g a → IsBelow lines e a
  leads_down a e g here below = below
  leads_down a e g (strict {f = f} one rest) below = below_trans lines e f a (strict_rises e f one) (leads_down a f g rest below)
  leads_down a e g (twin {f = f} one rest) below = same_below lines f e a (sym (twin_shares e f one)) (leads_down a f g rest below)

  -- numbers ascend with precedence
  pub precedes_rises : (e f : Place) → Precedes run e f → IsBelow lines e f
  precedes_rises e f (a, b, to_a, one, from_b) = leads_up e b f from_b (leads_down b e a to_a (strict_rises a b one))

  pub no_cycle : (e : Place) → Precedes run e e → ⊥
  no_cycle e cycle = below_irrefl lines e e refl (precedes_rises e e cycle)

  module _ (in_place : (p : ℕ) → StaysInPlace (log_of run p)) where
    -- an entry that names a configuration is in it
    stands_send : (p i : ℕ) (m : MsgId) (x : ConfId) → Sends (log_of run p) i m x → StandsIn (log_of run p) i x
    stands_send p i m x (service, at) = (in_place p).named i x (Send m x service, at, refl)

    stands_delivery : (p i : ℕ) (m : MsgId) (x : ConfId) → Delivers (log_of run p) i m x → StandsIn (log_of run p) i x
    stands_delivery p i m x at = (in_place p).named i x (Deliver m x, at, refl)

    module _ (sent : DeliversWhatWasSent run) (once : DeliversOnce run) (one_hop : OneHopIsFine run)
        (c : RingId) (m : MsgId) (p₀ i₀ : ℕ) (first : Sends (log_of run p₀) i₀ m (Regular c)) where
      start : StandsIn (log_of run p₀) i₀ (Regular c)
      start = stands_send p₀ i₀ m (Regular c) first

      -- the change to c after the first send
      abbrev origin : Place
      origin = place p₀ (stands_send p₀ i₀ m (Regular c) first).from

      -- what a log sends in c from x on is m itself, or m is delivered before it
      abbrev Good : Place → Type 0
      Good x = (j : ℕ) (n : MsgId) → x.at ≤ suc j → Sends (log_of run x.proc) j n (Regular c) → (m ≡ n) ⊎ IsDeliveredBefore run c m n

      above_origin : IsBelow lines origin (place p₀ i₀)
      above_origin =
          let stands = stands_send p₀ i₀ m (Regular c) first in
          cert.rises origin (place p₀ i₀) (Conf (Regular c) stands.change.0, stands.change.1) (Send m (Regular c) first.0, first.1) (refl, omega (arith, stands.before))

      good_start : Good (place p₀ i₀)
      good_start j n le sends = elim (less_or_not i₀ j) [
        | inl lt ↦ inr (one_hop c p₀ i₀ j m n sends lt (inl first))
        | inr rest ↦ elim rest [
          | inl gt ↦ absurd (omega arith)
          | inr same ↦ inl (let at : slice_get (log_of run p₀) j ≡ Some (Send m (Regular c) first.0) = rw same at first.1 in
              let at' : slice_get (log_of run p₀) j ≡ Some (Send n (Regular c) sends.0) = sends.1 in cc)
        ]
      ]

      -- an entry with a number above the changes to c, before a send in c, is after the log's own change to c
      after_change : (q b j : ℕ) (n : MsgId) (x : Entry) → IsBelow lines origin (place q b) → slice_get (log_of run q) b ≡ Some x → (sends : Sends (log_of run q) j n (Regular c))
          → (stands_send q j n (Regular c) sends).from < b
      after_change q b j n x below at sends =
          let stands = stands_send q j n (Regular c) sends in
          let own = stands_send p₀ i₀ m (Regular c) first in
          let shared = cert.shared origin (place q stands.from) (inl (Regular c, own.change, stands.change)) in
          order_by_number q stands.from b (Conf (Regular c) stands.change.0) x stands.change.1 at (same_below lines origin (place q stands.from) (place q b) shared below)

      then_delivered : (k n : MsgId) → IsDeliveredBefore run c m k → IsDeliveredBefore run c k n → IsDeliveredBefore run c m n
      then_delivered k n first_before later_before r i delivers =
          let a = later_before r i delivers in
          let b = first_before r a.0 a.2 in
          (b.0, omega (arith, a.1, b.1), b.2)

      -- only c itself holds the send of what is delivered in c
      was_sent_in_c : (q b : ℕ) (k : MsgId) → Delivers (log_of run q) b k (Regular c) → (p i : ℕ) × Sends (log_of run p) i k (Regular c)
      was_sent_in_c q b k at = go (sent q b k (Regular c) at)
        where
          in_c : (d : RingId) → Com (log_of run q) d (Regular c) → c ≡ d
          in_c d (inl same) = cc
          in_c d (inr follows) = absurd follows.transitional

          go : ((d : RingId) × ((p i : ℕ) × Sends (log_of run p) i k (Regular d)) × Com (log_of run q) d (Regular c)) → (p i : ℕ) × Sends (log_of run p) i k (Regular c)
          go (d, (p, i, sends), stays) = let same = in_c d stays in (p, i, rw same sends)

      -- a delivery in c of k, sent at the event a of p: what p's log knew of k, q's log knows of what it sends next
      good_delivery : (p a q b : ℕ) (k : MsgId) (w d : ConfId) → IsBelow lines origin (place q b) → Good (place p a) → Sends (log_of run p) a k w → Delivers (log_of run q) b k d → Good (place q b)
      good_delivery p a q b k w d below good sends_k at_b j n le sends = elim (less_or_not b j) [
        | inl lt ↦ later lt
        | inr rest ↦ elim rest [
          | inl gt ↦ absurd (omega arith)
          | inr same ↦ absurd (let at : slice_get (log_of run q) j ≡ Some (Deliver k d) = rw same at at_b in let at' : slice_get (log_of run q) j ≡ Some (Send n (Regular c) sends.0) = sends.1 in cc)
        ]
      ]
        where
          later : b < j → (m ≡ n) ⊎ IsDeliveredBefore run c m n
          later lt =
              let stands = stands_send q j n (Regular c) sends in
              let from = after_change q b j n (Deliver k d) below at_b sends in
              let stands_b : StandsIn (log_of run q) b (Regular c) = record { from = stands.from; before = from; change = stands.change; none_between = λ i lo hi. stands.none_between i lo (omega arith) } in
              let same_conf : d ≡ Regular c = one_standing (log_of run q) b d (Regular c) (stands_delivery q b k d at_b) stands_b in
              let at_c : Delivers (log_of run q) b k (Regular c) = rw same_conf at at_b in
              let there = was_sent_in_c q b k at_c in
              let one = once.one_send there.0 there.1 p a k (Regular c) w there.2 sends_k in
              let sends_c : Sends (log_of run p) a k (Regular c) = rw (one.0, one.1) at there.2 in
              let hop = one_hop c q b j k n sends lt (inr at_c) in
              elim (good a k (omega arith) sends_c) [
                | inl same ↦ inr (rw same hop)
                | inr before ↦ inr (then_delivered k n before hop)
              ]

      good_change : (q b : ℕ) (w : ConfId) → IsBelow lines origin (place q b) → ChangesTo (log_of run q) b w → Good (place q b)
      good_change q b w below change j n le sends = elim (less_or_not b j) [
        | inl lt ↦ absurd (
            let stands = stands_send q j n (Regular c) sends in
            stands.none_between b (after_change q b j n (Conf w change.0) below change.1 sends) lt (w, change))
        | inr rest ↦ elim rest [
          | inl gt ↦ absurd (omega arith)
          | inr same ↦ absurd (let at : slice_get (log_of run q) j ≡ Some (Conf w change.0) = rw same at change.1 in let at' : slice_get (log_of run q) j ≡ Some (Send n (Regular c) sends.0) = sends.1 in cc)
        ]
      ]

      good_strict : (x y : Place) → Strict run x y → IsBelow lines origin y → Good x → Good y
      good_strict x y (inl (is_x, is_y, (same, lt))) below good = λ j n le sends. good j n (omega arith) (rw same sends)
      good_strict x y (inr (k, w, (service, sends_at), (d, delivers_at))) below good =
          let from = index_of run x (Send k w service) sends_at in
          let to = index_of run y (Deliver k d) delivers_at in
          rw to.1 (good_delivery x.proc from.0 y.proc to.0 k w d (rw to.1 at below) (rw from.1 at good) (service, from.2) to.2)

      good_twin : (x y : Place) → Twin run x y → IsBelow lines origin y → Good y
      good_twin x y (w, at_x, (members, at_y), other) below =
          let to = index_of run y (Conf w members) at_y in
          rw to.1 (good_change y.proc to.0 w (rw to.1 at below) (members, to.2))

      good_along : (x y : Place) → Leads run x y → IsBelow lines origin x → Good x → Good y
      good_along x y here below good = good
      good_along x y (strict {f = z} one rest) below good =
          let above = below_trans lines origin x z below (strict_rises x z one) in
          good_along z y rest above (good_strict x z one above good)
      good_along x y (twin {f = z} one rest) below good =
          let above = below_same lines origin x z (twin_shares x z one) below in
          good_along z y rest above (good_twin x z one above)

      -- what a send in c precedes is m itself, or m is delivered before it
      pub good_after : (f : Place) → Precedes run (place p₀ i₀) f → Good f
      good_after f (a, b, to_a, one, from_b) =
          let above_a = leads_up origin (place p₀ i₀) a to_a above_origin in
          let above_b = below_trans lines origin a b above_a (strict_rises a b one) in
          good_along b f from_b above_b (good_strict a b one above_b (good_along (place p₀ i₀) a to_a above_origin good_start))

-- two sends of one message are one event
one_event : (run : List Log) → DeliversOnce run → (e f : Place) (i j : ℕ) (m n : MsgId) (x y : ConfId) → e ≡ place e.proc i → f ≡ place f.proc j → m ≡ n
    → Sends (log_of run e.proc) i m x → Sends (log_of run f.proc) j n y → e ≡ f
one_event run once e f i j m n x y at_e at_f same (service, sends_e) sends_f =
    let sends : Sends (log_of run e.proc) i n x = (service, rw same at sends_e) in
    let one = once.one_send e.proc i f.proc j n x y sends sends_f in
    let p : e.proc ≡ f.proc = one.0 in
    let q : i ≡ j = one.1 in
    at_e ∙ (rw (p, q) refl) ∙ sym at_f

pub chains : ChainsAreFine
chains run lines cert in_place sent once one_hop c m n e f (se, sends_e) (sf, sends_f) precedes r k delivers =
    let from = index_of run e (Send m (Regular c) se) sends_e in
    let to = index_of run f (Send n (Regular c) sf) sends_f in
    let precedes' : Precedes run (place e.proc from.0) f = rw from.1 at precedes in
    let good = good_after run lines cert in_place sent once one_hop c m e.proc from.0 (se, from.2) f precedes' in
    elim (good to.0 n (omega (arith, ap (λ (x : Place). x.at) to.1)) (sf, to.2)) [
      | inl same ↦ absurd (no_cycle run lines cert f
          (rw (one_event run once e f from.0 to.0 m n (Regular c) (Regular c) from.1 to.1 same (se, from.2) (sf, to.2)) at precedes))
      | inr before ↦ let h = before r k delivers in (h.0, h.1, h.2)
    ]
