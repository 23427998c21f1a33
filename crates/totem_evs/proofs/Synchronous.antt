-- What the passes find, and what it means: a run in which they find nothing meets the seven specifications, and the places
-- of each fault break its specification.
use Rattle.totem_evs.proofs.Common.{◌≢◌, ◌≡◌, ◌⊎◌, inl, inr, ℕ, zero, suc, ◌<◌, List, [], ◌∷◌, ◌++◌, refl, sym, arith, Contains, All, All-nil, All-cons, RingId, Regular, Transitional, log_of, Sends, Com, DeliversIn, OwnDeliveryIn, SelfDelivery, FailureAtomicity, NoGapsIn, NoGaps, SafetyIn, InstalledIn, SafeDelivery, AtomicityIn, CausalityIn, MeetsIn, Numbering, Certified, Breaks, Yes, No, ListsCycle, HasCertificate, Meets, MeetsPasses, Lists, ListsRings, ListsEach, ListsConfigurations, IsRing, AreRings, pass_a, pass_b, specs_d}
use Rattle.totem_evs.specs.Meanings.{AnswersAreSound}
use Rattle.totem_evs.proofs.Consistent.{breaks}
use Rattle.totem_evs.specs.declared.log.Log.{Log}
use Rattle.totem_evs.specs.declared.fault.Fault.{Fault}
use Rattle.totem_evs.specs.declared.spec.SpecNo.{SpecNo}
use Rattle.totem_evs.specs.declared.spec.SpecNo.TheVariants as spec
use Rattle.totem_evs.specs.OneHop.{OneHopIsFine}
use Rattle.totem_evs.specs.Synchrony.{IsVirtuallySynchronous}
use Rattle.totem_evs.proofs.Ordered.{ordered}
use Rattle.totem_evs.proofs.Precedence.{each_log_ordered, each_twins_agree}
use Rattle.totem_evs.proofs.Causal.{place}
use Rattle.totem_evs.proofs.Causal as causal
use Rattle.totem_evs.proofs.Originating.{origin, ring_of_standing, ring_of_delivery, ring_of_send, delivered_in, same_com}
use Rattle.totem_evs.proofs.BreaksIn.{breaks_in}

-- ---- passes A and B

none_listed : (run : List Log) (k : SpecNo) (ks : List SpecNo) → Lists run (k ∷ ks) [] → Meets run k × Lists run ks []
none_listed run k ks h = grind arith

pub meets_passes : (run : List Log) → Lists run pass_a [] → Lists run pass_b [] → MeetsPasses run
meets_passes run a b =
    let one = none_listed run spec.Twice (spec.End ∷ spec.Misplaced ∷ spec.Configuration ∷ spec.Turns ∷ []) a in
    let end = none_listed run spec.End (spec.Misplaced ∷ spec.Configuration ∷ spec.Turns ∷ []) one.1 in
    let two = none_listed run spec.Misplaced (spec.Configuration ∷ spec.Turns ∷ []) end.1 in
    let three = none_listed run spec.Configuration (spec.Turns ∷ []) two.1 in
    let four = none_listed run spec.Turns [] three.1 in
    let five = none_listed run spec.Unsent [] b in
    record { sent = five.0; once = one.0; together = end.0; placed = two.0; one = three.0; turns = four.0 }

-- ---- pass D

-- the run meets a specification in each of its regular configurations
pub record MeetsEach (run : List Log) (k : SpecNo) : Type 0 where
  pub each : (c : RingId) → IsRing run c → MeetsIn run c k

none_in_rings : (run : List Log) (k : SpecNo) (cs : List RingId) (c : RingId) → ListsRings run k cs [] → Contains cs c → MeetsIn run c k
none_in_rings run k [] c h (i, lt, is) = absurd (omega arith)
none_in_rings run k (b ∷ cs) c (inr (places, rest, is, least, more)) (i, lt, at) = absurd cc
none_in_rings run k (b ∷ cs) c (inl (meets, more)) (zero, lt, is) = rw (← is) meets
none_in_rings run k (b ∷ cs) c (inl (meets, more)) (suc i, lt, is) = none_in_rings run k cs c more (i, omega arith, is)

both_empty : (fs gs : List Fault) → [] ≡ fs ++ gs → (fs ≡ []) × (gs ≡ [])
both_empty [] gs e = (refl, sym e)
both_empty (f ∷ fs) gs e = absurd cc

none_each : (run : List Log) (rings : List RingId) (k : SpecNo) (ks : List SpecNo) → AreRings run rings → ListsEach run rings (k ∷ ks) [] → MeetsEach run k × ListsEach run rings ks []
none_each run rings k ks are (own, others, is, here, more) =
    let empty = both_empty own others is in
    let none : ListsRings run k rings [] = rw empty.0 at here in
    (record { each = λ c h. none_in_rings run k rings c none ((are.exact c).1 h) }, rw empty.1 at more)

-- the run meets 3, 4, 5 in one hop, 6.3, 7.1 and 7.2 in each of its regular configurations
pub record MeetsConfigurations (run : List Log) : Type 0 where
  pub own : MeetsEach run spec.OwnDelivery
  pub atomicity : MeetsEach run spec.Atomicity
  pub causality : MeetsEach run spec.Causality
  pub gap : MeetsEach run spec.Gap
  pub safety : MeetsEach run spec.Safety
  pub installed : MeetsEach run spec.Installed

pub meets_configurations : (run : List Log) → ListsConfigurations run [] → MeetsConfigurations run
meets_configurations run d =
    let one = none_each run d.rings spec.OwnDelivery (spec.Atomicity ∷ spec.Causality ∷ spec.Gap ∷ spec.Safety ∷ spec.Installed ∷ []) d.are d.lists in
    let two = none_each run d.rings spec.Atomicity (spec.Causality ∷ spec.Gap ∷ spec.Safety ∷ spec.Installed ∷ []) d.are one.1 in
    let three = none_each run d.rings spec.Causality (spec.Gap ∷ spec.Safety ∷ spec.Installed ∷ []) d.are two.1 in
    let four = none_each run d.rings spec.Gap (spec.Safety ∷ spec.Installed ∷ []) d.are three.1 in
    let five = none_each run d.rings spec.Safety (spec.Installed ∷ []) d.are four.1 in
    let six = none_each run d.rings spec.Installed [] d.are five.1 in
    record { own = one.0; atomicity = two.0; causality = three.0; gap = four.0; safety = five.0; installed = six.0 }

-- ---- the specifications

own_delivery : (run : List Log) → MeetsPasses run → MeetsEach run spec.OwnDelivery → SelfDelivery run
own_delivery run meets h c = record {
  each = λ p i m sends. let here : OwnDeliveryIn run c = h.each c (ring_of_send run p i c m meets sends) in here.each p i m sends;
}

atomic : (run : List Log) → MeetsPasses run → MeetsEach run spec.Atomicity → FailureAtomicity run
atomic run meets h p q (Regular c) d (a, b, from, next, to) there i m delivers =
    let here : AtomicityIn run c = h.each c (record { proc = p; index = a; change = from }) in
    here.each p q (Regular c) d (inl refl) (a, b, from, next, to) there i m delivers
atomic run meets h p q (Transitional l n) d (a, b, from, next, to) there i m delivers =
    let origin_is = origin run p a (Transitional l n) meets from tt in
    let c = origin_is.ring in
    let here : AtomicityIn run c = h.each c (record { proc = p; index = origin_is.follows.from; change = origin_is.follows.first.change }) in
    here.each p q (Transitional l n) d (inr origin_is.follows) (a, b, from, next, to) there i m delivers

one_hop : (run : List Log) → MeetsPasses run → MeetsEach run spec.Causality → OneHopIsFine run
one_hop run meets h c p i j m n (service, at_j) lt (inl (other, at_i)) r k delivers =
    let here : CausalityIn run c = h.each c (ring_of_send run p j c n meets (service, at_j)) in
    here.each m n (place p i) (place p j) (other, at_i) (service, at_j) (inl (refl, omega arith)) r k delivers
one_hop run meets h c p i j m n (service, at_j) lt (inr del) r k delivers = from_send (meets.sent p i m (Regular c) del)
  where
    from_send : ((b : RingId) × ((q l : ℕ) × Sends (log_of run q) l m (Regular b)) × Com (log_of run p) b (Regular c)) → (l : ℕ) × (l < k) × DeliversIn (log_of run r) c m l
    from_send (b, (q, l, sends), stays) =
        let same : c ≡ b = same_com (log_of run p) b c stays in
        let sent : Sends (log_of run q) l m (Regular c) = rw (sym same) at sends in
        let here : CausalityIn run c = h.each c (ring_of_send run p j c n meets (service, at_j)) in
        here.each m n (place q l) (place p j) sent (service, at_j) (inr (j, omega arith, (i, lt, del))) r k delivers

no_gaps : (run : List Log) → MeetsPasses run → MeetsEach run spec.Gap → NoGaps run
no_gaps run meets h c = record {
  each = λ m n p i j q k d first second lt delivers stays s l x sends member.
      let here : NoGapsIn run c = h.each c (ring_of_delivery run p i c m meets first) in
      here.each m n p i j q k d first second lt delivers stays s l x sends member;
}

safe : (run : List Log) → MeetsPasses run → MeetsEach run spec.Safety → MeetsEach run spec.Installed → SafeDelivery run
safe run meets s h = record {
  reaches = λ c. record {
    each = λ m p i d q is delivers stays member.
        let here : SafetyIn run c = s.each c (ring_of_standing run p i c d (delivered_in run p i m d meets delivers) stays) in
        here.each m p i d q is delivers stays member;
  };
  installed = λ c. record {
    each = λ m p i q is delivers member.
        let here : InstalledIn run c = h.each c (ring_of_standing run p i c (Regular c) (delivered_in run p i m (Regular c) meets delivers) (inl refl)) in
        here.each m p i q is delivers member;
  };
}

-- a certified run in which the passes find nothing meets the seven specifications
pub synchronous : (run : List Log) (lines : List Numbering) → MeetsPasses run → Certified run lines → MeetsConfigurations run → IsVirtuallySynchronous run
synchronous run lines meets certified each =
    let both = ordered run lines certified in
    record {
      basic = record { no_cycle = both.0; ordered = each_log_ordered run; sent = meets.sent; once = meets.once };
      changes = record { together = meets.together; in_place = meets.placed; one = meets.one; turns = meets.turns.each; origin = meets.turns.origin; twins = each_twins_agree run };
      own = own_delivery run meets each.own;
      atomic = atomic run meets each.atomicity;
      causal = causal.chains run lines certified meets.placed meets.sent meets.once (one_hop run meets each.causality);
      order = both.1;
      no_gaps = no_gaps run meets each.gap;
      safe = safe run meets each.safety each.installed;
    }

-- ---- faults

-- the places of each fault break its specification
pub record AllBreak (run : List Log) (faults : List Fault) : Type 0 where
  pub all : All (λ fault. Breaks run fault.spec fault.places) faults

none_break : (run : List Log) → AllBreak run []
none_break run = record { all = All-nil (λ fault. Breaks run fault.spec fault.places) }

one_more : (run : List Log) (fault : Fault) (faults : List Fault) → Breaks run fault.spec fault.places → AllBreak run faults → AllBreak run (fault ∷ faults)
one_more run fault faults h rest = record { all = All-cons (λ f. Breaks run f.spec f.places) fault faults h rest.all }

pub listed_break : (run : List Log) (ks : List SpecNo) (faults : List Fault) → Lists run ks faults → AllBreak run faults
listed_break run [] faults is = rw is (none_break run)
listed_break run (k ∷ ks) faults (inl (meets, more)) = listed_break run ks faults more
listed_break run (k ∷ ks) faults (inr (places, rest, is, least, more)) = rw is (one_more run (record { spec = k; places = places }) rest least.holds (listed_break run ks rest more))

-- the faults of one specification, and then others
rings_break : (run : List Log) (k : SpecNo) (cs : List RingId) (own others : List Fault) → ListsRings run k cs own → AllBreak run others → AllBreak run (own ++ others)
rings_break run k [] own others is rest = rw is rest
rings_break run k (c ∷ cs) own others (inl (meets, more)) rest = rings_break run k cs own others more rest
rings_break run k (c ∷ cs) own others (inr (places, later, is, least, more)) rest =
    rw is (one_more run (record { spec = k; places = places }) (later ++ others) (breaks_in run c k places least.holds) (rings_break run k cs later others more rest))

pub each_break : (run : List Log) (rings : List RingId) (ks : List SpecNo) (faults : List Fault) → ListsEach run rings ks faults → AllBreak run faults
each_break run rings [] faults is = rw is (none_break run)
each_break run rings (k ∷ ks) faults (own, others, is, here, more) = rw is (rings_break run k rings own others here (each_break run rings ks others more))

-- the fault of a closed list breaks
cycle_breaks : (run : List Log) (faults : List Fault) → ListsCycle run faults → AllBreak run faults
cycle_breaks run faults (fault, is, cycle) = rw is (one_more run fault [] cycle.breaks (none_break run))

-- ---- answers

passes_break : (run : List Log) (faults : List Fault)
    → Lists run pass_a faults ⊎ (Lists run pass_a [] × Lists run pass_b faults) ⊎ (Lists run pass_a [] × Lists run pass_b [] × ListsCycle run faults)
    ⊎ (Lists run pass_a [] × Lists run pass_b [] × HasCertificate run × ListsConfigurations run faults) → AllBreak run faults
passes_break run faults (inl a) = listed_break run pass_a faults a
passes_break run faults (inr (inl (none, b))) = listed_break run pass_b faults b
passes_break run faults (inr (inr (inl (none, also, cycle)))) = cycle_breaks run faults cycle
passes_break run faults (inr (inr (inr (none, also, certified, d)))) = each_break run d.rings specs_d faults d.lists

not_all : (run : List Log) (faults : List Fault) → faults ≢ [] → AllBreak run faults → IsVirtuallySynchronous run → ⊥
not_all run [] some h ev = some refl
not_all run (f ∷ fs) some h ev = breaks run f.spec f.places (h.all 0 f (omega arith)) ev

pub sound : AnswersAreSound
sound run (Yes lines pending waiting) (a, b, positions, d, open_ones, waiters) =
    (synchronous run lines (meets_passes run a b) positions.certified (meets_configurations run d), positions.certified, open_ones, waiters)
sound run (No faults) (some, h) = let each = passes_break run faults h in (some, each.all, not_all run faults some each)
