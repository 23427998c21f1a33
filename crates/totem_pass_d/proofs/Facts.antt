-- What the stays of a run that meets the specifications of the first two passes say about its logs.
use Rattle.totem_pass_d.proofs.Common.{◌≡◌, ℕ, ◌<◌, ◌≤◌, inl, inr, List, length, refl, arith, slice_get_within, get_or_from_slice_get, RingId, ConfId, Regular, Transitional, MsgId, Entry, Send, Deliver, Log, IsRegular, IsTransitional, ChangesTo, Sends, log_of, Names, Com, DeliversIn, MeetsPasses, less_or_not, names_no_change, IsStay, IsStayOf, HasStay, AreStays, IsAmong, IsInside, StandsInside}
use Rattle.totem_pass_d.specs.declared.stays.Stay.{Stay}
use Rattle.totem_pass_d.specs.declared.stays.Stays.{Stays}
use Rattle.totem_pass_d.specs.KnownStays.{AreKnown}

pub stay_of : (run : List Log) (c : RingId) (stays : List Stay) (stay : Stay) → AreStays run c stays → IsAmong stays stay → IsStayOf run c stay
stay_of run c stays stay are among =
    let h = are.each among.at stay (slice_get_within stays among.at stay among.stands) in
    rw (get_or_from_slice_get stays among.at stay stay among.stands) at h

-- what is known of a stay
pub record StayFacts (run : List Log) (c : RingId) (stay : Stay) : Type 0 where
  pub of : IsStayOf run c stay
  pub log : stay.log.now ≡ log_of run stay.proc
  pub few : stay.end ≤ 1000000
  pub size : length (log_of run stay.proc) ≤ 1000000
  pub is : IsStay (log_of run stay.proc) c stay.from stay.turn stay.end
  -- an entry of the stay is in c or in what follows it
  pub stands : (i : ℕ) (x : ConfId) → IsInside stay i → Names (log_of run stay.proc) i x → Com (log_of run stay.proc) c x
  pub sends : (i : ℕ) (m : MsgId) (x : ConfId) → IsInside stay i → Sends (log_of run stay.proc) i m x → (x ≡ Regular c) × (i < stay.turn)

-- what is known of the run
pub record Facts (run : List Log) (c : RingId) (stays : List Stay) : Type 0 where
  pub meets : MeetsPasses run
  pub each : (stay : Stay) → IsAmong stays stay → StayFacts run c stay
  pub inside : (p i : ℕ) (x : ConfId) → Names (log_of run p) i x → Com (log_of run p) c x → StandsInside stays p i
  pub whole : (p i : ℕ) → ChangesTo (log_of run p) i (Regular c) → HasStay stays p

not_both : (x : ConfId) → IsRegular x → IsTransitional x → ⊥
not_both (Regular c) r t = t
not_both (Transitional l n) r t = r

-- the entry at the turn of a stay names no configuration
pub at_turn_no_name : (log : List Entry) (c : RingId) (from turn end i : ℕ) (x : ConfId) → IsStay log c from turn end → turn < end → i ≡ turn → Names log i x → ⊥
at_turn_no_name log c from turn end i x is lt same names = let t = is.turns lt in names_no_change log turn x (rw same at names) (t.conf, t.change)

-- an entry inside a stay names c or what follows it
pub com_of : (log : List Entry) (c : RingId) (from turn end i : ℕ) (x : ConfId) → IsStay log c from turn end → from < i → i < end → Names log i x → Com log c x
com_of log c from turn end i x is after until names = elim (less_or_not i turn) [
  | inl lt ↦ inl (is.regular i x after lt names)
  | inr (inl gt) ↦ inr (is.following i x gt until names)
  | inr (inr same) ↦ absurd (at_turn_no_name log c from turn end i x is (omega arith) same names)
]

pub sends_of : (log : List Entry) (c : RingId) (from turn end i : ℕ) (m : MsgId) (x : ConfId) → IsStay log c from turn end → IsRegular x → from < i → i < end → Sends log i m x → (x ≡ Regular c) × (i < turn)
sends_of log c from turn end i m x is r after until (s, at) = elim (less_or_not i turn) [
  | inl lt ↦ (is.regular i x after lt (Send m x s, at, refl), lt)
  | inr (inl gt) ↦ absurd (not_both x r (is.following i x gt until (Send m x s, at, refl)).transitional)
  | inr (inr same) ↦ absurd (at_turn_no_name log c from turn end i x is (omega arith) same (Send m x s, at, refl))
]

-- the stay around an entry
stay_around : (run : List Log) (c : RingId) (stays : List Stay) (p i : ℕ) (x : ConfId) → MeetsPasses run → AreStays run c stays → Names (log_of run p) i x → Com (log_of run p) c x → StandsInside stays p i
stay_around run c stays p i x meets are names belongs = found belongs
  where
    of_change : (k : ℕ) → ChangesTo (log_of run p) k (Regular c) → StandsInside stays p i
    of_change k change =
        let has = are.whole p k change in
        let among : IsAmong stays has.stay = record { at = has.at; stands = has.stands } in
        let of = stay_of run c stays has.stay are among in
        let is : IsStay (log_of run p) c has.stay.from has.stay.turn has.stay.end = rw (of.log, has.proc) at of.is in
        let bounds = is.here i x names belongs in
        record { stay = has.stay; among = among; proc = has.proc; inside = record { after = bounds.0; until = bounds.1 } }

    found : Com (log_of run p) c x → StandsInside stays p i
    found (inl same) = let stands = (meets.placed p).named i (Regular c) (rw same at names) in of_change stands.from stands.change
    found (inr follows) = of_change follows.from follows.first.change

stay_facts : (run : List Log) (c : RingId) (stays : List Stay) (stay : Stay) → MeetsPasses run → AreStays run c stays → IsAmong stays stay → StayFacts run c stay
stay_facts run c stays stay meets are among =
    let of = stay_of run c stays stay are among in
    let is : IsStay (log_of run stay.proc) c stay.from stay.turn stay.end = rw of.log at of.is in
    record {
      of = of;
      log = of.log;
      few = (let few = of.few in let within = of.is.within in omega arith);
      size = rw of.log at of.few;
      is = is;
      stands = λ i x inside names. com_of (log_of run stay.proc) c stay.from stay.turn stay.end i x is inside.after inside.until names;
      sends = λ i m x inside send. sends_of (log_of run stay.proc) c stay.from stay.turn stay.end i m x is (meets.once.regular stay.proc i m x send) inside.after inside.until send;
    }

pub facts_of : (stays : Stays) → AreKnown stays → Facts stays.run.now.logs stays.ring stays.list.items
facts_of stays known =
    let run = stays.run.now.logs in
    let list = stays.list.items in
    record {
      meets = known.meets;
      each = λ stay among. stay_facts run stays.ring list stay known.meets known.are among;
      inside = λ p i x names belongs. stay_around run stays.ring list p i x known.meets known.are names belongs;
      whole = known.are.whole;
    }

-- a delivery in c or in what follows it is in the stay of its process
pub delivery_inside : (run : List Log) (c : RingId) (stays : List Stay) (stay : Stay) (n : MsgId) (j : ℕ) → Facts run c stays → IsAmong stays stay → DeliversIn (log_of run stay.proc) c n j → IsInside stay j
delivery_inside run c stays stay n j facts among (d, at, belongs) =
    let bounds = (facts.each stay among).is.here j d (Deliver n d, at, refl) belongs in record { after = bounds.0; until = bounds.1 }

pub delivery_short : (run : List Log) (c : RingId) (stays : List Stay) (stay : Stay) (n : MsgId) (j : ℕ) → Facts run c stays → IsAmong stays stay → DeliversIn (log_of run stay.proc) c n j → j < 1000000
delivery_short run c stays stay n j facts among delivers = omega (arith, (facts.each stay among).few, (delivery_inside run c stays stay n j facts among delivers).until)
