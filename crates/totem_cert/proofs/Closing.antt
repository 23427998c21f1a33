-- The closed list breaks the specification that it names.
use Rattle.totem_cert.proofs.Common.{◌≡◌, ℕ, suc, ◌+◌, ◌-◌, ◌⊎◌, inl, inr, List, [], ◌∷◌, ◌++◌, length, drop, slice_get, Some, refl, sym, ◌∙◌, ap, arith, length-drop, common_steps, append-nil, slice_get_cases, slice_get_within, get_or_from_slice_get, Place, Log, SpecNo, IsEvent, Strict, Breaks, Step, HoldsUp, unless, forward, AreTwinDeliveries, IsBrokenBy, IsClosedList, InClass}
use Rattle.std.proofs.Math.Seq.{drop-cons}
use Rattle.totem_evs.specs.Places.{Chain, Somewhere, IsClosed, IsStep, IsOrderStep}
use Rattle.totem_cert.proofs.Classmates.{class_sym, event_of}
use Rattle.totem_cert.proofs.Walking.{step_in}

-- steps along a list, and from its last event to z
abbrev Path : (Place → Place → Type 0) → List Place → Place → Type 0
Path Leads [] z = Unit {0}
Path Leads (x ∷ xs) z = Chain Leads x xs z

path_append : (Leads : Place → Place → Type 0) (xs ys : List Place) (y z : Place) → Path Leads xs y → Chain Leads y ys z → Path Leads (xs ++ (y ∷ ys)) z
path_append Leads [] ys y z a b = b
path_append Leads (x ∷ xs) ys y z a b = grind (arith, path_append Leads xs ys y z)

chain_split : (Leads : Place → Place → Type 0) (x : Place) (xs ys : List Place) (y z : Place) → Chain Leads x (xs ++ (y ∷ ys)) z → Chain Leads x xs y × Chain Leads y ys z
chain_split Leads x [] ys y z h = h
chain_split Leads x (w ∷ xs) ys y z h = let rest = chain_split Leads w xs ys y z h.1 in ((h.0, rest.0), rest.1)

some_split : (Leads : Place → Place → Type 0) (x : Place) (xs ys : List Place) (y z : Place) → Somewhere Leads x (xs ++ (y ∷ ys)) z → Somewhere Leads x xs y ⊎ Somewhere Leads y ys z
some_split Leads x [] ys y z h = h
some_split Leads x (w ∷ xs) ys y z h = grind (arith, some_split Leads w xs ys y z)

some_left : (Leads : Place → Place → Type 0) (x : Place) (xs ys : List Place) (y z : Place) → Somewhere Leads x xs y → Somewhere Leads x (xs ++ (y ∷ ys)) z
some_left Leads x [] ys y z h = inl h
some_left Leads x (w ∷ xs) ys y z h = grind (arith, some_left Leads w xs ys y z)

some_right : (Leads : Place → Place → Type 0) (x : Place) (xs ys : List Place) (y z : Place) → Somewhere Leads y ys z → Somewhere Leads x (xs ++ (y ∷ ys)) z
some_right Leads x [] ys y z h = inr h
some_right Leads x (w ∷ xs) ys y z h = inr (some_right Leads w xs ys y z h)

-- a closed list can start at any of its events
turn : (run : List Log) (Leads : Place → Place → Type 0) (front back : List Place) → IsClosed run Leads (front ++ back) → IsClosed run Leads (back ++ front)
turn run Leads [] back h = rw append-nil h
turn run Leads (a ∷ as') [] h = rw (append-nil as') at h
turn run Leads (a ∷ as') (b ∷ bs) (chain, strict) =
    let parts = chain_split Leads a as' bs b a chain in (
      path_append Leads (b ∷ bs) as' a b parts.1 parts.0,
      elim (some_split (Strict run) a as' bs b a strict) [
        | inl h ↦ some_right (Strict run) b bs as' a b h
        | inr h ↦ some_left (Strict run) b bs as' a b h
      ],
    )

-- each step is strict, and leads to the class of the one before it; the first one's event is in p's class
abbrev Linked : List Log → Place → List Step → Type 0
Linked run p [] = Unit {0}
Linked run p (v ∷ vs) = Strict run v.from v.to × InClass run v.to p × Linked run v.from vs

last_part : (run : List Log) (v : Step) (p : Place) → Strict run v.from v.to → InClass run v.to p → Chain (IsOrderStep run) v.from (unless v.to p) p × Somewhere (Strict run) v.from (unless v.to p) p
last_part run v p strict shares = grind (arith, common_steps)

forward_path : (run : List Log) (p : Place) (vs : List Step) → Linked run p vs → Path (IsOrderStep run) (forward p vs) p
forward_path run p [] h = tt
forward_path run p (v ∷ vs) h = path_append (IsOrderStep run) (forward v.from vs) (unless v.to p) v.from p (forward_path run v.from vs h.2) (last_part run v p h.0 h.1).0

forward_strict : (run : List Log) (p : Place) (v : Step) (vs : List Step) (e : Place) (es : List Place) → Linked run p (v ∷ vs) → forward p (v ∷ vs) ≡ e ∷ es → Somewhere (Strict run) e es p
forward_strict run p v vs e es h is = go (forward v.from vs) is
  where
    go : (xs : List Place) → xs ++ (v.from ∷ unless v.to p) ≡ e ∷ es → Somewhere (Strict run) e es p
    go [] is =
        let a : v.from ≡ e = cc in
        let b : unless v.to p ≡ es = cc in
        rw (← a, ← b) (last_part run v p h.0 h.1).1
    go (x ∷ xs) is =
        let a : x ≡ e = cc in
        let b : xs ++ (v.from ∷ unless v.to p) ≡ es = cc in
        rw (← a, ← b) (some_right (Strict run) x xs (unless v.to p) v.from p (last_part run v p h.0 h.1).1)

-- it starts with the event from which its last step leads
forward_head : (p : Place) (v : Step) (vs : List Step) (l : Step) → slice_get (v ∷ vs) (length vs) ≡ Some l → (es : List Place) × (forward p (v ∷ vs) ≡ l.from ∷ es)
forward_head p v [] l at = (unless v.to p, (let same : v ≡ l = cc in ap (λ (u : Step). u.from ∷ unless v.to p) same))
forward_head p v (w ∷ ws) l at = let rest = forward_head v.from w ws l at in (rest.0 ++ (v.from ∷ unless v.to p), rw rest.1 refl)

round_closed : (run : List Log) (v : Step) (vs : List Step) (l : Step) → slice_get (v ∷ vs) (length vs) ≡ Some l → Linked run l.from (v ∷ vs) → IsClosed run (IsOrderStep run) (forward l.from (v ∷ vs))
round_closed run v vs l at linked =
    let head = forward_head l.from v vs l at in
    let path : Path (IsOrderStep run) (l.from ∷ head.0) l.from = rw head.1 at (forward_path run l.from (v ∷ vs) linked) in
    let strict = forward_strict run l.from v vs l.from head.0 linked head.1 in
    let closed : IsClosed run (IsOrderStep run) (l.from ∷ head.0) = (path, strict) in
    rw head.1 closed

pub get_drop : {A : Type 0} (xs : List A) (k i : ℕ) → slice_get (drop k xs) i ≡ slice_get xs (k + i)
get_drop xs k i = grind (arith, common_steps, slice_get_cases)

pub drop_here : (xs : List Step) (i : ℕ) (v : Step) → slice_get xs i ≡ Some v → drop i xs ≡ v ∷ drop (suc i) xs
drop_here xs i v at = drop-cons xs i v (slice_get_within xs i v at) ∙ ap (λ (u : Step). u ∷ drop (suc i) xs) (get_or_from_slice_get xs i v v at)

linked_of : (run : List Log) (vs : List Step) (p : Place) → ((v : Step) → slice_get vs 0 ≡ Some v → InClass run v.to p) → ((i : ℕ) (v w : Step) → slice_get vs i ≡ Some v → slice_get vs (suc i) ≡ Some w → InClass run w.to v.from)
    → ((i : ℕ) (v : Step) → slice_get vs i ≡ Some v → Strict run v.from v.to) → Linked run p vs
linked_of run [] p first next strict = tt
linked_of run (v ∷ vs) p first next strict = (strict 0 v refl, first v refl, linked_of run vs v.from (λ w at. next 0 v w refl at) (λ i w u at_w at_u. next (suc i) w u at_w at_u) (λ i w at. strict (suc i) w at))

holds_strict : (run : List Log) (f e : Place) → IsEvent run e → HoldsUp run f e → Strict run f e
holds_strict run f e event holds = grind (arith, common_steps)

-- if no message has two different deliveries in it, each step is one of the first kind
no_twins : (run : List Log) (e : Place) (es : List Place) (z : Place) → Chain (IsOrderStep run) e es z → (Somewhere (AreTwinDeliveries run) e es z → ⊥) → Chain (IsStep run) e es z
no_twins run e [] z h never = grind arith
no_twins run e (f ∷ fs) z h never = grind (arith, no_twins run f fs z)

broken : (run : List Log) (k : SpecNo) (places : List Place) → IsClosed run (IsOrderStep run) places → IsBrokenBy run k places → Breaks run k places
broken run k places h m = grind (arith, no_twins)

pub closed_breaks : (run : List Log) (k : SpecNo) (places : List Place) → IsClosedList run k places → Breaks run k places
closed_breaks run k places h =
    let whole : IsClosed run (IsOrderStep run) (forward h.last.from (drop h.again h.steps)) = rw here (round_closed run h.back.step (drop (suc h.again) h.steps) h.last end (rw here at linked)) in
    let w : IsClosed run (IsOrderStep run) (h.written.front ++ h.written.back) = rw h.written.was at whole in
    let t : IsClosed run (IsOrderStep run) places = rw h.written.is (turn run (IsOrderStep run) h.written.front h.written.back w) in
    broken run k places t h.broken
  where
    at : (i : ℕ) (v : Step) → slice_get (drop h.again h.steps) i ≡ Some v → slice_get h.steps (h.again + i) ≡ Some v
    at i v g = sym (get_drop h.steps h.again i) ∙ g

    linked : Linked run h.last.from (drop h.again h.steps)
    linked = linked_of run (drop h.again h.steps) h.last.from
        (λ v g. (let e : h.again + 0 ≡ h.again = omega arith in let g' : slice_get h.steps h.again ≡ Some v = rw e at (at 0 v g) in let same : h.back.step ≡ v = (let b = h.back.at_again in cc) in rw same at h.back.comes_back))
        (λ i v w g g'. (let e : h.again + suc i ≡ h.again + i + 1 = omega arith in class_sym run v.from w.to (h.back.walk.next (h.again + i) v w (at i v g) (rw e at (at (suc i) w g'))).shares))
        (λ i v g. (let s = step_in run h.start h.steps (h.again + i) v h.back.walk (at i v g) in holds_strict run v.from v.to (event_of run s.0 v.to s.1.shares) s.1.holds))

    here : drop h.again h.steps ≡ h.back.step ∷ drop (suc h.again) h.steps
    here = drop_here h.steps h.again h.back.step h.back.at_again

    end : slice_get (h.back.step ∷ drop (suc h.again) h.steps) (length (drop (suc h.again) h.steps)) ≡ Some h.last
    end =
        let within = slice_get_within h.steps h.again h.back.step h.back.at_again in
        let e : h.again + length (drop (suc h.again) h.steps) ≡ length h.steps - 1 = omega (arith, length-drop (suc h.again) h.steps) in
        let g : slice_get (drop h.again h.steps) (length (drop (suc h.again) h.steps)) ≡ Some h.last = get_drop h.steps h.again (length (drop (suc h.again) h.steps)) ∙ (rw e h.back.at_end) in
        rw here at g
