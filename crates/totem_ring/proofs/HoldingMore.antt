-- Holding several messages, and removing them again.
use Rattle.totem_ring.proofs.Common.{◌≡◌, ℕ, ◌+◌, ◌<◌, List, [], ◌∷◌, ◌++◌, length, get_or, drop, Bool, false, cond, refl, ◌∙◌, ap, arith, append-nil, append_assoc, add-one, drop-cons, All, lt-leb, filter_map-append, filter-append, All-head, All-tail, nat_cmp, insert_entry, Message, Held, with_message, with_messages, up_to, holds_above, RisesFrom}
use Rattle.std.proofs.lemmas.Bool.Decides.{nat_tests}
use Rattle.totem_ring.proofs.Rising.{Rises-insert}
use Rattle.std.proofs.lemmas.Grind.{common_steps}

-- what is added above seq changes nothing up to it
pub up_to-insert : (seq : ℕ) (es : Held) (k : ℕ) (m : Message) → seq < k → up_to seq (insert_entry nat_cmp es k m) ≡ up_to seq es
up_to-insert seq [] k m above = ap (λ (b : Bool). cond {A = Held} b ((k, m) ∷ []) []) (lt-leb k seq above)
up_to-insert seq (e ∷ es) k m above = grind (arith, nat_tests, up_to-insert seq es k m)

pub up_to-messages : (seq : ℕ) (es : Held) (ms : List Message) → All (λ m. seq < m.number) ms → up_to seq (with_messages es ms) ≡ up_to seq es
up_to-messages seq es [] above = refl
up_to-messages seq es (m ∷ ms) above =
    up_to-messages seq (with_message es m) ms (All-tail (λ (m : Message). seq < m.number) m ms above)
    ∙ up_to-insert seq es m.number m (All-head (λ (m : Message). seq < m.number) m ms above)

-- the walk over the messages to be held
pub record IsAhead (now before : Held) (seq : ℕ) (messages : List Message) (i : ℕ) : Type 0 where
  pub ahead : with_messages now (drop i messages) ≡ with_messages before messages
  pub below : up_to seq now ≡ up_to seq before

pub one_held : (now new before : Held) (seq : ℕ) (messages : List Message) (i n : ℕ) (m : Message) → IsAhead now before seq messages i → i < length messages → m ≡ get_or messages i m
    → All (λ m. seq < m.number) messages → n ≡ m.number → new ≡ insert_entry nat_cmp now n m → IsAhead new before seq messages (i + 1)
one_held now new before seq messages i n m h lt here all number put = grind (arith, up_to-insert, add-one, drop-cons)

-- a message above all others is put at the end
above_each : (low : ℕ) (es rest : Held) (k : ℕ) (m : Message) → RisesFrom low (es ++ (k, m) ∷ rest) → low < k
above_each low [] rest k m h = h.0
above_each low (e ∷ es) rest k m h = let above : e.0 < k = above_each e.0 es rest k m h.2 in omega (arith, h.0)

pub insert_end : (low : ℕ) (es rest : Held) (k : ℕ) (m : Message) → RisesFrom low (es ++ (k, m) ∷ rest) → insert_entry nat_cmp es k m ≡ es ++ (k, m) ∷ []
insert_end low [] rest k m h = refl
insert_end low (e ∷ es) rest k m h = grind (arith, nat_tests, above_each e.0 es rest k m, insert_end e.0 es rest k m)

-- the copy so far with what is still to be copied
pub copies_on : (now new all left rest : Held) (k : ℕ) (m : Message) → RisesFrom 0 all → now ++ left ≡ all → left ≡ (k, m) ∷ rest → new ≡ insert_entry nat_cmp now k m → new ++ rest ≡ all
copies_on now new all left rest k m rises far next put = grind (arith, insert_end, append_assoc)

-- what is held up to seq is everything, if nothing above it is held
pub up_to-all : (seq : ℕ) (held : Held) → holds_above held seq ≡ false → up_to seq held ≡ held
up_to-all seq [] none = refl
up_to-all seq (e ∷ es) none = grind (arith, nat_tests, up_to-all seq es)

pub ruleset steps = (common_steps, filter_map-append, filter-append, one_held, Rises-insert, copies_on, append-nil)
