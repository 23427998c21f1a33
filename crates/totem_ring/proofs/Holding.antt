-- What holding a message changes.
use Rattle.totem_ring.proofs.Common.{◌≡◌, ℕ, ◌^◌, ◌<◌, [], ◌∷◌, None, true, arith, cases_lt, nat_cmp, insert_entry, Message, Ring, Held, message_at, holds, with_message, without, message_refusal, RisesFrom, IsWholeTo, KeepsAru}
use Rattle.totem_ring.proofs.NotRefused.{passed}
use Rattle.totem_ring.proofs.Rising.{whole_is, whole_holds, Rises-insert, remove-insert}
use Rattle.std.proofs.lemmas.Bool.Decides.{nat_tests}

-- nothing that was held is lost
pub record Grows (held new : Held) : Type 0 where
  pub still : (q : ℕ) → holds held q ≡ true → holds new q ≡ true

still_insert : (es : Held) (k : ℕ) (m : Message) (q : ℕ) → holds es q ≡ true → holds (insert_entry nat_cmp es k m) q ≡ true
still_insert [] k m q h = absurd cc
still_insert (e ∷ es) k m q h = grind (arith, nat_tests, still_insert es k m q)

pub Grows-insert : (es : Held) (k : ℕ) (m : Message) → Grows es (insert_entry nat_cmp es k m)
Grows-insert es k m = record { still = still_insert es k m }

-- the aru after one more message
pub KeepsAru-grown : (held new : Held) (my_aru n : ℕ) → KeepsAru held my_aru → Grows held new → RisesFrom 0 new → IsWholeTo new my_aru n → KeepsAru new n
KeepsAru-grown held new my_aru n h grows rises whole = grind (arith, whole_is, cases_lt, whole_holds)

pub KeepsAru-insert : (held new : Held) (my_aru n k : ℕ) (m : Message) → KeepsAru held my_aru → new ≡ insert_entry nat_cmp held k m → 0 < k → k < 2 ^ 32 → IsWholeTo new my_aru n → KeepsAru new n
KeepsAru-insert held new my_aru n k m h is above fits whole =
    rw is (KeepsAru-grown held (insert_entry nat_cmp held k m) my_aru n h (Grows-insert held k m) (Rises-insert 0 held k m h.rises above fits) (rw is at whole))

-- a message that isn't refused is new
pub not_held : (s : Ring) (m : Message) → message_refusal s m ≡ None → message_at s.held m.number ≡ None
not_held s m h = grind (arith, passed)

-- removing the message again leaves what was held before
pub undone : (s : Ring) (m : Message) (held new newer : Held) → message_refusal s m ≡ None → s.held ≡ held → new ≡ with_message held m → newer ≡ without new m.number → newer ≡ held
undone s m held new newer passed same put taken = grind (arith, not_held, remove-insert)

pub ruleset one_more = (Rises-insert, KeepsAru-insert)
