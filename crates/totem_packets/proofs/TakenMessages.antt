-- A message that is read is spelled so, and what is spelled so is read again.
use Rattle.totem_packets.proofs.Common.{◌≡◌, ℕ, List, ◌++◌, Ok, refl, append_assoc, append-nil, arith, w8, w16, w32, RingName, IsBody, IsMessage}
use Rattle.totem_names.specs.declared.message.Service.{Service}
use Rattle.totem_names.specs.declared.message.Service.TheVariants.{Agreed, Safe}
use Rattle.totem_packets.specs.declared.fault.PacketFault.TheVariants.{Range}
use Rattle.totem_packets.specs.declared.message.Body.{Body}
use Rattle.totem_packets.specs.declared.message.Body.TheVariants.{Old, Mark}
use Rattle.totem_packets.specs.declared.message.Message as message
use Rattle.totem_packets.specs.Grammar.{app_at, old_at, body_of, body_at, message_at}
use Rattle.totem_packets.specs.Spelling.{number_bytes, ring_bytes, payload_bytes, app_kind, old_kind, body_bytes, message_bytes}
use Rattle.totem_packets.proofs.Taken.{IsTaking, Spells, gives_taking, fault_taking, bind_taking, kind_or, kind_taking, kind_again, number32_taking, number32_again, process_taking, process_again, ring_taking, ring_again, payload_taking, payload_again}

-- ---- what a message says

app_taking : (service : Service) → IsTaking (λ b text. Spells body_bytes IsBody b (number_bytes w8 (app_kind service) ++ text)) (app_at service)
unfolding app_at body_bytes
app_taking service = bind_taking _ _ payload_taking (λ payload few. gives_taking _ (simp append-nil, few))

old_taking : (service : Service) → IsTaking (λ b text. Spells body_bytes IsBody b (number_bytes w8 (old_kind service) ++ text)) (old_at service)
unfolding old_at body_bytes
old_taking service =
    bind_taking _ _ ring_taking (λ ring f1.
    bind_taking _ _ number32_taking (λ number f2.
    bind_taking _ _ process_taking (λ sender f3.
    bind_taking _ _ payload_taking (λ payload f4.
    gives_taking _ (simp (append_assoc, append-nil), (f1, f2, f3, f4))))))

pub body_taking : IsTaking (Spells body_bytes IsBody) body_at
unfolding body_at body_of body_bytes
body_taking = bind_taking _ _ kind_taking (λ kind f.
    kind_or 0 kind _ _ (app_taking Agreed) (
    kind_or 1 kind _ _ (app_taking Safe) (
    kind_or 2 kind _ _ (old_taking Agreed) (
    kind_or 3 kind _ _ (old_taking Safe) (
    kind_or 4 kind _ _ (gives_taking Mark (append-nil _, tt)) (fault_taking Range))))))

old_again : (service : Service) (ring : RingName) (number sender : ℕ) (payload rest : List ℕ) → IsBody (Old ring number sender service payload)
    → old_at service (ring_bytes ring ++ (number_bytes w32 number ++ (number_bytes w16 sender ++ (payload_bytes payload ++ rest)))) ≡ Ok (Old ring number sender service payload, rest)
unfolding old_at
old_again service ring number sender payload rest fits = rw (ring_again ring _ fits.0, number32_again number _ fits.1, process_again sender _ fits.2, payload_again payload rest fits.3) refl

pub body_again : (b : Body) (rest : List ℕ) → IsBody b → body_at (body_bytes b ++ rest) ≡ Ok (b, rest)
unfolding body_at body_of app_at body_bytes
body_again b rest h = grind (arith, append_assoc, kind_again, payload_again, old_again)

-- ---- messages

pub message_taking : IsTaking (Spells message_bytes IsMessage) message_at
unfolding message_at message_bytes
message_taking =
    bind_taking _ _ ring_taking (λ ring f1.
    bind_taking _ _ number32_taking (λ number f2.
    bind_taking _ _ process_taking (λ sender f3.
    bind_taking _ _ body_taking (λ body f4.
    gives_taking _ (simp (append_assoc, append-nil), record { ring = f1; number = f2; sender = f3; body = f4 })))))

pub message_again : (m : message.Message) (rest : List ℕ) → IsMessage m → message_at (message_bytes m ++ rest) ≡ Ok (m, rest)
unfolding message_at message_bytes
message_again m rest fits =
    simp append_assoc (rw (ring_again m.ring _ fits.ring, number32_again m.number _ fits.number, process_again m.sender _ fits.sender, body_again m.body rest fits.body) refl)
