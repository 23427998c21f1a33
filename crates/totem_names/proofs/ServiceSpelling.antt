-- Services: what is read is spelled so, and what is spelled so is read.
use Rattle.std.proofs.Common.{arith}
use Rattle.totem_names.proofs.Common.{◌==◌, ◌≡◌, ℕ, List, [], ◌++◌, Ok, Err, refl, eqb-true, Steady, service_text}
use Rattle.totem_names.specs.declared.message.Service.{Service}
use Rattle.totem_names.specs.declared.message.Service.TheVariants.{Agreed, Safe}
use Rattle.totem_names.specs.declared.fault.TextFault.TheVariants.{Word, Truncated}
use Rattle.totem_names.specs.Services.{service_at, SpellsAlone}
use Rattle.totem_names.proofs.Steps.{after, taken, guard_then, parsed_is}
use Rattle.totem_names.proofs.Spelled.{byte_is}
use Rattle.totem_names.proofs.Steady.{gives_steady, fault_steady, bind_steady, cond_steady, byte_steady, first_break}

pub service_is : (s : Service) (bytes rest : List ℕ) → service_at bytes ≡ Ok (s, rest) → bytes ≡ service_text s ++ rest
unfolding service_at
service_is s bytes rest e = grind (arith, after, byte_is, taken, eqb-true, parsed_is, guard_then)

pub service_again : (s : Service) (rest : List ℕ) → service_at (service_text s ++ rest) ≡ Ok (s, rest)
unfolding service_at
service_again Agreed rest = refl
service_again Safe rest = refl

pub service_steady : Steady service_at
unfolding service_at
service_steady = bind_steady _ _ byte_steady (λ b. cond_steady (b == 97) _ _ (gives_steady Agreed) (cond_steady (b == 115) _ _ (gives_steady Safe) (fault_steady Word)))

service_empty : service_at [] ≡ Err Truncated
unfolding service_at
service_empty = refl

pub service_spells : SpellsAlone service_at service_text
service_spells = grind (arith, service_is, service_again, first_break, service_steady, service_empty)
