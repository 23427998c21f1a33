-- What the nodes of a run have logged, counted (docs/PROTOCOL.md, "A run in threads").
use Rattle.totem_net.specs.declared.progress.Logged.{Logged}
use Rattle.totem_net.specs.Sums.{more}

abbrev pub nothing : Logged
nothing = record { deliveries = 0; configurations = 0 }

-- the sums of both counts
abbrev pub together : Logged → Logged → Logged
together a b = record {
  deliveries = more a.deliveries b.deliveries;
  configurations = more a.configurations b.configurations;
}
