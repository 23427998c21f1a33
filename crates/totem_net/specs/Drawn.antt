-- How many fates were drawn, and what they were (docs/PROTOCOL.md, "The network").
use Rattle.std.specs.Prelude.{◌==◌, if◌then◌else◌}
use Rattle.totem_net.specs.declared.copies.Fate.{Fate}
use Rattle.totem_net.specs.declared.drawn.Drawn.{Drawn}
use Rattle.totem_net.specs.Sums.{more}

abbrev pub no_fates : Drawn
no_fates = record { fates = 0; lost = 0; repeated = 0 }

-- one more fate
abbrev pub one_more : Drawn → Fate → Drawn
one_more drawn fate = record {
  fates = more drawn.fates 1;
  lost = more drawn.lost (if fate.copies == 0 then 1 else 0);
  repeated = more drawn.repeated (if fate.copies == 2 then 1 else 0);
}
