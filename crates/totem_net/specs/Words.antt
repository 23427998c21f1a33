-- The words of the generator, one after another.
use Rattle.std.specs.Prelude.{ℕ, zero, suc}
use Rattle.rand_core.specs.Pcg32Seed.{pcg32_seed}
use Rattle.rand_pcg.specs.Lcg.{Lcg}
use Rattle.rand_pcg.specs.Pcg.{pcg32, pcg32_of_seed}
use Rattle.totem_net.specs.Plans.{Odds}

-- the generator for a seed
abbrev pub begun_with : ℕ → Lcg
begun_with seed = pcg32_of_seed (pcg32_seed 16 seed)

-- the generator's n-th word, counted from 0
unfoldable pub word_at : ℕ → Lcg → ℕ
word_at zero generator = (pcg32 generator).0
word_at (suc n) generator = word_at n (pcg32 generator).1

-- what contracts see of the fates to come: the state of the generator, and the plan
pub record ToCome : Type 0 where
  pub generator : Lcg
  pub plan : Odds
