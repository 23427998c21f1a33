-- The words of the generator, one after another.
use Rattle.std.proofs.Common.{◌≡◌, ℕ, suc, ◌+◌, ◌-◌, ◌<◌, refl, ap, ◌∙◌, arith}
use Rattle.rand_pcg.specs.Lcg.{Lcg}
use Rattle.rand_pcg.specs.Pcg.{pcg32}
use Rattle.totem_net.specs.Words.{word_at}

-- the next word is the first one
pub first_word : (generator : Lcg) → word_at 0 generator ≡ (pcg32 generator).0
unfolding word_at
first_word generator = refl

-- a later word is one place earlier once a word is drawn
pub later_word : (n : ℕ) (generator : Lcg) → word_at (suc n) generator ≡ word_at n (pcg32 generator).1
unfolding word_at
later_word n generator = refl

-- a word before the last is drawn
pub word_less : (n i : ℕ) (generator : Lcg) → i < n → word_at (n - i) generator ≡ word_at (n - (i + 1)) (pcg32 generator).1
word_less n i generator below =
    let one : n - i ≡ suc (n - (i + 1)) = omega arith in
    ap (λ k. word_at k generator) one ∙ later_word (n - (i + 1)) generator

-- all words before the last are drawn
pub word_last : (n i : ℕ) (generator : Lcg) → i ≡ n → word_at (n - i) generator ≡ (pcg32 generator).0
word_last n i generator all =
    let none : n - i ≡ 0 = omega arith in
    ap (λ k. word_at k generator) none ∙ first_word generator
