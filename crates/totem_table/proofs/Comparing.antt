-- What comparing the parts of two processes shows.
use Rattle.totem_table.proofs.Common.{◌≡◌, ℕ, true, false, ◌&&◌, ap, id_of, life_of}
use Rattle.std.proofs.Math.Dec.{eqb}
use Rattle.std.proofs.lemmas.Bool.{eq-eqb}

pub other_parts : (a b : ℕ) → a ≡ b → false ≡ (eqb (id_of a) (id_of b) && eqb (life_of a) (life_of b)) → ⊥
other_parts a b same e =
    let ids = eq-eqb (id_of a) (id_of b) (ap (λ (x : ℕ). id_of x) same) in
    let lives = eq-eqb (life_of a) (life_of b) (ap (λ (x : ℕ). life_of x) same) in
    absurd (let h : false ≡ true = rw (ids, lives) at e in cc)
