-- Beginnings of lists, and of their ghost values.
use Rattle.std.proofs.Common.{◌≡◌, List, [], ◌∷◌, ◌++◌, map, refl, ap}
use mathlib.Core.List.{IsPrefix, cons≢nil}
use base.Stored.{Gv, Coded}

module _ {E : Type 0} (cv : Coded E) where
  abbrev head : Gv → List Gv → Gv
  head d [] = d
  head d (g ∷ gs) = g

  abbrev tail : List Gv → List Gv
  tail [] = []
  tail (g ∷ gs) = gs

  uncoded : (xs ys : List E) (t : List Gv) → map cv.code xs ++ t ≡ map cv.code ys → IsPrefix xs ys
  uncoded [] ys t e = (ys, refl)
  uncoded (x ∷ xs) [] t e = absurd (cons≢nil e)
  uncoded (x ∷ xs) (y ∷ ys) t e = let r = uncoded xs ys t (ap tail e) in (r.0, λ i. cv.inj x y (ap (head (cv.code x)) e) i ∷ r.1 i)

  pub prefix_out : (xs ys : List E) → IsPrefix (map cv.code xs) (map cv.code ys) → IsPrefix xs ys
  prefix_out xs ys p = uncoded xs ys p.0 p.1

  joined_codes : (xs t : List E) → map cv.code xs ++ map cv.code t ≡ map cv.code (xs ++ t)
  joined_codes [] t = refl
  joined_codes (x ∷ xs) t = ap (λ (gs : List Gv). cv.code x ∷ gs) (joined_codes xs t)

  pub prefix_in : (xs t : List E) → IsPrefix (map cv.code xs) (map cv.code (xs ++ t))
  prefix_in xs t = (map cv.code t, joined_codes xs t)
