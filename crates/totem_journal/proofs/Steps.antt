-- The ghost side of what journals and pens do. Assumes `Logic`.
use Rattle.std.proofs.Common.{◌≡◌, ℕ, List, [], ◌∷◌, ◌++◌, map, refl, sym}
use mathlib.Core.List.{IsPrefix}
use mathlib.Core.Option.{some}
use native.Mathlib.Decide.{ℕ_discrete}
use seplogic.Ra.Pcs.{OpDef-of_mem}
use seplogic.Ra.Ura.{Ura}
use base.Fraction.{full_share}
use base.FractionLaws.{not-OpDef-full_share}
use base.Stored.{Gv, Coded, coded_ℕ, coded×}
use base.Logic.{SProp, ent, sep, ex, guard, emp, via, guard_i}
use base.Fml.{Fml, fsep}
use base.Growing.{growing, latest, at_least}
use types.Logic.{Logic, sem}
use types.Owned.{basic, own_sum}
use types.Growing.{latest_new, latest_grows, latest_shows, latest_bounds}
use types.Kit.{‵, ◌⊛◌, some as any, given, later, ◌$◌, ◌∵◌, !, qed, by, move, keep, split, fsplit, fjoin, pick, learn, show, check, frame, done, use0, use1, use2, updating, await, now, rewrite}
use Rattle.totem_journal.specs.Tokens.{logs, noted, journal_owns, pen_owns}
use Rattle.totem_journal.proofs.Prefixes.{prefix_out, prefix_in}

module _ {M : Type 1} {𝓤 : Ura M} (𝓛 : Logic 𝓤) {E : Type 0} (cv : Coded E) where
  open 𝓛 use {H}

  abbrev Pr : Type 2
  Pr = SProp 𝓤

  abbrev ◌⊢◌ : Pr → Pr → Type 1
  P ⊢ Q = ent 𝓤 P Q

  abbrev ◌∗◌ : Pr → Pr → Pr
  P ∗ Q = sep 𝓤 P Q

  abbrev ⟦◌⟧ : Fml → Pr
  ⟦ P ⟧ = sem 𝓛 P

  infix 26 ◌⊢◌
  infixr 35 ◌∗◌
  abbrev Entry : Type 0
  Entry = ℕ × E

  abbrev values : List Entry → List Gv
  values = map (noted cv.code)

  abbrev entry_coded : Coded Entry
  entry_coded = coded× coded_ℕ cv

  abbrev top : ℕ → List Entry → Fml
  top γ es = latest logs full_share γ (values es)

  abbrev had : ℕ → List Entry → Fml
  had γ es = at_least logs γ (values es)

  abbrev own_mark : ℕ → Fml
  own_mark m = latest logs full_share m []

  abbrev J : ℕ → List Entry → Fml
  J γ es = journal_owns cv.code γ es

  abbrev P : ℕ → ℕ → List Entry → Fml
  P γ m es = pen_owns cv.code γ m es

  pub begins : emp 𝓤 ⊢ H.⇛ (ex 𝓤 (λ (γ : ℕ). ⟦ J γ [] ⟧))
  unfolding journal_owns
  begins = via 𝓤 _ (latest_new logs 𝓛 []) (basic 𝓛 _)

  seen_of : (γ : ℕ) (es : List Entry) → ⟦ top γ es ⟧ ⊢ ⟦ top γ es ⟧ ∗ ⟦ had γ es ⟧
  seen_of γ es = latest_shows logs 𝓛 full_share γ (values es) (values es) (logs.same (values es))

  under : (γ : ℕ) (es seen : List Entry) → ⟦ top γ es ⟧ ∗ ⟦ had γ seen ⟧ ⊢ guard 𝓤 (IsPrefix seen es) (⟦ top γ es ⟧ ∗ ⟦ had γ seen ⟧)
  under γ es seen = qed 𝓛 (‵ (top γ es) ∷ ‵ (had γ seen) ∷ []) ∵ use2 𝓛 (given (IsPrefix (values seen) (values es)) (‵ (top γ es) ⊛ ‵ (had γ seen))) (latest_bounds logs 𝓛 full_share γ (values es) (values seen)) $
      learn ! (λ p. check ! (prefix_out entry_coded seen es p) $ done !)

  pub pens : (γ : ℕ) (es : List Entry) → ⟦ J γ es ⟧ ⊢ H.⇛ (ex 𝓤 (λ (m : ℕ). ⟦ J γ es ⟧ ∗ ⟦ P γ m es ⟧))
  unfolding journal_owns pen_owns
  pens γ es = let Z : ℕ → Pr = λ m. ⟦ top γ es ⟧ ∗ ⟦ fsep (had γ es) (own_mark m) ⟧ in qed 𝓛 (‵ (top γ es) ∷ []) ∵ updating ! $ use0 𝓛 (later (any (λ (m : ℕ). ‵ (own_mark m)))) (via 𝓤 _ (latest_new logs 𝓛 []) (basic 𝓛 _)) $ await ! tt $ pick ! (λ m.
      move ! (1 ∷ []) $ use1 𝓛 (‵ (top γ es) ⊛ ‵ (had γ es)) (seen_of γ es) $ split ! $ now ! $ show ! Z m $ frame ! $ fjoin ! $ done !)

  pub notes : (γ m : ℕ) (es seen : List Entry) (e : Entry) → ⟦ J γ es ⟧ ∗ ⟦ P γ m seen ⟧ ⊢ H.⇛ (guard 𝓤 (IsPrefix seen es) (⟦ J γ (es ++ e ∷ []) ⟧ ∗ ⟦ P γ m (es ++ e ∷ []) ⟧))
  unfolding journal_owns pen_owns
  notes γ m es seen e = let more : List Entry = es ++ e ∷ [] in
      qed 𝓛 (‵ (top γ es) ∷ ‵ (fsep (had γ seen) (own_mark m)) ∷ []) ∵ updating ! $ move ! (1 ∷ []) $ fsplit ! $ move ! (2 ∷ 0 ∷ []) $
      use2 𝓛 (given (IsPrefix seen es) (‵ (top γ es) ⊛ ‵ (had γ seen))) (under γ es seen) $ learn ! (λ p. split ! $
      use1 𝓛 (later (‵ (top γ more))) (via 𝓤 _ (latest_grows logs 𝓛 γ (values es) (values more) (prefix_in entry_coded es (e ∷ []))) (basic 𝓛 _)) $ await ! tt $
      use1 𝓛 (‵ (top γ more) ⊛ ‵ (had γ more)) (seen_of γ more) $ split ! $ now ! $ check ! p $ frame ! $ keep ! (0 ∷ 2 ∷ []) $ fjoin ! $ done !)

  pub looks : (γ m : ℕ) (es seen : List Entry) → ⟦ J γ es ⟧ ∗ ⟦ P γ m seen ⟧ ⊢ guard 𝓤 (IsPrefix seen es) (⟦ J γ es ⟧ ∗ ⟦ P γ m seen ⟧)
  unfolding journal_owns pen_owns
  looks γ m es seen = qed 𝓛 (‵ (top γ es) ∷ ‵ (fsep (had γ seen) (own_mark m)) ∷ []) ∵ move ! (1 ∷ []) $ fsplit ! $ move ! (2 ∷ 0 ∷ []) $
      use2 𝓛 (given (IsPrefix seen es) (‵ (top γ es) ⊛ ‵ (had γ seen))) (under γ es seen) $ learn ! (λ p. split ! $ check ! p $ frame ! $ fjoin ! $ done !)

  pub learns : (γ m : ℕ) (es seen : List Entry) → ⟦ J γ es ⟧ ∗ ⟦ P γ m seen ⟧ ⊢ guard 𝓤 (IsPrefix seen es) (⟦ J γ es ⟧ ∗ ⟦ P γ m es ⟧)
  unfolding journal_owns pen_owns
  learns γ m es seen = qed 𝓛 (‵ (top γ es) ∷ ‵ (fsep (had γ seen) (own_mark m)) ∷ []) ∵ move ! (1 ∷ []) $ fsplit ! $ move ! (2 ∷ 0 ∷ []) $
      use2 𝓛 (given (IsPrefix seen es) (‵ (top γ es) ⊛ ‵ (had γ seen))) (under γ es seen) $ learn ! (λ p. split ! $ keep ! (0 ∷ 2 ∷ []) $
      use1 𝓛 (‵ (top γ es) ⊛ ‵ (had γ es)) (seen_of γ es) $ split ! $ check ! p $ frame ! $ fjoin ! $ done !)

  two_marks : (m : ℕ) (Z : Pr) → ⟦ own_mark m ⟧ ∗ ⟦ own_mark m ⟧ ⊢ Z
  unfolding latest
  two_marks m Z = own_sum 𝓛 (growing logs) m (some full_share, []) (some full_share, []) Z (λ c d. absurd (not-OpDef-full_share full_share (OpDef-of_mem (growing logs).op {a = (some full_share, [])} {b = (some full_share, [])} {c = c} d).1.0.0))

  pub apart : (γ δ m n : ℕ) (xs ys : List Entry) → ⟦ P γ m xs ⟧ ∗ ⟦ P δ n ys ⟧ ⊢ guard 𝓤 (m ≡ n → ⊥) (⟦ P γ m xs ⟧ ∗ ⟦ P δ n ys ⟧)
  unfolding pen_owns
  apart γ δ m n xs ys = elim (ℕ_discrete m n) [
    | yes e ↦ qed 𝓛 (‵ (fsep (had γ xs) (own_mark m)) ∷ ‵ (fsep (had δ ys) (own_mark n)) ∷ []) ∵ fsplit ! $ move ! (2 ∷ []) $ fsplit ! $ keep ! (1 ∷ 3 ∷ []) $ rewrite ! 0 (λ (k : ℕ). ‵ (own_mark k)) (sym e) refl $
        by ! (two_marks m (guard 𝓤 (m ≡ n → ⊥) (⟦ fsep (had γ xs) (own_mark m) ⟧ ∗ ⟦ fsep (had δ ys) (own_mark n) ⟧)))
    | no other ↦ guard_i 𝓤 (m ≡ n → ⊥) (⟦ fsep (had γ xs) (own_mark m) ⟧ ∗ ⟦ fsep (had δ ys) (own_mark n) ⟧) other
  ]
