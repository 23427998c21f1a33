-- A new journal has a name of its own.
use Rattle.totem_journal.proofs.Walks.{ℕ, [], ◌∷◌, refl, proved, a_type, dnil, Val, inst_fn, SProp, emp, Fml, ftrue, fsep, flft, ‵, raw, ◌⊛◌, some, later, ◌$◌, ◌∵◌, !, qed, by, keep, split, fjoin, pick, use0, await, no_more, and_then, returns, enter, alloc_all, pass_all, free_all, look_at, get, sets, agg, fact_i, tables, RattleType, owns, types_at, nothing, param, bounded, Stays, walk_of, token, Token, token_made, ends}
use Rattle.totem_journal.specs.Tokens.{journal_owns}
use Rattle.totem_journal.specs.contracts.journal.Journal as Journal
use Rattle.totem_journal.specs.contracts.journal.Pen as Pen
use Rattle.totem_journal.proofs.Steps as steps
use Rattle.totem_journal.specs.contracts.journal.Journal.new.{ended, clauses}
use Rattle.totem_journal.specs.contracts.journal.Journal.new.Key.{name as #self}
use Rattle.totem_journal.proofs.journal.Journal.new.Statement.{statement}
use Rattle.totem_journal.proofs.journal.Journal.new.Code as code

pub new_spec : {M : Type 1} → statement M
new_spec 𝓤 𝓛 𝓜 𝓡 wired E _ =
    let H = 𝓛.H in let 𝓣 = tables 𝓤 H 𝓜 𝓡 𝓡.env in let E' : RattleType = param 0 E in let cv = E'.coded in let En = ended E in
    let inst = bounded (a_type ∷ []) (E, tt) dnil in let fn = inst_fn inst code.function in let c = clauses E 𝓛 𝓜.mem 𝓡.returns in
    let Js : RattleType = Journal.the_row E' in let Ps : RattleType = Pen.the_row E' in
    let hs : Stays En.signature.params En.kept = tt in
    proved 𝓛 En hs c 𝓜 𝓡 tt (#self inst) fn (code.unfolded 𝓤 H 𝓜 𝓡 wired (E, tt))
    (λ κs. tt) (λ κs. tt) (λ κs qs bounds a gh are.
    let y : (walk_of 𝓛 En hs c).Ghost = ((κs, qs, bounds, a, tt), gh) in let Post : Val → SProp 𝓤 = (walk_of 𝓛 En hs c).post y in
    let toks : Fml = fsep (flft κs.0 qs.0) ftrue in
    qed 𝓛 ((‵ toks ⊛ ‵ (owns (types_at En.signature.params κs) a y.0.4)) ∷ raw ((c κs a).requires gh) ∷ []) ∵ keep ! (0 ∷ []) $ split ! $ keep ! (0 ∷ []) $
    enter ! 𝓣.C 𝓣.Λ fn [] Post $ alloc_all ! (λ l. pass_all ! refl tt $
    use0 𝓛 (later (some (λ (γ : ℕ). ‵ (journal_owns cv.code γ [])))) (steps.begins 𝓛 cv) $ await ! tt $ pick ! (λ γ.
    use0 𝓛 (‵ ((Token E').own_val (record {}, tt) (token ∷ []))) (token_made E' 𝓛) $ fjoin ! $
    sets ! (agg ! (no_more !)) refl (tt, tt) $ sets ! (agg ! (and_then ! (get ! refl) (no_more !))) refl (tt, (tt, tt)) $ nothing ! $
    returns ! (look_at ! 0 refl) $ free_all ! refl $ keep ! (2 ∷ 0 ∷ 1 ∷ []) $
    by ! (ends 𝓛 En hs c y token (record { marker = record {}; name = γ; entries = [] }) tt tt (fact_i 𝓤 _ (emp 𝓤) refl)))))
