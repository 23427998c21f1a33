-- A new pen has a mark of its own, and has seen all entries.
use Rattle.totem_journal.proofs.Walks.{ℕ, List, [], ◌∷◌, refl, proved, a_type, dnil, named, Val, vptr, inst_fn, SProp, emp, ftrue, flft, ‵, raw, ◌⊛◌, some, later, ◌$◌, ◌∵◌, !, qed, by, move, keep, split, join, fsplit, fsplit3, fjoin, fjoin3, pick, use0, use1, await, feq_i, no_more, and_then, returns, enter, alloc_all, pass_all, free_all, look_at, get, sets, agg, fact_i, tables, RattleType, owns, types_at, plain, mut_vals, mut_Tells, nothing, opens, closes, param, bounded, Stays, stay_ref, walk_of, Goes-ref, token, Token, token_made, ends}
use Rattle.totem_journal.specs.Tokens.{journal_owns, pen_owns}
use Rattle.totem_journal.specs.contracts.journal.Journal as Journal
use Rattle.totem_journal.specs.contracts.journal.Pen as Pen
use Rattle.totem_journal.proofs.Steps as steps
use Rattle.totem_journal.specs.contracts.journal.Journal.pen.{ended, clauses}
use Rattle.totem_journal.specs.contracts.journal.Journal.pen.Key.{name as #self}
use Rattle.totem_journal.proofs.journal.Journal.pen.Statement.{statement}
use Rattle.totem_journal.proofs.journal.Journal.pen.Code as code

pub pen_spec : {M : Type 1} → statement M
pen_spec 𝓤 𝓛 𝓜 𝓡 wired E _ =
    let H = 𝓛.H in let 𝓣 = tables 𝓤 H 𝓜 𝓡 𝓡.env in let E' : RattleType = param 0 E in let cv = E'.coded in let En = ended E in
    let inst = bounded (a_type ∷ []) (E, tt) dnil in let fn = inst_fn inst code.function in let c = clauses E 𝓛 𝓜.mem 𝓡.returns in
    let Js : RattleType = Journal.the_row E' in let Ps : RattleType = Pen.the_row E' in
    let hs : Stays En.signature.params En.kept = (stay_ref (0 ∷ []) tt (plain (λ _. Js)), tt) in
    proved 𝓛 En hs c 𝓜 𝓡 (Goes-ref 𝓛 2 0 tt (plain (λ _. Js)), tt) (#self inst) fn (code.unfolded 𝓤 H 𝓜 𝓡 wired (E, tt))
    (λ κs. (mut_vals, tt)) (λ κs. (mut_Tells (named 0) κs.0 Js, tt)) (λ κs qs bounds a gh are.
    let b : ℕ = a.0.ref_ptr.0 in let o : ℕ = a.0.ref_ptr.1 in let j : Js.Denot = a.0.now in
    let y : (walk_of 𝓛 En hs c).Ghost = ((κs, qs, bounds, a, (vptr b o ∷ [], tt)), gh) in let Post : Val → SProp 𝓤 = (walk_of 𝓛 En hs c).post y in
    qed 𝓛 (((‵ (flft κs.0 qs.0) ⊛ ‵ (flft κs.1.0 qs.1.0) ⊛ ‵ ftrue) ⊛ ‵ (owns (types_at En.signature.params κs) a y.0.4)) ∷ raw ((c κs a).requires gh) ∷ []) ∵ keep ! (0 ∷ []) $ split ! $ split ! $ move ! (2 ∷ []) $ fsplit ! $ fsplit3 ! $
    keep ! (1 ∷ 2 ∷ 4 ∷ 5 ∷ []) $ enter ! 𝓣.C 𝓣.Λ fn (vptr b o ∷ []) Post $ alloc_all ! (λ l. pass_all ! refl ((tt, tt), tt) $ opens ! tt Js b o (λ ts. move ! (1 ∷ []) $ fsplit ! $ move ! (1 ∷ []) $
    use1 𝓛 (later (some (λ (m : ℕ). ‵ (journal_owns cv.code j.name j.entries) ⊛ ‵ (pen_owns cv.code j.name m j.entries)))) (steps.pens 𝓛 cv j.name j.entries) $ await ! tt $ pick ! (λ m. split ! $
    move ! (2 ∷ 0 ∷ []) $ fjoin ! $ move ! (2 ∷ 0 ∷ 3 ∷ 4 ∷ 5 ∷ []) $ closes ! tt Js j ts b o $
    feq_i ! (List Val) (vptr b o ∷ []) (vptr b o ∷ []) refl $ fjoin3 ! $ nothing ! $ move ! (1 ∷ 0 ∷ []) $ fjoin ! $ move ! (1 ∷ 3 ∷ []) $ join ! $
    move ! (2 ∷ []) $ use0 𝓛 (‵ ((Token E').own_val (record {}, tt) (token ∷ []))) (token_made E' 𝓛) $ fjoin ! $
    sets ! (agg ! (no_more !)) refl (tt, tt) $ sets ! (agg ! (and_then ! (get ! refl) (no_more !))) refl (tt, (tt, tt)) $
    returns ! (look_at ! 0 refl) $ free_all ! refl $ keep ! (1 ∷ 2 ∷ 0 ∷ []) $
    by ! (ends 𝓛 En hs c y token (record { marker = record {}; journal = j.name; mark = m; seen = j.entries }) (j, tt) (tt, tt) (fact_i 𝓤 _ (emp 𝓤) (refl, refl, refl, refl)))))))
