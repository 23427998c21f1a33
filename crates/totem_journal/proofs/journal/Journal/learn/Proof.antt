-- The pen sees all entries.
use Rattle.totem_journal.proofs.Walks.{ℕ, List, [], ◌∷◌, refl, sym, proved, a_type, dnil, named, Val, vunit, vptr, inst_fn, SProp, emp, ftrue, fsep, flft, ‵, raw, ◌⊛◌, given, ◌$◌, ◌∵◌, !, qed, by, move, keep, drop, split, join, fsplit, fsplit3, fjoin, fjoin3, learn, rewrite, use2, feq_i, unit_lit, of_opd, returns, enter, alloc_all, pass_all, free_all, look_at, sets, fact, fact_i, tables, RattleType, owns, types_at, plain, mut_vals, mut_Tells, nothing, opens, closes, param, bounded, Stays, stay_ref, walk_of, Goes-ref, ends}
use mathlib.Core.List.{IsPrefix}
use Rattle.totem_journal.specs.Tokens.{journal_owns, pen_owns}
use Rattle.totem_journal.specs.contracts.journal.Journal as Journal
use Rattle.totem_journal.specs.contracts.journal.Pen as Pen
use Rattle.totem_journal.proofs.Steps as steps
use Rattle.totem_journal.specs.contracts.journal.Journal.learn.{ended, clauses}
use Rattle.totem_journal.specs.contracts.journal.Journal.learn.Key.{name as #self}
use Rattle.totem_journal.proofs.journal.Journal.learn.Statement.{statement}
use Rattle.totem_journal.proofs.journal.Journal.learn.Code as code

pub learn_spec : {M : Type 1} → statement M
learn_spec 𝓤 𝓛 𝓜 𝓡 wired E _ =
    let H = 𝓛.H in let 𝓣 = tables 𝓤 H 𝓜 𝓡 𝓡.env in let E' : RattleType = param 0 E in let cv = E'.coded in let En = ended E in
    let inst = bounded (a_type ∷ []) (E, tt) dnil in let fn = inst_fn inst code.function in let c = clauses E 𝓛 𝓜.mem 𝓡.returns in
    let Js : RattleType = Journal.the_row E' in let Ps : RattleType = Pen.the_row E' in
    let A : RattleType = Js in
    let hs : Stays En.signature.params En.kept = (stay_ref (0 ∷ []) tt (plain (λ _. A)), (stay_ref (1 ∷ []) tt (plain (λ _. Ps)), tt)) in
    proved 𝓛 En hs c 𝓜 𝓡 (Goes-ref 𝓛 3 0 tt (plain (λ _. A)), (Goes-ref 𝓛 3 1 tt (plain (λ _. Ps)), tt)) (#self inst) fn (code.unfolded 𝓤 H 𝓜 𝓡 wired (E, tt))
    (λ κs. (mut_vals, (mut_vals, tt))) (λ κs. (mut_Tells (named 0) κs.0 A, (mut_Tells (named 1) κs.1.0 Ps, tt))) (λ κs qs bounds a gh are.
    let r = a.0 in let s = a.1.0 in let j : A.Denot = r.now in let p : Ps.Denot = s.now in
    let u : Val = vptr r.ref_ptr.0 r.ref_ptr.1 in let v : Val = vptr s.ref_ptr.0 s.ref_ptr.1 in
    let y : (walk_of 𝓛 En hs c).Ghost = ((κs, qs, bounds, a, (u ∷ [], (v ∷ [], tt))), gh) in let Post : Val → SProp 𝓤 = (walk_of 𝓛 En hs c).post y in
    qed 𝓛 (((‵ (flft κs.0 qs.0) ⊛ ‵ (flft κs.1.0 qs.1.0) ⊛ ‵ (fsep (flft κs.1.1.0 qs.1.1.0) ftrue)) ⊛ ‵ (owns (types_at En.signature.params κs) a y.0.4)) ∷ raw (fact 𝓤 _) ∷ given _ (‵ ftrue) ∷ []) ∵ keep ! (2 ∷ 0 ∷ []) $ learn ! (λ asked. drop ! $
    split ! $ split ! $ move ! (2 ∷ []) $ fsplit ! $ fsplit3 ! $ drop ! $ move ! (2 ∷ []) $ fsplit ! $ fsplit3 ! $ move ! (7 ∷ []) $ split ! $ keep ! (6 ∷ 7 ∷ 8 ∷ 3 ∷ 4 ∷ 0 ∷ 1 ∷ []) $
    enter ! 𝓣.C 𝓣.Λ fn (u ∷ v ∷ []) Post $ alloc_all ! (λ l. pass_all ! refl ((tt, tt), ((tt, tt), tt)) $
    opens ! tt A r.ref_ptr.0 r.ref_ptr.1 (λ cs. move ! (5 ∷ 6 ∷ 7 ∷ []) $ opens ! tt Ps s.ref_ptr.0 s.ref_ptr.1 (λ ds.
    move ! (1 ∷ []) $ fsplit ! $ move ! (7 ∷ []) $ fsplit ! $ move ! (3 ∷ 1 ∷ []) $ rewrite ! 0 (λ (γ : ℕ). ‵ (pen_owns cv.code γ p.mark p.seen)) asked refl $ move ! (1 ∷ 0 ∷ []) $
    use2 𝓛 (given (IsPrefix p.seen j.entries) (‵ (journal_owns cv.code j.name j.entries) ⊛ ‵ (pen_owns cv.code j.name p.mark j.entries))) (steps.learns 𝓛 cv j.name p.mark j.entries p.seen) $ learn ! (λ seen. split ! $ move ! (1 ∷ []) $ rewrite ! 0 (λ (γ : ℕ). ‵ (pen_owns cv.code γ p.mark j.entries)) (sym asked) refl $
    move ! (3 ∷ 0 ∷ []) $ fjoin ! $ move ! (2 ∷ 1 ∷ []) $ fjoin ! $ move ! (2 ∷ 1 ∷ 3 ∷ 4 ∷ 5 ∷ []) $ closes ! tt Ps (record { marker = p.marker; journal = p.journal; mark = p.mark; seen = j.entries }) ds s.ref_ptr.0 s.ref_ptr.1 $
    move ! (4 ∷ 3 ∷ 5 ∷ 6 ∷ 7 ∷ []) $ closes ! tt A j cs r.ref_ptr.0 r.ref_ptr.1 $
    sets ! (of_opd ! (unit_lit !)) refl (tt, tt) $
    feq_i ! (List Val) (u ∷ []) (u ∷ []) refl $ fjoin3 ! $ move ! (2 ∷ 3 ∷ []) $ feq_i ! (List Val) (v ∷ []) (v ∷ []) refl $ fjoin3 ! $ nothing ! $ move ! (1 ∷ 0 ∷ []) $ fjoin ! $ move ! (1 ∷ 0 ∷ []) $ fjoin ! $
    move ! (2 ∷ 3 ∷ []) $ join ! $ move ! (2 ∷ 0 ∷ []) $ join ! $ feq_i ! (List Val) (vunit ∷ []) (vunit ∷ []) refl $
    returns ! (look_at ! 0 refl) $ free_all ! refl $ keep ! (1 ∷ 2 ∷ 0 ∷ []) $
    by ! (ends 𝓛 En hs c y vunit tt (j, ((record { marker = p.marker; journal = p.journal; mark = p.mark; seen = j.entries }), tt)) (tt, (tt, tt)) (fact_i 𝓤 _ (emp 𝓤) (refl, refl, refl, refl, seen)))))))))
