-- One entry more, which the pen has seen.
use Rattle.totem_journal.proofs.Walks.{ℕ, List, [], ◌∷◌, ◌++◌, refl, sym, proved, a_type, dnil, named, Val, vunit, vptr, inst_fn, SProp, emp, ftrue, fsep, flft, ‵, raw, ◌⊛◌, given, later, ◌$◌, ◌∵◌, !, qed, by, move, keep, drop, split, join, fsplit, fsplit3, fjoin, fjoin3, learn, rewrite, use2, await, feq_i, unit_lit, of_opd, returns, enter, alloc_all, pass_all, free_all, look_at, sets, fact, fact_i, tables, yes, RattleType, owns, types_at, plain, RefOf, mut_vals, mut_Tells, shr_vals, shr_Tells, nothing, opens, closes, param, bounded, Stays, stay_dropped, stay_ref, walk_of, Goes-dropped, Goes-ref, ends}
use mathlib.Core.List.{IsPrefix}
use Rattle.totem_journal.specs.Tokens.{journal_owns, pen_owns}
use Rattle.totem_journal.specs.contracts.journal.Journal as Journal
use Rattle.totem_journal.specs.contracts.journal.Pen as Pen
use Rattle.totem_journal.proofs.Steps as steps
use Rattle.totem_journal.specs.contracts.journal.Journal.note.{ended, clauses}
use Rattle.totem_journal.specs.contracts.journal.Journal.note.Key.{name as #self}
use Rattle.totem_journal.proofs.journal.Journal.note.Statement.{statement}
use Rattle.totem_journal.proofs.journal.Journal.note.Code as code

pub note_spec : {M : Type 1} → statement M
note_spec 𝓤 𝓛 𝓜 𝓡 wired E _ =
    let H = 𝓛.H in let 𝓣 = tables 𝓤 H 𝓜 𝓡 𝓡.env in let E' : RattleType = param 0 E in let cv = E'.coded in let En = ended E in
    let inst = bounded (a_type ∷ []) (E, tt) dnil in let fn = inst_fn inst code.function in let c = clauses E 𝓛 𝓜.mem 𝓡.returns in
    let Js : RattleType = Journal.the_row E' in let Ps : RattleType = Pen.the_row E' in
    let A : RattleType = Js in
    let hs : Stays En.signature.params En.kept = (stay_ref (0 ∷ []) tt (plain (λ _. A)), (stay_ref (1 ∷ []) tt (plain (λ _. Ps)), (stay_dropped (RefOf (2 ∷ []) tt (plain (λ _. E')) (λ _. tt)) yes, tt))) in
    proved 𝓛 En hs c 𝓜 𝓡 (Goes-ref 𝓛 4 0 tt (plain (λ _. A)), (Goes-ref 𝓛 4 1 tt (plain (λ _. Ps)), (Goes-dropped 𝓛 4 (RefOf (2 ∷ []) tt (plain (λ _. E')) (λ _. tt)) yes (λ κs x f. refl), tt))) (#self inst) fn (code.unfolded 𝓤 H 𝓜 𝓡 wired (E, tt))
    (λ κs. (mut_vals, (mut_vals, (shr_vals, tt)))) (λ κs. (mut_Tells (named 0) κs.0 A, (mut_Tells (named 1) κs.1.0 Ps, (shr_Tells (named 2) κs.1.1.0 E', tt)))) (λ κs qs bounds a gh are.
    let r = a.0 in let s = a.1.0 in let j : A.Denot = r.now in let p : Ps.Denot = s.now in
    let u : Val = vptr r.ref_ptr.0 r.ref_ptr.1 in let v : Val = vptr s.ref_ptr.0 s.ref_ptr.1 in let w : Val = vptr a.1.1.0.ref_ptr.0 a.1.1.0.ref_ptr.1 in
    let y : (walk_of 𝓛 En hs c).Ghost = ((κs, qs, bounds, a, (u ∷ [], (v ∷ [], (w ∷ [], tt)))), gh) in let Post : Val → SProp 𝓤 = (walk_of 𝓛 En hs c).post y in
    qed 𝓛 (((‵ (flft κs.0 qs.0) ⊛ ‵ (flft κs.1.0 qs.1.0) ⊛ ‵ (fsep (flft κs.1.1.0 qs.1.1.0) (fsep (flft κs.1.1.1.0 qs.1.1.1.0) ftrue))) ⊛ ‵ (owns (types_at En.signature.params κs) a y.0.4)) ∷ raw (fact 𝓤 _) ∷ given _ (‵ ftrue) ∷ []) ∵ keep ! (2 ∷ 0 ∷ []) $ learn ! (λ asked. drop ! $
    split ! $ split ! $ move ! (2 ∷ []) $ fsplit ! $ fsplit3 ! $ drop ! $ move ! (2 ∷ []) $ fsplit ! $ fsplit3 ! $ move ! (7 ∷ []) $ split ! $ keep ! (6 ∷ 7 ∷ 8 ∷ 3 ∷ 4 ∷ 0 ∷ 1 ∷ []) $
    enter ! 𝓣.C 𝓣.Λ fn (u ∷ v ∷ w ∷ []) Post $ alloc_all ! (λ l. pass_all ! refl ((tt, tt), ((tt, tt), ((tt, tt), tt))) $
    opens ! tt A r.ref_ptr.0 r.ref_ptr.1 (λ cs. move ! (5 ∷ 6 ∷ 7 ∷ []) $ opens ! tt Ps s.ref_ptr.0 s.ref_ptr.1 (λ ds.
    move ! (1 ∷ []) $ fsplit ! $ move ! (7 ∷ []) $ fsplit ! $ move ! (3 ∷ 1 ∷ []) $ rewrite ! 0 (λ (γ : ℕ). ‵ (pen_owns cv.code γ p.mark p.seen)) asked refl $ move ! (1 ∷ 0 ∷ []) $
    let e : ℕ × E'.Denot = (p.mark, a.1.1.0.now) in let more : List (ℕ × E'.Denot) = j.entries ++ e ∷ [] in
    use2 𝓛 (later (given (IsPrefix p.seen j.entries) (‵ (journal_owns cv.code j.name more) ⊛ ‵ (pen_owns cv.code j.name p.mark more)))) (steps.notes 𝓛 cv j.name p.mark j.entries p.seen e) $ await ! tt $ learn ! (λ seen. split ! $ move ! (1 ∷ []) $ rewrite ! 0 (λ (γ : ℕ). ‵ (pen_owns cv.code γ p.mark more)) (sym asked) refl $
    move ! (3 ∷ 0 ∷ []) $ fjoin ! $ move ! (2 ∷ 1 ∷ []) $ fjoin ! $ move ! (2 ∷ 1 ∷ 3 ∷ 4 ∷ 5 ∷ []) $ closes ! tt Ps (record { marker = p.marker; journal = p.journal; mark = p.mark; seen = more }) ds s.ref_ptr.0 s.ref_ptr.1 $
    move ! (4 ∷ 3 ∷ 5 ∷ 6 ∷ 7 ∷ []) $ closes ! tt A (record { marker = j.marker; name = j.name; entries = more }) cs r.ref_ptr.0 r.ref_ptr.1 $
    sets ! (of_opd ! (unit_lit !)) refl (tt, tt) $
    feq_i ! (List Val) (u ∷ []) (u ∷ []) refl $ fjoin3 ! $ move ! (2 ∷ 3 ∷ []) $ feq_i ! (List Val) (v ∷ []) (v ∷ []) refl $ fjoin3 ! $ nothing ! $ nothing ! $ fjoin ! $ move ! (1 ∷ 0 ∷ []) $ fjoin ! $ move ! (1 ∷ 0 ∷ []) $ fjoin ! $
    move ! (2 ∷ 3 ∷ []) $ join ! $ move ! (2 ∷ 0 ∷ []) $ join ! $ feq_i ! (List Val) (vunit ∷ []) (vunit ∷ []) refl $
    returns ! (look_at ! 0 refl) $ free_all ! refl $ keep ! (1 ∷ 2 ∷ 0 ∷ []) $
    by ! (ends 𝓛 En hs c y vunit tt ((record { marker = j.marker; name = j.name; entries = more }), ((record { marker = p.marker; journal = p.journal; mark = p.mark; seen = more }), (tt, tt))) (tt, (tt, (tt, tt))) (fact_i 𝓤 _ (emp 𝓤) (refl, refl, refl, refl, refl, seen)))))))))
