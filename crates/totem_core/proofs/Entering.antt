-- A member that enters a new ring may begin its recovery.
use Rattle.totem_core.proofs.Common.{◌≡◌, ℕ, ◌==◌, ◌&&◌, ◌||◌, ◌≤◌, not, List, [], ◌∷◌, length, map, filter, Bool, true, false, cond, Option, None, Some, refl, sym, ap, ◌∙◌, subst, if◌then◌else◌, and_parts, true≢false, CommitToken, Report, has, is_least, same_processes, Ring, CommitView, report_of, is_report, is_first, may_enter, IsReady}
use Rattle.std.proofs.Math.Bool.{or-true}
use Rattle.totem_packets.specs.declared.commit_member.CommitMember.{CommitMember}
use Rattle.totem_packets.specs.OldRings.{same_ring, reports_ring, transitional_set, obligation_union}
use Rattle.totem_packets.specs.declared.commit.Round.TheVariants.{Second}

-- who reported this reports its ring
reports_its_ring : (reported : Option Report) (r : Report) → is_report reported r ≡ true → reports_ring r.ring reported ≡ true
reports_its_ring None r e = absurd (true≢false (sym e))
reports_its_ring (Some own) r e =
    let ring = (own.life == r.life) && same_ring own.ring r.ring in
    (and_parts (own.life == r.life) (same_ring own.ring r.ring) (and_parts ring (own.aru == r.aru) (and_parts (ring && (own.aru == r.aru)) (own.delivered == r.delivered) (and_parts _ (same_processes own.obligation r.obligation) e).0).0).0).1

-- with one more member: whether it is this process, and whether it comes from this ring
one_member : (m : CommitMember) (ms : List CommitMember) (p : ℕ) (r : Report) (same from : Bool) → (m.proc == p) ≡ same → reports_ring r.ring m.report ≡ from
    → (is_report (report_of ms p) r ≡ true → has (transitional_set r.ring ms) p ≡ true)
    → is_report (cond same m.report (report_of ms p)) r ≡ true
    → has (map (λ n. n.proc) (cond from (m ∷ filter (λ n. reports_ring r.ring n.report) ms) (filter (λ n. reports_ring r.ring n.report) ms))) p ≡ true
one_member m ms p r true true is reports others e = ap (λ b. b || has (transitional_set r.ring ms) p) is
one_member m ms p r true false is reports others e = absurd (true≢false (sym (reports_its_ring m.report r e) ∙ reports))
one_member m ms p r false true is reports others e = ap (λ b. (m.proc == p) || b) (others e) ∙ or-true (m.proc == p)
one_member m ms p r false false is reports others e = others e

-- a member that reported this comes from its ring
pub comes_from : (ms : List CommitMember) (p : ℕ) (r : Report) → is_report (report_of ms p) r ≡ true → has (transitional_set r.ring ms) p ≡ true
comes_from [] p r e = absurd (true≢false (sym e))
comes_from (m ∷ ms) p r e = one_member m ms p r (m.proc == p) (reports_ring r.ring m.report) refl refl (comes_from ms p r) e

-- who enters may begin its recovery
pub enters_ready : (t : CommitToken) (v : CommitView) (report : Report) (prev : Ring) (me : ℕ)
    → (may_enter t v report ≡ true) × (length (obligation_union report.ring t.members) ≤ 32) → v.me ≡ me → report.ring ≡ prev.ring → IsReady me prev (record t { round = Second })
enters_ready t v report prev me entered me_is ring_is =
    let reported = (and_parts _ (is_report (report_of t.members v.me) report) (and_parts _ (if is_least v.members v.me then is_first t.round else not (is_first t.round)) entered.0).0).1 in
    record {
      mine = ap (λ r. has (transitional_set r t.members) me) (sym ring_is) ∙ ap (has (transitional_set report.ring t.members)) (sym me_is) ∙ comes_from t.members v.me report reported;
      few = subst (λ r. length (obligation_union r t.members) ≤ 32) ring_is entered.1;
    }
