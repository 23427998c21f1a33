-- What a commit token lets a member do.
use Rattle.totem_weave.proofs.Common.{◌≡◌, ℕ, ◌==◌, ◌&&◌, ◌<◌, not, length, true, Option, None, Some, IfOk, is_some, nat_lt, sym, ap, ◌∙◌, RingName, CommitToken, Report, same_processes, CommitView}
use Rattle.std.proofs.lemmas.Bool.{and_parts, eqb-true, ltb-true, true≢false}
use Rattle.totem_packets.specs.OldRings.{same_ring, processes_of, obligation_union}
use Rattle.totem_member.specs.declared.views.CommitOut.{CommitOut}
use Rattle.totem_member.specs.declared.views.Act.{Act}
use Rattle.totem_member.specs.declared.views.Act.TheVariants.{Filled, Entered, Started}
use Rattle.totem_member.specs.Commits.{report_of, is_first, is_filled_ring, may_fill, may_enter, may_start, on_commit}
use Rattle.totem_weave.proofs.Parts.{if_either}

-- it fills the token of a ring above its number, and enters the ring whose token it filled last
abbrev pub Allows : ℕ → Option RingName → RingName → Act → Type 0
Allows seq filled ring Filled = seq < ring.seq
Allows seq filled ring Entered = filled ≡ Some ring
Allows seq filled ring Started = Unit {0}

abbrev pub AllowsThis : CommitView → CommitOut → Type 0
AllowsThis v out = Allows v.seq v.filled out.token.ring out.act

abbrev name_of : ℕ → ℕ → RingName
name_of seq rep = record { seq = seq; rep = rep }

same_name : (a b : RingName) → same_ring a b ≡ true → a ≡ b
same_name a b e =
    let both = and_parts (a.seq == b.seq) (a.rep == b.rep) e in
    ap (λ seq. name_of seq a.rep) (eqb-true a.seq b.seq both.0) ∙ ap (name_of b.seq) (eqb-true a.rep b.rep both.1)

is_its_ring : (filled : Option RingName) (ring : RingName) → is_filled_ring filled ring ≡ true → filled ≡ Some ring
is_its_ring None ring e = absurd (true≢false (sym e))
is_its_ring (Some r) ring e = let same : r ≡ ring = same_name r ring e in cc

fills_above : (t : CommitToken) (v : CommitView) → may_fill t v ≡ true → v.seq < t.ring.seq
fills_above t v e = ltb-true v.seq t.ring.seq (and_parts (is_first t.round && not (is_some (report_of t.members v.me))) (nat_lt v.seq t.ring.seq) e).1

enters_filled : (t : CommitToken) (v : CommitView) (report : Report) → may_enter t v report ≡ true → v.filled ≡ Some t.ring
enters_filled t v report e = is_its_ring v.filled t.ring (and_parts _ _ (and_parts _ _ (and_parts _ _ (and_parts _ _ e).0).0).0).0

pub commit_allows : (t : CommitToken) (v : CommitView) (report : Report) → IfOk (on_commit t v report) (AllowsThis v)
commit_allows t v report =
    if_either (AllowsThis v) (not (same_processes (processes_of t.members) v.members)) _ _ (λ others. tt) (λ ours.
    if_either (AllowsThis v) (may_fill t v) _ _ (λ fill. fills_above t v fill) (λ filled.
    if_either (AllowsThis v) (may_enter t v report) _ _ (λ enter.
    if_either (AllowsThis v) (nat_lt 32 (length (obligation_union report.ring t.members))) _ _ (λ many. tt) (λ few. enters_filled t v report enter)) (λ entered.
    if_either (AllowsThis v) (may_start t v) _ _ (λ start. tt) (λ stale. tt))))
