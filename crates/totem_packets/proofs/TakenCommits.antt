-- A commit token that is read is spelled so, and what is spelled so is read again.
use Rattle.totem_packets.proofs.Common.{◌==◌, IfSome, ◌≡◌, ℕ, ◌^◌, ◌<◌, List, ◌++◌, length, false, Option, Some, None, Ok, true, refl, append_assoc, append-nil, arith, w8, w16, w32, flat_map, eqb-false, ne_eqb, All-from_recursion, recursion_from_All, IsLife, IsReport, IsCommitMember, IsCommitMembers, reported_life, has_later_life, IsCommitToken}
use Rattle.totem_packets.specs.declared.commit.CommitToken.{CommitToken}
use Rattle.totem_packets.specs.declared.commit.Round.{Round}
use Rattle.totem_packets.specs.declared.commit.Round.TheVariants.{First, Second}
use Rattle.totem_packets.specs.declared.commit_member.CommitMember.{CommitMember}
use Rattle.totem_packets.specs.declared.commit_member.Report.{Report}
use Rattle.totem_packets.specs.declared.fault.PacketFault.TheVariants.{Range}
use Rattle.totem_packets.specs.declared.lives.Lives.{Lives}
use Rattle.totem_packets.specs.declared.lives.Lives.TheVariants.{Untold, Told}
use Rattle.totem_packets.specs.Grammar.{round_at, life_at, report_at, filled_at, maybe_report_at, member_at, members_at, commit_at, later_commit_at}
use Rattle.totem_packets.specs.Spelling.{number_bytes, ring_bytes, list_bytes, life_bytes, report_bytes, member_bytes, round_number, commit_bytes}
use Rattle.totem_packets.proofs.Chains.{pairs_rise, rise_from_pairs}
use Rattle.totem_packets.proofs.GivenLives.{GivesLife, GivesLives, gives_first, gives_each}
use Rattle.totem_packets.proofs.Taken.{IsTaking, Spells, gives_taking, fault_taking, bind_taking, cond_taking, kind_or, weaker_taking, wide8, wide32, kind_taking, kind_again, number_taking, number_again, process_taking, process_again, above_taking, above_again, wide16, up_to_taking, up_to_again, ring_taking, ring_again}
use Rattle.totem_packets.proofs.TakenLists.{IsReading, row_taking, row_again, processes_taking, processes_again}

-- ---- rounds

round_taking : IsTaking (Spells (λ r. number_bytes w8 (round_number r)) (λ r. Unit {0})) round_at
unfolding round_at
round_taking = bind_taking _ _ kind_taking (λ kind f.
    kind_or 1 kind _ _ (gives_taking First (append-nil _, tt)) (
    kind_or 2 kind _ _ (gives_taking Second (append-nil _, tt)) (fault_taking Range)))

round_again : (r : Round) (rest : List ℕ) → round_at (number_bytes w8 (round_number r) ++ rest) ≡ Ok (r, rest)
unfolding round_at
round_again First rest = rw (kind_again 1 rest (omega arith)) refl
round_again Second rest = rw (kind_again 2 rest (omega arith)) refl

-- ---- lives

-- a life that was read, or the first where reports carry no lives
life_taking : (lives : Lives) → IsTaking (Spells (life_bytes lives) (λ life. IsLife life × GivesLife lives life)) (life_at lives)
unfolding life_at
life_taking Untold = gives_taking 1 (refl, (record { positive = omega arith; small = omega arith }, refl))
life_taking Told = weaker_taking _ process_taking (λ life text f. (f.0, (f.1, tt)))

life_again : (lives : Lives) (life : ℕ) (rest : List ℕ) → IsLife life → GivesLife lives life → life_at lives (life_bytes lives life ++ rest) ≡ Ok (life, rest)
unfolding life_at
life_again Untold life rest fits given = rw given refl
life_again Told life rest fits given = process_again life rest fits

-- ---- reports

-- the fields of a report
abbrev fields_of : Lives → Report → List ℕ
fields_of lives r = life_bytes lives r.life ++ (ring_bytes r.ring ++ (number_bytes w32 r.aru ++ (number_bytes w32 r.delivered ++ list_bytes w16 r.obligation)))

report_taking : (lives : Lives) → IsTaking (Spells (fields_of lives) (λ r. IsReport r × GivesLife lives r.life)) (report_at lives)
unfolding report_at
report_taking lives =
    bind_taking _ _ (life_taking lives) (λ life f0.
    bind_taking _ _ ring_taking (λ ring f1.
    bind_taking _ _ (number_taking w32 (2 ^ 32) wide32) (λ aru f2.
    bind_taking _ _ (number_taking w32 (2 ^ 32) wide32) (λ delivered f3.
    bind_taking _ _ processes_taking (λ obligation f4.
    gives_taking _ (simp append-nil, (record { life = f0.0; ring = f1; aru = f2; delivered = f3; obligation = f4 }, f0.1)))))))

report_again : (lives : Lives) (r : Report) (rest : List ℕ) → IsReport r → GivesLife lives r.life → report_at lives (life_bytes lives r.life ++ (ring_bytes r.ring ++ (number_bytes w32 r.aru ++ (number_bytes w32 r.delivered ++ (list_bytes w16 r.obligation ++ rest))))) ≡ Ok (r, rest)
unfolding report_at
report_again lives r rest fits given = grind (arith, life_again, ring_again, number_again, wide32, processes_again)

maybe_report_taking : (lives : Lives) → IsTaking (Spells (report_bytes lives) (λ o. IfSome o IsReport × GivesLife lives (reported_life o))) (maybe_report_at lives)
unfolding maybe_report_at filled_at report_bytes
maybe_report_taking lives = bind_taking _ _ kind_taking (λ kind f.
    kind_or 0 kind _ _ (gives_taking None (append-nil _, (tt, gives_first lives))) (
    kind_or 1 kind _ _ (bind_taking _ _ (report_taking lives) (λ r fits. gives_taking (Some r) (simp (append_assoc, append-nil), fits))) (
    fault_taking Range)))

maybe_report_again : (lives : Lives) (o : Option Report) (rest : List ℕ) → IfSome o IsReport → GivesLife lives (reported_life o) → maybe_report_at lives (report_bytes lives o ++ rest) ≡ Ok (o, rest)
unfolding maybe_report_at filled_at report_bytes
maybe_report_again lives None rest fits given = rw (kind_again 0 rest (omega arith)) refl
maybe_report_again lives (Some r) rest fits given = simp append_assoc (rw (kind_again 1 _ (omega arith), report_again lives r rest fits given) refl)

-- ---- members

-- a member that can be read
record IsGiven (lives : Lives) (m : CommitMember) : Type 0 where
  fits : IsCommitMember m
  given : GivesLife lives (reported_life m.report)

member_taking : (lives : Lives) (last : ℕ) → IsTaking (Spells (member_bytes lives) (λ m. IsGiven lives m × (last < m.proc))) (member_at lives last)
unfolding member_at member_bytes
member_taking lives last =
    bind_taking _ _ (above_taking w16 (2 ^ 16) wide16 last) (λ proc f1.
    bind_taking _ _ (maybe_report_taking lives) (λ report f2.
    gives_taking _ (simp append-nil, (record { fits = record { proc = record { positive = omega (arith, f1.1); small = omega (arith, f1.0) }; report = f2.0 }; given = f2.1 }, f1.1))))

member_again : (lives : Lives) (last : ℕ) (m : CommitMember) (rest : List ℕ) → IsGiven lives m → last < m.proc → member_at lives last (member_bytes lives m ++ rest) ≡ Ok (m, rest)
unfolding member_at member_bytes
member_again lives last m rest is above =
    simp append_assoc (rw (above_again w16 (2 ^ 16) wide16 last m.proc _ (omega (arith, is.fits.proc.small)) above, maybe_report_again lives m.report rest is.fits.report is.given) refl)

member_reading : (lives : Lives) → IsReading (member_at lives) (λ m. m.proc) (member_bytes lives) (IsGiven lives)
member_reading lives = record { takes = member_taking lives; again = member_again lives }

members_taking : (lives : Lives) → IsTaking (Spells (λ ms. number_bytes w8 (length ms) ++ flat_map (member_bytes lives) ms) (λ ms. IsCommitMembers ms × GivesLives lives ms)) (members_at lives)
unfolding members_at
members_taking lives = bind_taking _ _ (up_to_taking w8 (2 ^ 8) wide8 32) (λ count few.
    cond_taking _ _ _ (λ test. fault_taking Range) (λ test.
    weaker_taking _ (row_taking (member_at lives) (λ m. m.proc) (member_bytes lives) (IsGiven lives) (member_reading lives) count 0) (λ ms text f.
    let each = All-from_recursion (IsGiven lives) ms f.1.fits in (
      rw (f.0, f.1.long) refl,
      (
        record {
          some = omega (arith, f.1.long, eqb-false _ _ test);
          few = omega (arith, f.1.long, few);
          rising = pairs_rise (λ m. m.proc) 0 ms f.1.rises;
          each = λ k d within. (each k d within).fits;
        },
        λ k d within. (each k d within).given,
      ),
    ))))

members_again : (lives : Lives) (ms : List CommitMember) (rest : List ℕ) → IsCommitMembers ms → GivesLives lives ms → members_at lives (number_bytes w8 (length ms) ++ (flat_map (member_bytes lives) ms ++ rest)) ≡ Ok (ms, rest)
unfolding members_at
members_again lives ms rest fits given =
    let test : (length ms == 0) ≡ false = ne_eqb _ _ (λ e. omega (arith, fits.some, e)) in
    rw (up_to_again w8 (2 ^ 8) wide8 32 (length ms) (flat_map (member_bytes lives) ms ++ rest) (omega (arith, fits.few)) fits.few, test)
    (row_again (member_at lives) (λ m. m.proc) (member_bytes lives) (IsGiven lives) (member_reading lives) 0 ms rest
    (rise_from_pairs (λ m. m.proc) 0 ms (λ k d within. (fits.each k d within).proc.positive) fits.rising)
    (recursion_from_All (IsGiven lives) ms (λ k d within. record { fits = fits.each k d within; given = given k d within })))

-- ---- commit tokens

pub commit_taking : (lives : Lives) → IsTaking (Spells (commit_bytes lives) (λ t. IsCommitToken t × GivesLives lives t.members)) (commit_at lives)
unfolding commit_at commit_bytes
commit_taking lives =
    bind_taking _ _ ring_taking (λ ring f1.
    bind_taking _ _ round_taking (λ round f2.
    bind_taking _ _ (members_taking lives) (λ members f3.
    gives_taking _ (simp (append_assoc, append-nil), (record { ring = f1; members = f3.0 }, f3.1)))))

pub commit_again : (lives : Lives) (t : CommitToken) (rest : List ℕ) → IsCommitToken t → GivesLives lives t.members → commit_at lives (commit_bytes lives t ++ rest) ≡ Ok (t, rest)
unfolding commit_at commit_bytes
commit_again lives t rest fits given =
    simp append_assoc (rw (ring_again t.ring _ fits.ring, round_again t.round _, members_again lives t.members rest fits.members given) refl)

-- ---- commit tokens with a life above the first

pub later_commit_taking : IsTaking (Spells (commit_bytes Told) (λ t. IsCommitToken t × (has_later_life t.members ≡ true))) later_commit_at
unfolding later_commit_at
later_commit_taking = bind_taking _ _ (commit_taking Told) (λ t f. cond_taking _ _ _ (λ later. gives_taking t (append-nil _, (f.0, later))) (λ none. fault_taking Range))

pub later_commit_again : (t : CommitToken) (rest : List ℕ) → IsCommitToken t → has_later_life t.members ≡ true → later_commit_at (commit_bytes Told t ++ rest) ≡ Ok (t, rest)
unfolding later_commit_at
later_commit_again t rest fits later = rw (commit_again Told t rest fits (gives_each t.members), later) refl
