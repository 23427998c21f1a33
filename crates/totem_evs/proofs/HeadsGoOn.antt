-- Where a first line or the beginning of a record is too short, some text continues it.
use Rattle.totem_evs.proofs.Common.{nat_le, ◌==◌, codes, ◌≡◌, ℕ, List, [], ◌∷◌, ◌++◌, Option, Some, None, Ok, Err, Bool, false, cond, refl, sym, ◌∙◌, ap, append_assoc, eqb-true, Version, One, Two, Three, rank_of, process_then_is, byte_is, word_is, line, version_digit}
use Rattle.totem_names.specs.declared.fault.TextFault.TheVariants as faults
use Rattle.totem_names.specs.Processes.{process_text, IsProcessIn}
use Rattle.totem_evs.specs.Heads.{Words, HasVersion, first_line, proc_at, begin_at, end_at, head_at, header_end, header_at}
use Rattle.totem_evs.proofs.SpelledHeads.{head_text, both_hold}
use Rattle.totem_evs.proofs.GoesOn.{Cut, ok_cut, fault_cut, test_cut, bind_cut, last_cut, led_cut, byte_cut, word_cut}
use Rattle.totem_evs.proofs.LineGoesOn.{process_cut, first_process_is}

-- ---- the beginning of a record, or the last line

abbrev ProcTo : Words → Version → List ℕ → Type 0
ProcTo words version t = (p : ℕ) × IsProcessIn version p × (t ≡ words.word ++ (process_text version p ++ words.behind ∷ []))

proc_cut : (words : Words) (version : Version) (last : ℕ) (bytes : List ℕ) → Cut (proc_at words version last bytes) (ProcTo words version) bytes
unfolding proc_at
proc_cut words version last bytes =
    bind_cut _ _ _ _ _ (word_cut faults.Word words.word bytes refl)
    (λ t e.
    let u = process_text version (rank_of 1 1) ++ words.behind ∷ [] in
    (u, (rank_of 1 1, first_process_is version, ap (λ (k : List ℕ). k ++ u) e)))
    (λ w rest e. record {
      text = words.word;
      whole = word_is faults.Word words.word bytes rest w e;
      next = bind_cut _ _ _ _ _ (process_cut version rest)
          (λ t x. (words.behind ∷ [], (x.0, x.1, ap (λ (k : List ℕ). words.word ++ (k ++ words.behind ∷ [])) x.2)))
          (λ n rest2 e2.
          let x = process_then_is version n.0 n.1 rest rest2 e2 in
          record {
            text = process_text version n.0 ++ n.1 ∷ [];
            whole = x.spelled ∙ sym (append_assoc (process_text version n.0) (n.1 ∷ []) rest2);
            next = test_cut (nat_le n.0 last) (Err faults.Order) (cond (n.1 == words.behind) (Ok (n.0, rest2)) (Err faults.Word)) _ _
                (λ h. fault_cut faults.Order _ _ refl)
                (λ h. test_cut (n.1 == words.behind) (Ok (n.0, rest2)) (Err faults.Word) _ _
                (λ h. ok_cut (n.0, rest2) _ _)
                (λ h. fault_cut faults.Word _ _ refl));
          });
    })

abbrev pub IsLooseHead : Version → Bool → Option ℕ → Type 0
IsLooseHead version full None = Unit {0}
IsLooseHead version full (Some p) = (full ≡ false) × IsProcessIn version p

abbrev pub HeadTo : Words → Version → Bool → List ℕ → Type 0
HeadTo words version full t = (head : Option ℕ) × IsLooseHead version full head × (t ≡ head_text words version head)

begin_cut : (words : Words) (version : Version) (full : Bool) (last : ℕ) (bytes : List ℕ) → Cut (begin_at words version full last bytes) (λ u. HeadTo words version full (words.letter ∷ u)) bytes
unfolding begin_at
begin_cut words version full last bytes =
    test_cut _ _ _ _ _
    (λ h. fault_cut _ _ _ refl)
    (λ h. last_cut _ _ _ _ _ (proc_cut words version last bytes) (λ t x. (Some x.0, (h, x.1), ap (λ (k : List ℕ). words.letter ∷ k) x.2)))

end_cut : (words : Words) (version : Version) (full : Bool) (bytes : List ℕ) → Cut (end_at bytes) (λ u. HeadTo words version full (101 ∷ u)) bytes
unfolding end_at
end_cut words version full bytes =
    last_cut _ _ _ _ _ (word_cut faults.Word (line (codes "nd")) bytes refl) (λ t e. (None, tt, ap (λ (k : List ℕ). 101 ∷ k) e))

pub head_cut : (words : Words) (version : Version) (full : Bool) (last : ℕ) (bytes : List ℕ) → Cut (head_at words version full last bytes) (HeadTo words version full) bytes
unfolding head_at
head_cut words version full last [] = record { goes = λ e. (101 ∷ line (codes "nd"), (None, tt, refl)) }
head_cut words version full last (b ∷ rest) =
    test_cut _ _ _ _ _
    (led_cut b words.letter _ _ _ (begin_cut words version full last rest))
    (λ h. test_cut _ _ _ _ _
    (led_cut b 101 _ _ _ (end_cut words version full rest))
    (λ h. fault_cut _ _ _ refl))

-- ---- the first line

abbrev pub HeaderTo : Words → List ℕ → Type 0
HeaderTo words t = (version : Version) × HasVersion words version × (t ≡ first_line words version)

-- the first line, by what is after its words
header_to : (words : Words) (version : Version) (u : List ℕ) → HasVersion words version → u ≡ version_digit version ∷ 10 ∷ [] → HeaderTo words (words.title ++ u)
header_to words version u has e = (version, has, ap (λ (k : List ℕ). words.title ++ k) e ∙ sym (append_assoc words.title (version_digit version ∷ []) (10 ∷ [])))

header_end_cut : (words : Words) (version : Version) (bytes : List ℕ) → HasVersion words version → Cut (header_end version bytes) (λ u. HeaderTo words (words.title ++ version_digit version ∷ u)) bytes
unfolding header_end
header_end_cut words version bytes has =
    last_cut _ _ _ _ _ (word_cut faults.Header (line []) bytes refl)
    (λ t e. header_to words version (version_digit version ∷ t) has (ap (λ (k : List ℕ). version_digit version ∷ k) e))

pub header_cut : (words : Words) (bytes : List ℕ) → Cut (header_at words bytes) (HeaderTo words) bytes
unfolding header_at
header_cut words bytes =
    bind_cut _ _ _ _ _ (word_cut faults.Header words.title bytes refl)
    (λ t e. (49 ∷ 10 ∷ [], rw e (header_to words One (49 ∷ 10 ∷ []) tt refl)))
    (λ w rest e. record {
      text = words.title;
      whole = word_is faults.Header words.title bytes rest w e;
      next = bind_cut _ _ _ _ _ (byte_cut 49 rest)
          (λ t e. (10 ∷ [], header_to words One (t ++ 10 ∷ []) tt (ap (λ (k : List ℕ). k ++ 10 ∷ []) e)))
          (λ v rest2 e2. record {
            text = v ∷ [];
            whole = byte_is rest v rest2 e2;
            next = test_cut _ _ _ _ _
                (λ h. let same : v ≡ 49 = eqb-true v 49 h in rw same (header_end_cut words One rest2 tt))
                (λ h. test_cut _ _ _ _ _
                (λ h. let same : v ≡ 50 = eqb-true v 50 h in rw same (header_end_cut words Two rest2 tt))
                (λ h. test_cut _ _ _ _ _
                (λ h. let has = both_hold words.third (v == 51) h in let same : v ≡ 51 = eqb-true v 51 has.1 in rw same (header_end_cut words Three rest2 has.0))
                (λ h. fault_cut _ _ _ refl)));
          });
    })
  where
    Is : List ℕ → Type 0
    Is u = HeaderTo words (words.title ++ u)
