-- Processes of a run: their ranks, their order, and their texts. What is read is spelled so, and what is spelled so is read.
use Rattle.totem_names.proofs.Common.{codes, decimal, ◌==◌, ◌↔◌, ◌≡◌, ℕ, ◌<◌, List, [], ◌∷◌, ◌++◌, Ok, Err, Bool, true, false, cond, refl, sym, ◌∙◌, ap, append_assoc, arith, rules, cases_lt, eqb-true, PlaceName, Steady, ◌>>=◌, IsUpTo, IsProcess}
use Rattle.totem_names.specs.declared.version.Version.{Version}
use Rattle.totem_names.specs.declared.fault.TextFault.TheVariants.{Word, Truncated}
use Rattle.totem_names.specs.Numbers.{is_digit, number_at, number_to}
use Rattle.totem_names.specs.Orders.{IsStrictOrder}
use Rattle.totem_names.specs.Processes.{writes_lives, life_text, process_text, IsProcessIn, first_life_then, life_then, process_then, process_to, place_text_in, IsPlaceIn, place_at}
use Rattle.totem_names.specs.Ranks.{rank_of, id_of, life_of, LifeBelow}
use Rattle.totem_names.specs.Spelling.{Spells}
use Rattle.totem_names.proofs.Orderings.{numbers}
use Rattle.totem_names.proofs.RankParts.{id_of_rank, life_of_rank, rank_of_parts}
use Rattle.totem_names.proofs.Steps.{after, guard_then, parsed_is}
use Rattle.totem_names.proofs.Spelled.{up_to, number_is, number_to_is, number_again, number_to_again}
use Rattle.totem_names.proofs.Steady.{gives_steady, fault_steady, bind_steady, cond_steady, number_steady, number_to_steady, first_break}

-- ---- the order

pub below_is_less : (a b : ℕ) → LifeBelow a b ↔ (a < b)
below_is_less a b = grind (arith, cases_lt)

pub life_strict : IsStrictOrder LifeBelow
life_strict = grind (arith, numbers, below_is_less)

-- ---- what is read

-- a process that was read, with its life or of life 1, and the byte after it
pub record IsProcessRead (lives : Bool) (rank b : ℕ) (bytes rest : List ℕ) : Type 0 where
  pub id_fits : IsProcess (id_of rank)
  pub life_fits : IsUpTo 65535 (life_of rank)
  pub first : lives ≡ false → life_of rank ≡ 1
  pub behind : is_digit b ≡ false
  pub spelled : bytes ≡ cond lives (life_text rank) (decimal (id_of rank)) ++ b ∷ rest

pair_is : (a b c d : ℕ) → ◌≡◌ {A = ℕ × ℕ} (a, b) (c, d) → (a ≡ c) × (b ≡ d)
pair_is a b c d e = (ap (λ (x : ℕ × ℕ). x.0) e, ap (λ (x : ℕ × ℕ). x.1) e)

first_life_is : (n b : ℕ) (bytes rest : List ℕ) → first_life_then bytes ≡ Ok ((n, b), rest) → IsProcessRead false n b bytes rest
unfolding first_life_then
first_life_is n b bytes rest e =
    after (number_at 65535 bytes) (λ id. Ok ((rank_of id.0.0 1, id.0.1), id.1)) ((n, b), rest) e (λ id mid e1 made.
    let p = parsed_is (rank_of id.0 1, id.1) (n, b) mid rest made in
    let q = pair_is (rank_of id.0 1) id.1 n b p.0 in
    let x = number_is 65535 id.0 id.1 bytes mid (omega arith) (omega arith) e1 in
    let id_is : IsProcess id.0 = record { positive = x.positive; small = x.small } in
    let i : id.0 ≡ id_of n = sym (id_of_rank id.0 1 (omega arith)) ∙ ap id_of q.0 in
    let l : 1 ≡ life_of n = sym (life_of_rank id.0 1 (omega arith)) ∙ ap life_of q.0 in
    record {
      id_fits = rw i at id_is;
      life_fits = record { positive = omega (arith, l); small = omega (arith, l) };
      first = λ _. sym l;
      behind = rw q.1 at x.behind;
      spelled = rw (← i, ← q.1, ← p.1) x.spelled;
    })

life_is : (n b : ℕ) (bytes rest : List ℕ) → life_then bytes ≡ Ok ((n, b), rest) → IsProcessRead true n b bytes rest
unfolding life_then
life_is n b bytes rest e =
    after (number_to 65535 58 bytes) (λ id. number_at 65535 id.1 >>= λ life. Ok ((rank_of id.0 life.0.0, life.0.1), life.1)) ((n, b), rest) e (λ id mid e1 more.
    after (number_at 65535 mid) (λ life. Ok ((rank_of id life.0.0, life.0.1), life.1)) ((n, b), rest) more (λ life left e2 made.
    let p = parsed_is (rank_of id life.0, life.1) (n, b) left rest made in
    let q = pair_is (rank_of id life.0) life.1 n b p.0 in
    let x = number_to_is 65535 58 id bytes mid (omega arith) (omega arith) e1 in
    let y = number_is 65535 life.0 life.1 mid left (omega arith) (omega arith) e2 in
    let id_is : IsProcess id = record { positive = x.positive; small = x.small } in
    let life_is_up_to : IsUpTo 65535 life.0 = record { positive = y.positive; small = y.small } in
    let i : id ≡ id_of n = sym (id_of_rank id life.0 (omega (arith, y.small))) ∙ ap id_of q.0 in
    let l : life.0 ≡ life_of n = sym (life_of_rank id life.0 (omega (arith, y.small))) ∙ ap life_of q.0 in
    let text : bytes ≡ (decimal id ++ codes ":" ++ decimal life.0) ++ life.1 ∷ left = x.spelled ∙ ap (λ (t : List ℕ). decimal id ++ 58 ∷ t) y.spelled ∙ sym (simp append_assoc) in
    record {
      id_fits = rw i at id_is;
      life_fits = rw l at life_is_up_to;
      first = λ h. absurd cc;
      behind = rw q.1 at y.behind;
      spelled = rw (← i, ← l, ← q.1, ← p.1) text;
    }))

pub process_then_is : (version : Version) (n b : ℕ) (bytes rest : List ℕ) → process_then version bytes ≡ Ok ((n, b), rest) → IsProcessRead (writes_lives version) n b bytes rest
unfolding process_then
process_then_is version n b bytes rest e = go (writes_lives version) e
  where
    go : (t : Bool) → cond t (life_then bytes) (first_life_then bytes) ≡ Ok ((n, b), rest) → IsProcessRead t n b bytes rest
    go true h = life_is n b bytes rest h
    go false h = first_life_is n b bytes rest h

process_is : (version : Version) (end n : ℕ) (bytes rest : List ℕ) → process_to version end bytes ≡ Ok (n, rest) → IsProcessIn version n × (bytes ≡ process_text version n ++ end ∷ rest)
unfolding process_to
process_is version end n bytes rest e =
    after (process_then version bytes) (λ p. cond (p.0.1 == end) (Ok (p.0.0, p.1)) (Err Word)) (n, rest) e (λ p mid e1 e2.
    let t = guard_then (p.1 == end) (Ok (p.0, mid)) Word (n, rest) e2 in
    let same : p.1 ≡ end = eqb-true _ _ t.0 in
    let q = parsed_is p.0 n mid rest t.1 in
    let x : IsProcessRead (writes_lives version) n end bytes rest = rw (← same, ← q.0, ← q.1) (process_then_is version p.0 p.1 bytes mid e1) in
    (record { id_fits = x.id_fits; life_fits = x.life_fits; first = x.first }, x.spelled))

-- ---- what is spelled

first_life_again : (n b : ℕ) (rest : List ℕ) → is_digit b ≡ false → IsProcess (id_of n) → life_of n ≡ 1 → first_life_then (decimal (id_of n) ++ b ∷ rest) ≡ Ok ((n, b), rest)
unfolding first_life_then
first_life_again n b rest other fits first = grind (arith, number_again)

life_again : (n b : ℕ) (rest : List ℕ) → is_digit b ≡ false → IsProcess (id_of n) → IsUpTo 65535 (life_of n) → life_then (life_text n ++ b ∷ rest) ≡ Ok ((n, b), rest)
unfolding life_then
life_again n b rest other fits life = grind (arith, append_assoc, number_to_again, number_again, rank_of_parts)

pub process_then_again : (version : Version) (n b : ℕ) (rest : List ℕ) → is_digit b ≡ false → IsProcessIn version n → process_then version (process_text version n ++ b ∷ rest) ≡ Ok ((n, b), rest)
unfolding process_then
process_then_again version n b rest other is = grind (arith, life_again, first_life_again)

process_again : (version : Version) (end n : ℕ) (rest : List ℕ) → is_digit end ≡ false → IsProcessIn version n → process_to version end (process_text version n ++ end ∷ rest) ≡ Ok (n, rest)
unfolding process_to
process_again version end n rest other is = let same : (end == end) ≡ true = search rules in rw (process_then_again version n end rest other is, same) refl

-- ---- what follows changes no result

first_life_steady : Steady first_life_then
unfolding first_life_then
first_life_steady = bind_steady _ _ (number_steady 65535) (λ id. gives_steady _)

life_steady : Steady life_then
unfolding life_then
life_steady = bind_steady _ _ (number_to_steady 65535 58) (λ id. bind_steady _ _ (number_steady 65535) (λ life. gives_steady _))

pub process_then_steady : (version : Version) → Steady (process_then version)
unfolding process_then
process_then_steady version = cond_steady (writes_lives version) _ _ life_steady first_life_steady

pub process_to_steady : (version : Version) (end : ℕ) → Steady (process_to version end)
unfolding process_to
process_to_steady version end = bind_steady (process_then version) (λ p. cond (p.0.1 == end) (Ok (p.0.0, p.1)) (Err Word)) (process_then_steady version) (λ p. cond_steady (p.1 == end) (λ bytes. Ok (p.0, bytes)) (λ bytes. Err Word) (gives_steady p.0) (fault_steady Word))

pub process_then_empty : (version : Version) → process_then version [] ≡ Err Truncated
unfolding process_then life_then first_life_then number_to number_at
process_then_empty version = grind arith

process_to_empty : (version : Version) (end : ℕ) → process_to version end [] ≡ Err Truncated
unfolding process_to
process_to_empty version end = rw (process_then_empty version) refl

-- ---- places

place_is : (version : Version) (end : ℕ) (e : PlaceName) (bytes rest : List ℕ) → place_at version end bytes ≡ Ok (e, rest) → IsPlaceIn version e × (bytes ≡ place_text_in version e ++ end ∷ rest)
unfolding place_at
place_is version end e bytes rest h =
    after (process_to version 64 bytes) (λ proc. number_to 4294967295 end proc.1 >>= λ entry. Ok (record { proc = proc.0; at = entry.0 }, entry.1)) (e, rest) h (λ proc mid e1 more.
    after (number_to 4294967295 end mid) (λ entry. Ok (record { proc = proc; at = entry.0 }, entry.1)) (e, rest) more (λ entry left e2 made.
    let p = parsed_is (record { proc = proc; at = entry }) e left rest made in
    let x = process_is version 64 proc bytes mid e1 in
    let y = number_to_is 4294967295 end entry mid left (omega arith) (omega arith) e2 in
    let text : bytes ≡ (process_text version proc ++ codes "@" ++ decimal entry) ++ end ∷ left = x.1 ∙ ap (λ (t : List ℕ). process_text version proc ++ 64 ∷ t) y.spelled ∙ sym (simp append_assoc) in
    let place : PlaceName = record { proc = proc; at = entry } in
    let is : IsPlaceIn version place = record { proc_fits = x.0; at_fits = up_to y } in
    rw (← p.0, ← p.1) (is, text)))

place_again : (version : Version) (end : ℕ) (e : PlaceName) (rest : List ℕ) → is_digit end ≡ false → IsPlaceIn version e → place_at version end (place_text_in version e ++ end ∷ rest) ≡ Ok (e, rest)
unfolding place_at
place_again version end e rest other is = grind (arith, append_assoc, process_again, number_to_again)

place_steady : (version : Version) (end : ℕ) → Steady (place_at version end)
unfolding place_at
place_steady version end = bind_steady _ _ (process_to_steady version 64) (λ proc. bind_steady _ _ (number_to_steady 4294967295 end) (λ entry. gives_steady _))

place_empty : (version : Version) (end : ℕ) → place_at version end [] ≡ Err Truncated
unfolding place_at
place_empty version end = rw (process_to_empty version 64) refl

-- ---- the laws

pub place_spells : (version : Version) → Spells (place_at version) (place_text_in version) (IsPlaceIn version)
place_spells version = record {
  spelled = place_is version;
  read = place_again version;
  breaks = λ end bytes fault long e. first_break (place_at version end) bytes fault (place_steady version end) (place_empty version end) long e;
  steady = place_steady version;
}

pub process_spells : (version : Version) → Spells (process_to version) (process_text version) (IsProcessIn version)
process_spells version = record {
  spelled = process_is version;
  read = process_again version;
  breaks = λ end bytes fault long e. first_break (process_to version end) bytes fault (process_to_steady version end) (process_to_empty version end) long e;
  steady = process_to_steady version;
}
