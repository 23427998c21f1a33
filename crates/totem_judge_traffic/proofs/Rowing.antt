-- Steps of the loops over rows.
use Rattle.totem_judge_traffic.proofs.Common.{◌≡◌, ◌⊎◌, inl, inr, ℕ, ◌+◌, ◌<◌, ◌≤◌, List, length, get_or, replicate, slice_get, slice_index_or, slice_set, Some, length-set, sym, ◌∙◌, ap, arith, ◌↔◌, get_or_from_slice_get, slice_get-get_or, slice_get_within, less_or_not, RowHas, RowIsApart, RowsAreApart, KeepsRows, AddsToRows, IsBy, IsLacking, LacksTo, IsBehindWith, HasAllBehind, LacksBehindTo, NoGapsTo, IsCausal, AreCausalTo}
use Rattle.std.proofs.lemmas.Grind.{get_or-set_at}
use Rattle.std.proofs.lemmas.List.{get_or-replicate, get_or-set_other, length-replicate}
use Rattle.totem_judge_traffic.specs.declared.log_set.LogSet.{LogSet}
use Rattle.totem_judge_traffic.specs.declared.rows.Rows.{Rows}
use Rattle.totem_judge_traffic.specs.declared.traffic.Sent.{Sent}
use Rattle.totem_judge_traffic.specs.declared.traffic.Got.{Got}
use Rattle.totem_judge_traffic.specs.declared.traffic.Following.{Following}
use Rattle.totem_judge_traffic.specs.LogSets.{AreApart, AreIn, AreNoted, Has, IsEmpty, IsWithin}

-- ---- places of a list

pub read_at : {X : Type 0} (xs : List X) (i : ℕ) (x : X) → i < length xs → x ≡ get_or xs i x → slice_get xs i ≡ Some x
read_at xs i x within is = slice_get-get_or xs i x within ∙ ap Some (sym is)

pub one_at : {X : Type 0} (xs : List X) (i : ℕ) (x y : X) → slice_get xs i ≡ Some x → slice_get xs i ≡ Some y → x ≡ y
one_at xs i x y a b = cc

-- what holds for the first elements and for the next one holds for all of them
pub before_or_at : (k n : ℕ) → k < n + 1 → (k < n) ⊎ (k ≡ n)
before_or_at k n lt = elim (less_or_not k n) [ inl under ↦ inl under | inr (inl over) ↦ absurd (omega arith) | inr (inr same) ↦ inr same ]

-- ---- rows

pub keeps_all : (rows : Rows) → KeepsRows rows rows
keeps_all rows = record { each = λ log other has. has }

pub keeps_on : (old mid new : Rows) → KeepsRows old mid → KeepsRows mid new → KeepsRows old new
keeps_on old mid new a b = record { each = λ log other has. b.each log other (a.each log other has) }

pub adds_none : (by lacking : LogSet) (rows : Rows) → AddsToRows by lacking 0 rows
adds_none by lacking rows = record { each = λ log other lt a b. absurd (omega arith) }

pub adds_row : (by lacking : LogSet) (n : ℕ) (old new : Rows) → KeepsRows old new → ((other : ℕ) → Has lacking other → RowHas new n other) → AddsToRows by lacking n old → AddsToRows by lacking (n + 1) new
adds_row by lacking n old new keeps here adds = grind (arith, before_or_at)

pub adds_no_row : (by lacking : LogSet) (n : ℕ) (rows : Rows) → (Has by n → ⊥) → AddsToRows by lacking n rows → AddsToRows by lacking (n + 1) rows
adds_no_row by lacking n rows never adds = grind (arith, before_or_at)

-- only the rows count
pub keeps_again : (old mid new : Rows) → KeepsRows old mid → new.rows ≡ mid.rows → KeepsRows old new
keeps_again old mid new keeps same = record { each = λ log other has. let there = keeps.each log other has in record { row = there.row; stands = rw (← same) at there.stands; has = there.has } }

pub adds_again : (by lacking : LogSet) (end : ℕ) (mid new : Rows) → AddsToRows by lacking end mid → new.rows ≡ mid.rows → AddsToRows by lacking end new
adds_again by lacking end mid new adds same = record { each = λ log other lt a b. let there = adds.each log other lt a b in record { row = there.row; stands = rw (← same) at there.stands; has = there.has } }

pub noted_none : (sets : List LogSet) (by others : LogSet) → IsEmpty by → AreNoted sets by others
noted_none sets by others empty = record { each = λ log other set lt at a b. absurd (empty.none log a) }

pub noted_all : (by lacking : LogSet) (rows : Rows) → AddsToRows by lacking 32 rows → AreNoted rows.rows by lacking
unfolding Has
noted_all by lacking rows adds = record {
  each = λ log other set lt at a b. let there = adds.each log other lt a b in rw (one_at rows.rows log there.row set there.stands at) at there.has;
}

pub adds_noted : (rows : Rows) (by lacking last_by last_lacking : LogSet) → 32 ≤ length rows.rows → AreNoted rows.rows last_by last_lacking → IsWithin by last_by → IsWithin lacking last_lacking → AddsToRows by lacking 32 rows
unfolding Has
adds_noted rows by lacking last_by last_lacking size noted within_by within_lacking = record {
  each = λ log other lt a b.
      let at : slice_get rows.rows log ≡ Some (get_or rows.rows log by) = slice_get-get_or rows.rows log by (omega (arith, lt, size)) in
      record { row = get_or rows.rows log by; stands = at; has = noted.each log other (get_or rows.rows log by) lt at (within_by.each log a) (within_lacking.each other b) };
}

pub ruleset rows_added = (keeps_all, keeps_on, adds_none, adds_row, adds_no_row)

pub apart_none : (rows : Rows) (by others : LogSet) → RowsAreApart rows by others 0
apart_none rows by others = record { none = λ log other lt a b h. omega arith }

pub apart_to_all : (rows : Rows) (by others : LogSet) (n : ℕ) → ((log : ℕ) → Has by log → log < n) → RowsAreApart rows by others n → RowsAreApart rows by others 32
apart_to_all rows by others n above apart = record { none = λ log other lt a b h. apart.none log other (above log a) a b h }

pub apart_row : (rows : Rows) (by others : LogSet) (n : ℕ) → (Has by n → ⊥) ⊎ RowIsApart rows n others → RowsAreApart rows by others n → RowsAreApart rows by others (n + 1)
apart_row rows by others n here apart = record {
  none = λ log other lt a b h. elim (before_or_at log n lt) [
    | inl under ↦ apart.none log other under a b h
    | inr same ↦ elim here [ inl never ↦ never (rw same at a) | inr row ↦ row.none other (rw same at b) h ]
  ];
}

-- ---- which logs lack a message

pub lacks_none : (logs : LogSet) (gots : List Got) (rows : Rows) → LacksTo logs gots 0 rows
lacks_none logs gots rows = record { each = λ k got lt at log other few by lacks. absurd (omega arith) }

module _ (logs : LogSet) (gots : List Got) (n : ℕ) (got : Got) (at : slice_get gots n ≡ Some got)
    (by : LogSet) (is_by : (log : ℕ) → Has by log ↔ (Has got.regular log ⊎ Has got.transitional log))
    (lacking : LogSet) (is_lacking : (log : ℕ) → Has lacking log ↔ (Has logs log × (Has by log → ⊥))) where
  among : (other : ℕ) → IsLacking logs got other → Has lacking other
  among other (here, never) = (is_lacking other).1 (here, λ has. never ((is_by other).0 has))

  pub lacks_more : (old new : Rows) → KeepsRows old new → AddsToRows by lacking 32 new → LacksTo logs gots n old → LacksTo logs gots (n + 1) new
  lacks_more old new keeps adds lacks = record {
    each = λ k other_got lt at_k log other few delivers missing. elim (before_or_at k n lt) [
      | inl under ↦ keeps.each log other (lacks.each k other_got under at_k log other few delivers missing)
      | inr same ↦ (
          let e : other_got ≡ got = one_at gots n other_got got (rw same at at_k) at in
          let delivers_it : IsBy got log = rw e at delivers in
          let missing_it : IsLacking logs got other = rw e at missing in
          adds.each log other few ((is_by log).1 delivers_it) (among other missing_it)
          )
    ];
  }

  module _ (list : List Following) (with' : LogSet) (is_with : HasAllBehind list got.sender (length list) with')
      (lacking_behind : LogSet) (is_behind : (log : ℕ) → Has lacking_behind log ↔ (Has lacking log × Has with' log)) where
    pub lacks_behind_more : (old new : Rows) → KeepsRows old new → AddsToRows by lacking_behind 32 new → LacksBehindTo logs list gots n old → LacksBehindTo logs list gots (n + 1) new
    lacks_behind_more old new keeps adds lacks = record {
      each = λ k other_got lt at_k log other few delivers missing behind. elim (before_or_at k n lt) [
        | inl under ↦ keeps.each log other (lacks.each k other_got under at_k log other few delivers missing behind)
        | inr same ↦ (
            let e : other_got ≡ got = one_at gots n other_got got (rw same at at_k) at in
            let delivers_it : IsBy got log = rw e at delivers in
            let missing_it : IsLacking logs got other = rw e at missing in
            let behind_it : IsBehindWith list got.sender other = rw e at behind in
            adds.each log other few ((is_by log).1 delivers_it) ((is_behind other).1 (among other missing_it, has_behind other behind_it))
            )
      ];
    }
      where
        has_behind : (other : ℕ) → IsBehindWith list got.sender other → Has with' other
        has_behind other b = is_with.each b.at b.following other (within_of b) b.stands b.member b.log
          where
            within_of : (b : IsBehindWith list got.sender other) → b.at < length list
            within_of b = slice_get_within list b.at b.following b.stands

  pub no_gaps_more : (list : List Following) (rows behind : Rows) → LacksTo logs gots n rows → LacksBehindTo logs list gots n behind → RowsAreApart rows by got.regular 32 → RowsAreApart behind by got.transitional 32
      → NoGapsTo logs list gots n → NoGapsTo logs list gots (n + 1)
  no_gaps_more list rows behind lacks lacks_behind apart apart_behind clean = record {
    each = λ j k a b before lt at_j at_k. elim (before_or_at k n lt) [
      | inl under ↦ clean.each j k a b before under at_j at_k
      | inr same ↦ (
          let e : b ≡ got = one_at gots n b got (rw same at at_k) at in
          let earlier : j < n = omega arith in
          rw e (record {
            there = λ log other few first second missing has. apart.none log other few ((is_by log).1 second) (lacks.each j a earlier at_j log other few first missing) has;
            behind = λ log other few first second missing with' has. apart_behind.none log other few ((is_by log).1 second) (lacks_behind.each j a earlier at_j log other few first missing with') has;
          })
          )
    ];
  }

pub no_gaps_none : (logs : LogSet) (list : List Following) (gots : List Got) → NoGapsTo logs list gots 0
no_gaps_none logs list gots = record { each = λ j k a b before lt at_j at_k. absurd (omega arith) }

pub lacks_behind_none : (logs : LogSet) (list : List Following) (gots : List Got) (rows : Rows) → LacksBehindTo logs list gots 0 rows
lacks_behind_none logs list gots rows = record { each = λ k got lt at log other few by lacks behind. absurd (omega arith) }

-- ---- which logs are after

pub behind_none : (list : List Following) (sender : ℕ) (logs : LogSet) → HasAllBehind list sender 0 logs
behind_none list sender logs = record { each = λ k f other lt at member has. absurd (omega arith) }

behind_more : (list : List Following) (sender n : ℕ) (f : Following) (old new : LogSet) → slice_get list n ≡ Some f
    → ((log : ℕ) → Has old log → Has new log) → ((log : ℕ) → Has f.members.logs sender → Has f.logs log → Has new log) → HasAllBehind list sender n old → HasAllBehind list sender (n + 1) new
behind_more list sender n f old new at keeps here has = grind (arith, before_or_at, one_at)

pub behind_next : (list : List Following) (sender n : ℕ) (d : Following) (old new : LogSet) → n < length list → IsWithin old new
    → (Has (slice_index_or list n d).members.logs sender → IsWithin (slice_index_or list n d).logs new) → HasAllBehind list sender n old → HasAllBehind list sender (n + 1) new
behind_next list sender n d old new within keeps here has = grind (arith, behind_more, slice_get-get_or)

-- ---- 5

pub causal_none : (logs : LogSet) (gots : List Got) (sents : List Sent) → AreCausalTo logs gots sents 0
causal_none logs gots sents = record { each = λ k sent lt at. absurd (omega arith) }

-- the row of the sender has no log that delivers it
pub causal_more : (logs : LogSet) (gots : List Got) (sents : List Sent) (n taken : ℕ) (sent : Sent) (rows : Rows) → slice_get sents n ≡ Some sent → sent.sender < 32
    → LacksTo logs gots taken rows → (sent.before ≤ taken) ⊎ (taken ≡ length gots) → RowIsApart rows sent.sender sent.by → AreCausalTo logs gots sents n → AreCausalTo logs gots sents (n + 1)
causal_more logs gots sents n taken sent rows at few lacks until apart clean = record {
  each = λ k other_sent lt at_k. elim (before_or_at k n lt) [
    | inl under ↦ clean.each k other_sent under at_k
    | inr same ↦ (let e : other_sent ≡ sent = one_at sents n other_sent sent (rw same at at_k) at in rw e causal)
  ];
}
  where
    taken_too : (k : ℕ) (got : Got) → k < sent.before → slice_get gots k ≡ Some got → (sent.before ≤ taken) ⊎ (taken ≡ length gots) → k < taken
    taken_too k got lt here until = grind (arith, slice_get_within)

    causal : IsCausal logs gots sent
    causal = record {
      each = λ k got other lt here by missing has. apart.none other (lacks.each k got (taken_too k got lt here until) here sent.sender other few by missing) has;
    }

-- ---- all that are in a row

pub in_copies : (n : ℕ) (set other : LogSet) → IsEmpty set → AreIn (replicate n set) other
unfolding Has
in_copies n set other empty = record {
  each = λ i log s at has. absurd (let within : i < n = rw (length-replicate n set) at (slice_get_within (replicate n set) i s at) in let same : set ≡ s = sym (get_or-replicate n i set set within) ∙ get_or_from_slice_get (replicate n set) i s set at in empty.none log (rw (← same) at has));
}

set_other_at : (rows : List LogSet) (i : ℕ) (new d : LogSet) (j : ℕ) (set : LogSet) → (j ≡ i → ⊥) → slice_get (slice_set rows i new) j ≡ Some set → slice_get rows j ≡ Some set
set_other_at rows i new d j set apart at =
    let within : j < length rows = rw (length-set rows i new) at (slice_get_within (slice_set rows i new) j set at) in
    slice_get-get_or rows j d within ∙ ap Some (sym (get_or-set_other rows i j new d apart) ∙ get_or_from_slice_get (slice_set rows i new) j set d at)

pub in_more : (rows : List LogSet) (i : ℕ) (new d added other more : LogSet) → i < length rows → ((log : ℕ) → Has new log ↔ (Has (slice_index_or rows i d) log ⊎ Has added log)) → ((log : ℕ) → Has more log ↔ (Has other log ⊎ Has added log))
    → AreIn rows other → AreIn (slice_set rows i new) more
unfolding Has
in_more rows i new d added other more lt new_is more_is all = record {
  each = λ j log set at has. elim (less_or_not j i) [
    | inl under ↦ (more_is log).1 (inl (all.each j log set (set_other_at rows i new d j set (λ same. omega arith) at) has))
    | inr (inl over) ↦ (more_is log).1 (inl (all.each j log set (set_other_at rows i new d j set (λ same. omega arith) at) has))
    | inr (inr same) ↦
        let here : new ≡ set = sym (get_or-set_at rows i j new d same lt) ∙ get_or_from_slice_get (slice_set rows i new) j set d at in
        elim ((new_is log).0 (rw (← here) at has)) [
          | inl old ↦ (more_is log).1 (inl (all.each i log (slice_index_or rows i d) (slice_get-get_or rows i d lt) old))
          | inr plus ↦ (more_is log).1 (inr plus)
        ]
  ];
}

pub noted_more : (rows : List LogSet) (i : ℕ) (new d added by others : LogSet) → i < length rows → ((log : ℕ) → Has new log ↔ (Has (slice_index_or rows i d) log ⊎ Has added log))
    → i < 32 → AreNoted rows by others → AreNoted (slice_set rows i new) by others
unfolding Has
noted_more rows i new d added by others lt new_is few noted = record {
  each = λ log other set within at a b. elim (less_or_not log i) [
    | inl under ↦ noted.each log other set within (set_other_at rows i new d log set (λ same. omega arith) at) a b
    | inr (inl over) ↦ noted.each log other set within (set_other_at rows i new d log set (λ same. omega arith) at) a b
    | inr (inr same) ↦
        let here : new ≡ set = sym (get_or-set_at rows i log new d same lt) ∙ get_or_from_slice_get (slice_set rows i new) log set d at in
        rw here at ((new_is other).1 (inl (noted.each i other (slice_index_or rows i d) few (slice_get-get_or rows i d lt) (rw same at a) b)))
  ];
}

pub apart_all : (rows : Rows) (by others : LogSet) (end : ℕ) → AreIn rows.rows rows.lacking → AreApart others rows.lacking → RowsAreApart rows by others end
unfolding Has
apart_all rows by others end all apart = grind arith
