-- Steps of the loops over what one sender sends.
use Rattle.totem_judge_traffic.proofs.Common.{◌≡◌, ◌≢◌, ◌⊎◌, inl, inr, ℕ, ◌+◌, ◌<◌, ◌≤◌, List, length, slice_get, slice_index_or, slice_set, Some, arith, length-set, ◌↔◌, slice_index, AreFewerTo, AreInOrderTo}
use Rattle.std.proofs.lemmas.Bool.{cases_eq}
use Rattle.std.proofs.lemmas.Grind.{get_or-set_at}
use Rattle.std.proofs.lemmas.List.{get_or-set_other}
use Rattle.totem_judge_traffic.specs.declared.log_set.LogSet.{LogSet}
use Rattle.totem_judge_traffic.specs.declared.traffic.Sent.{Sent}
use Rattle.totem_judge_traffic.specs.declared.traffic.Got.{Got}
use Rattle.totem_judge_traffic.specs.LogSets.{Has, IsWithin}
use Rattle.totem_judge_traffic.proofs.Rowing.{before_or_at, one_at}

-- ---- fewer and fewer

-- for each sender, the list has the logs that deliver its last message
pub record FewerSoFar (sents : List Sent) (n : ℕ) (last : List LogSet) : Type 0 where
  pub long : length last ≡ 32
  pub clean : AreFewerTo sents n
  pub covers : (j : ℕ) (s : Sent) (d : LogSet) → j < n → slice_get sents j ≡ Some s → IsWithin (slice_index_or last s.sender d) s.by

pub fewer_none : (sents : List Sent) (last : List LogSet) → length last ≡ 32 → FewerSoFar sents 0 last
fewer_none sents last long = record { long = long; clean = record { each = λ j k s t before lt at_j at_k same. absurd (omega arith) }; covers = λ j s d lt at. absurd (omega arith) }

module _ (sents : List Sent) (n : ℕ) (last : List LogSet) (t : Sent) (d₀ : LogSet) (at : slice_get sents n ≡ Some t) (few : t.sender < 32)
    (within : IsWithin t.by (slice_index_or last t.sender d₀)) (so_far : FewerSoFar sents n last) where
  -- a log that delivers it delivers what its sender sent before
  within_earlier : (j : ℕ) (s : Sent) → j < n → slice_get sents j ≡ Some s → s.sender ≡ t.sender → IsWithin t.by s.by
  within_earlier j s lt at_j same = record {
    each = λ log has.
        let here : Has (slice_index_or last s.sender d₀) log = rw same (within.each log has) in
        (so_far.covers j s d₀ lt at_j).each log here;
  }

  pub fewer_more : FewerSoFar sents (n + 1) (slice_set last t.sender t.by)
  fewer_more = grind (arith, length-set, before_or_at, one_at, within_earlier, cases_eq, get_or-set_at, get_or-set_other)

-- ---- in the order sent

-- the set has the senders with a message so far, and the list has the index of the last one of each
pub record OrderSoFar (gots : List Got) (n : ℕ) (begun : LogSet) (last : List ℕ) : Type 0 where
  pub long : length last ≡ 32
  pub clean : AreInOrderTo gots n
  pub has : (j : ℕ) (a : Got) → j < n → slice_get gots j ≡ Some a → Has begun a.sender
  pub bounds : (j : ℕ) (a : Got) → j < n → slice_get gots j ≡ Some a → a.sent ≤ slice_index last a.sender

pub order_none : (gots : List Got) (begun : LogSet) (last : List ℕ) → length last ≡ 32 → OrderSoFar gots 0 begun last
order_none gots begun last long = grind arith

module _ (gots : List Got) (n : ℕ) (begun new : LogSet) (last : List ℕ) (b : Got) (at : slice_get gots n ≡ Some b) (few : b.sender < 32)
    (fresh : (Has begun b.sender → ⊥) ⊎ (slice_index last b.sender < b.sent)) (here : Has new b.sender) (others : (log : ℕ) → log ≢ b.sender → Has new log ↔ Has begun log)
    (so_far : OrderSoFar gots n begun last) where
  -- what the sender sent before is before
  below : (j : ℕ) (a : Got) → j < n → slice_get gots j ≡ Some a → a.sender ≡ b.sender → a.sent < b.sent
  below j a lt at_j same = grind arith

  still_begun : (log : ℕ) → Has begun log → Has new log
  still_begun log has = elim (cases_eq log b.sender) [ inl same ↦ rw same here | inr apart ↦ (others log apart).1 has ]

  pub order_more : OrderSoFar gots (n + 1) new (slice_set last b.sender b.sent)
  order_more = grind (arith, length-set, before_or_at, one_at, below, still_begun, cases_eq, get_or-set_at, get_or-set_other)
