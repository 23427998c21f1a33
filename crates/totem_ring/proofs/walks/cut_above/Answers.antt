use Rattle.std.proofs.Common.{◌≡◌, refl, rules}
use Rattle.std.proofs.lemmas.Map.Entries.{filter_from_retain_pairs}
use Rattle.totem_ring.proofs.walks.cut_above.Goals as goal

pub returns : goal.returns
returns c = filter_from_retain_pairs _ (λ f. f.0 ≡ c.args.seq) _ (λ g k v b w g' is call. (search (rules, call, is), search (rules, call, is), search (rules, call, is))) _ _ _ refl c.retain.ensures.filtered
