-- What the results of the tables say.
use Rattle.totem_stitch.proofs.Common.{◌≡◌, ◌⊎◌, inl, inr, List, Option, Some, None, ◌↔◌, ap, subst, RingId, ConfId, Regular, Entry, Follows, Com, IsFollower}
use Rattle.totem_stitch.proofs.Entering.{one_follower}

-- the result is t exactly if t follows
pub follower_is : (log : List Entry) (c : RingId) (o : Option ConfId) → IsFollower log c o → (t : ConfId) → (o ≡ Some t) ↔ Follows log c t
follower_is log c None h t = (λ e. absurd cc, λ f. absurd (h.never t f))
follower_is log c (Some u) h t = (λ e. (let same : u ≡ t = cc in subst (λ (z : ConfId). Follows log c z) same h), λ f. ap (λ (z : ConfId). Some z) (one_follower log c u t h f))

-- d is the regular configuration of c or what follows it exactly if it is that one or the result
pub com_is : (log : List Entry) (c : RingId) (o : Option ConfId) → IsFollower log c o → (d : ConfId) → Com log c d ↔ ((d ≡ Regular c) ⊎ (o ≡ Some d))
com_is log c o h d = (λ k. to k, λ k. from k)
  where
    to : (d ≡ Regular c) ⊎ Follows log c d → (d ≡ Regular c) ⊎ (o ≡ Some d)
    to (inl e) = inl e
    to (inr f) = inr ((follower_is log c o h d).1 f)

    from : (d ≡ Regular c) ⊎ (o ≡ Some d) → (d ≡ Regular c) ⊎ Follows log c d
    from (inl e) = inl e
    from (inr e) = inr ((follower_is log c o h d).0 e)
