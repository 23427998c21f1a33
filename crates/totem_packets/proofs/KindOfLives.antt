-- The first byte of a packet, and whether a member reports from a later life.
use Rattle.std.proofs.Common.{arith}
use Rattle.totem_packets.proofs.Common.{nat_lt, ◌||◌, ◌≡◌, ℕ, zero, suc, ◌<◌, ◌↔◌, List, [], ◌∷◌, slice_get, Some, true, refl, ltb-true, lt-ltb, cases_Bool, inl, inr, has_later_life, reported_life, TellsLaterLife}
use Rattle.std.proofs.lemmas.Map.Keys.{any_passes_from_place}
use Rattle.totem_packets.specs.declared.commit_member.CommitMember.{CommitMember}
use Rattle.totem_packets.specs.declared.packet.Packet as packet
use Rattle.totem_packets.specs.Spelling.{packet_bytes, number_bytes}

-- a member at some index has a later life
abbrev Later : List CommitMember → Type 0
Later members = (at : ℕ) × (member : CommitMember) × (slice_get members at ≡ Some member) × (1 < reported_life member.report)

later_at : (members : List CommitMember) → has_later_life members ≡ true → Later members
later_at [] has = absurd cc
later_at (m ∷ members) has = elim (cases_Bool (nat_lt 1 (reported_life m.report))) [
  | inl is ↦ (zero, m, refl, ltb-true _ _ is)
  | inr is ↦
      let h : (nat_lt 1 (reported_life m.report) || has_later_life members) ≡ true = has in
      let further = later_at members (rw is at h) in
      (suc further.0, further.1, further.2, further.3)
]

-- a member with a later life makes the test true
later_of : (members : List CommitMember) (at : ℕ) (member : CommitMember) → slice_get members at ≡ Some member → 1 < reported_life member.report → has_later_life members ≡ true
later_of members at member is later = any_passes_from_place (λ m. nat_lt 1 (reported_life m.report)) members at member is (lt-ltb _ _ later)

pub told_by_kind : (p : packet.Packet) (kind : ℕ) (rest : List ℕ) → packet_bytes p ≡ kind ∷ rest → (kind ≡ 5) ↔ TellsLaterLife p
unfolding packet_bytes number_bytes
told_by_kind p kind rest h = grind (arith, later_at, later_of)
