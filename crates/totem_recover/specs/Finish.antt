-- What a member writes when it leaves its old ring for the new one (docs/PROTOCOL.md, "The finish").
use Rattle.std.specs.Prelude.{ℕ, ◌+◌, ◌==◌, List, [], ◌∷◌, ◌++◌, length, map, filter, if◌then◌else◌, slice_index, Option, None, Some}
use Rattle.std.specs.List.{filter_map}
use Rattle.totem_names.specs.declared.conf.ConfId.{ConfId}
use Rattle.totem_names.specs.declared.conf.ConfId.TheVariants.{Regular, Transitional}
use Rattle.totem_names.specs.Ranks.{id_of}
use Rattle.totem_packets.specs.declared.message.Body.{Body}
use Rattle.totem_packets.specs.declared.message.Body.TheVariants.{App, Old, Mark}
use Rattle.totem_packets.specs.declared.message.Message as message
use Rattle.totem_packets.specs.Sets.{has}
use Rattle.totem_evs.specs.declared.entry.Entry.{Entry}
use Rattle.totem_evs.specs.declared.entry.Entry.TheVariants.{Conf, Deliver}
use Rattle.totem_ring.specs.Rings.{Ring, Held, going_up}
use Rattle.totem_recover.specs.Exchange.{Leaving, held_above}

-- the delivery of a client's message in the configuration; messages that carry old ones, and marks, have no entry
abbrev pub delivery : ConfId → message.Message → Option Entry
delivery x m = entry m.body
  where
    entry : Body → Option Entry
    entry (App service payload) = Some (Deliver (record { ring = m.ring; number = m.number }) x)
    entry (Old ring number sender service payload) = None
    entry Mark = None

abbrev pub deliveries : ConfId → List message.Message → List Entry
deliveries x ms = filter_map (delivery x) ms

-- Regular part: from handed + 1 on, while the next number is held and is agreed or at most H.
abbrev pub regular_part : ℕ → Ring → List message.Message
regular_part high old = going_up old.handed high old.held

-- after the first gap: only the messages whose sender is in O
abbrev pub owed_of : List ℕ → Held → List message.Message
owed_of obliged held = filter (λ m. has obliged m.sender) (map (λ e. e.1) held)

-- The rest, in ascending order: all before the first gap, after it only messages whose sender is in O.
abbrev pub rest_from : List ℕ → ℕ → Held → List message.Message
rest_from obliged last [] = []
rest_from obliged last (e ∷ es) = if e.0 == last + 1 then e.1 ∷ rest_from obliged (last + 1) es else owed_of obliged (e ∷ es)

-- the transitional configuration, named by the new ring and the least identifier of T
abbrev pub between_rings : Leaving → ConfId
between_rings r = Transitional (id_of (slice_index r.transitional 0)) r.ring

abbrev pub finish : Leaving → Ring → List Entry
finish r old =
    let regular = regular_part r.high old in
    let last = old.handed + length regular in
    deliveries (Regular old.ring) regular
    ++ Conf (between_rings r) r.transitional ∷ []
    ++ deliveries (between_rings r) (rest_from r.obliged last (held_above last old.held))
    ++ Conf (Regular r.ring) r.members ∷ []
