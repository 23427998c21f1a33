-- What an entry sends and delivers in a configuration.
use Rattle.std.specs.Prelude.{◌≡◌, ◌⊎◌, ℕ, List, Option, Some}
use Rattle.totem_names.specs.declared.conf.ConfId.{ConfId}
use Rattle.totem_names.specs.declared.message.MsgId.{MsgId}
use Rattle.totem_evs.specs.declared.entry.Entry.{Entry}
use Rattle.totem_evs.specs.declared.entry.Entry.TheVariants.{Conf, Send, Deliver, Fail}
use Rattle.totem_evs.specs.Events.{Sends, Delivers}

-- the entry sends m in x
abbrev pub SendsIn : Entry → ConfId → MsgId → Type 0
SendsIn (Conf y members) x m = ⊥
SendsIn (Send n y service) x m = (n ≡ m) × (y ≡ x)
SendsIn (Deliver n y) x m = ⊥
SendsIn (Fail y) x m = ⊥

-- the entry sends m in x, or delivers it there
abbrev pub HandlesIn : Entry → ConfId → MsgId → Type 0
HandlesIn (Conf y members) x m = ⊥
HandlesIn (Send n y service) x m = (n ≡ m) × (y ≡ x)
HandlesIn (Deliver n y) x m = (n ≡ m) × (y ≡ x)
HandlesIn (Fail y) x m = ⊥

-- y is x, or the configuration that follows it
abbrev pub IsThere : ConfId → Option ConfId → ConfId → Type 0
IsThere x follower y = (y ≡ x) ⊎ (follower ≡ Some y)

-- the entry delivers m in x or in the configuration that follows it
abbrev pub DeliversThere : Entry → ConfId → Option ConfId → MsgId → Type 0
DeliversThere (Conf y members) x follower m = ⊥
DeliversThere (Send n y service) x follower m = ⊥
DeliversThere (Deliver n y) x follower m = (n ≡ m) × IsThere x follower y
DeliversThere (Fail y) x follower m = ⊥

-- the entry sends nothing in x
pub record SendsNothing (entry : Entry) (x : ConfId) : Type 0 where
  pub never : (m : MsgId) → SendsIn entry x m → ⊥

-- the entry neither sends nor delivers anything in x
pub record HandlesNothing (entry : Entry) (x : ConfId) : Type 0 where
  pub never : (m : MsgId) → HandlesIn entry x m → ⊥

-- the entry delivers nothing in x or in the configuration that follows it
pub record DeliversNothing (entry : Entry) (x : ConfId) (follower : Option ConfId) : Type 0 where
  pub never : (m : MsgId) → DeliversThere entry x follower m → ⊥

-- the entry at i sends m in x, or delivers it there
abbrev pub Handles : List Entry → ℕ → MsgId → ConfId → Type 0
Handles log i m x = Sends log i m x ⊎ Delivers log i m x
