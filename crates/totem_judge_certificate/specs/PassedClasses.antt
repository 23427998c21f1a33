-- The classes that a walk has passed.
use Rattle.std.specs.Prelude.{◌≡◌, ◌⊎◌, Contains, Some, true}
use Rattle.std.specs.BTreeSet as sorted
use Rattle.totem_names.specs.declared.message.MsgId.{MsgId}
use Rattle.totem_names.specs.contracts.message.MsgIdOrd.TheImpl as message
use Rattle.totem_names.specs.contracts.conf.ConfIdOrd.TheImpl as conf
use Rattle.totem_evs.specs.declared.entry.Entry.{Entry}
use Rattle.totem_judge_certificate.specs.declared.class.Class.{Class}
use Rattle.totem_judge_certificate.specs.declared.class.Class.TheVariants.{Change, Delivery}
use Rattle.totem_judge_certificate.specs.declared.passed.Passed.{Passed}
use Rattle.totem_judge_certificate.specs.ClassOf.{class_of, class_barred_by}

-- the deliveries of the message were passed: it is one of those that were delivered in ascending order, or one of the others
abbrev pub HasDelivery : Passed → MsgId → Type 0
HasDelivery passed m = Contains passed.ascending.messages.items m ⊎ (Contains passed.late.messages.items m ⊎ (sorted.contains message.cmp-value.it passed.others m ≡ true))

-- the class was passed
abbrev pub Has : Passed → Class → Type 0
Has passed (Change x) = sorted.contains conf.cmp-value.it passed.changes x ≡ true
Has passed (Delivery m) = HasDelivery passed m

pub record HasNone (passed : Passed) : Type 0 where
  pub never : (c : Class) → Has passed c → ⊥

-- the deliveries of the message were added, and nothing else
pub record AddsDelivery (old new : Passed) (m : MsgId) : Type 0 where
  pub adds : HasDelivery new m
  pub keeps : (c : Class) → Has old c → Has new c
  pub only : (c : Class) → Has new c → Has old c ⊎ (Delivery m ≡ c)

-- the class of the entry was added, if it has one
pub record Adds (old new : Passed) (x : Entry) : Type 0 where
  pub adds : (c : Class) → class_of x ≡ Some c → Has new c
  pub keeps : (c : Class) → Has old c → Has new c
  pub only : (c : Class) → Has new c → Has old c ⊎ (class_of x ≡ Some c)

-- the entry may be next
pub record IsNew (classes : Passed) (x : Entry) : Type 0 where
  pub never : (c : Class) → class_barred_by x ≡ Some c → Has classes c → ⊥

-- the entry is too late
pub record IsOld (classes : Passed) (x : Entry) : Type 0 where
  pub class : Class
  pub barred : class_barred_by x ≡ Some class
  pub passed : Has classes class
