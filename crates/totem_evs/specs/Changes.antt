-- Specification 2 (docs/SPECIFICATIONS.md, "2 Changes of configuration").
use Rattle.std.specs.Prelude.{◌≡◌, ◌↔◌, ◌⊎◌, ℕ, ◌<◌, List, length, slice_get, Some, All, Contains}
use Rattle.totem_names.specs.declared.ring.RingId.{RingId}
use Rattle.totem_names.specs.declared.conf.ConfId.{ConfId}
use Rattle.totem_names.specs.declared.conf.ConfId.TheVariants.{Regular, Transitional}
use Rattle.totem_names.specs.declared.place.Place.{Place}
use Rattle.totem_evs.specs.declared.entry.Entry.{Entry}
use Rattle.totem_evs.specs.declared.entry.Entry.TheVariants.{Conf, Send, Deliver, Fail}
use Rattle.totem_evs.specs.declared.log.Log.{Log}
use Rattle.totem_evs.specs.Events.{ChangesWith, ChangesTo, IsChange, Fails, IsRegular, IsTransitional, IsQuiet, log_of}
use Rattle.totem_evs.specs.Steps.{ChangesAt, Precedes}
use Rattle.totem_evs.specs.Following.{IsNextChange, IsLastChange, LastChange, NeverFails}
use Rattle.totem_evs.specs.Missing.{HasLog}

-- where a quiet log ends in x, a member q of x does too, or may still arrive: q has a log without a failure, and its last
-- change is to x, or it is not quiet and never changes to x
pub record SharesEnd (run : List Log) (x : ConfId) (q : ℕ) : Type 0 where
  pub has_log : HasLog run q
  pub goes_on : NeverFails (log_of run q)
  pub ends : LastChange (log_of run q) x ⊎ ((IsQuiet run q → ⊥) × ((k : ℕ) → ChangesTo (log_of run q) k x → ⊥))

-- 2.1: the configuration in which a quiet log ends is the last one of each of its members
abbrev pub EndsTogether : List Log → Type 0
EndsTogether run = (p i : ℕ) (x : ConfId) (ms : List ℕ) (q : ℕ) → IsQuiet run p → IsLastChange (log_of run p) i x ms → Contains ms q → SharesEnd run x q

-- an entry that is no change, and the configuration that it names
abbrev pub NamesOnly : Entry → ConfId → Type 0
NamesOnly (Conf y members) x = ⊥
NamesOnly (Send m y service) x = y ≡ x
NamesOnly (Deliver m y) x = y ≡ x
NamesOnly (Fail y) x = y ≡ x

abbrev pub Names : List Entry → ℕ → ConfId → Type 0
Names log i x = (entry : Entry) × (slice_get log i ≡ Some entry) × NamesOnly entry x

-- the last change before i is to x
pub record StandsIn (log : List Entry) (i : ℕ) (x : ConfId) : Type 0 where
  pub from : ℕ
  pub before : from < i
  pub change : ChangesTo log from x
  pub none_between : (k : ℕ) → from < k → k < i → IsChange log k → ⊥

-- 2.2: a log begins with a change, each other entry names the configuration that it is in, and nothing follows a failure
pub record StaysInPlace (log : List Entry) : Type 0 where
  pub begins : 0 < length log → IsChange log 0
  pub named : (i : ℕ) (x : ConfId) → Names log i x → StandsIn log i x
  pub final : (i j : ℕ) (x : ConfId) → Fails log i x → i < j → j < length log → ⊥

-- 2.3: no log changes twice to one configuration, which has one list of members, and a process that changes to it is a member
pub record IsOneConfiguration (run : List Log) : Type 0 where
  pub once : (p i j : ℕ) (x : ConfId) → ChangesTo (log_of run p) i x → ChangesTo (log_of run p) j x → i ≡ j
  pub members : (p i q j : ℕ) (x : ConfId) (ms ns : List ℕ) → ChangesWith (log_of run p) i x ms → ChangesWith (log_of run q) j x ns → ms ≡ ns
  pub own : (p i : ℕ) (x : ConfId) (ms : List ℕ) → ChangesWith (log_of run p) i x ms → Contains ms p

-- a change to x with these members, and the next one, to y with those
pub record ChangesNext (log : List Entry) (i j : ℕ) (x y : ConfId) (ms ns : List ℕ) : Type 0 where
  pub first : ChangesWith log i x ms
  pub second : ChangesWith log j y ns
  pub next : IsNextChange log i j

-- 2.4: regular and transitional configurations alternate
pub record TakesTurns (log : List Entry) : Type 0 where
  pub regular_first : (i : ℕ) (x : ConfId) → ChangesTo log i x → ((k : ℕ) → k < i → IsChange log k → ⊥) → IsRegular x
  pub turns : (i j : ℕ) (x y : ConfId) (ms ns : List ℕ) → ChangesNext log i j x y ms ns → IsRegular x ↔ IsTransitional y
  pub from : (i j : ℕ) (c : RingId) (y : ConfId) (ms ns : List ℕ) → IsTransitional y → ChangesNext log i j (Regular c) y ms ns → All (Contains ms) ns
  pub to : (i j : ℕ) (x : ConfId) (c : RingId) (ms ns : List ℕ) → IsTransitional x → ChangesNext log i j x (Regular c) ms ns → All (Contains ns) ms
  pub named : (i j : ℕ) (next c : RingId) (least : ℕ) (ms ns : List ℕ) → ChangesNext log i j (Transitional least next) (Regular c) ms ns → c ≡ next

-- two logs with the same transitional configuration come to it from the same regular configuration
abbrev pub HasOneOrigin : List Log → Type 0
HasOneOrigin run = (p i j q k l : ℕ) (c d : RingId) (t : ConfId) (ms ns ks ls : List ℕ) → p < q → IsTransitional t
    → ChangesNext (log_of run p) i j (Regular c) t ms ns → ChangesNext (log_of run q) k l (Regular d) t ks ls → c ≡ d

-- 2.5: what precedes one change to x precedes each change to x, and what one precedes each precedes
pub record TwinsAgree (run : List Log) : Type 0 where
  pub before : (a e f : Place) (x : ConfId) → ChangesAt run e x → ChangesAt run f x → Precedes run a e → Precedes run a f
  pub after : (a e f : Place) (x : ConfId) → ChangesAt run e x → ChangesAt run f x → Precedes run e a → Precedes run f a

pub record ConfigurationChanges (run : List Log) : Type 0 where
  pub together : EndsTogether run
  pub in_place : (p : ℕ) → StaysInPlace (log_of run p)
  pub one : IsOneConfiguration run
  pub turns : (p : ℕ) → TakesTurns (log_of run p)
  pub origin : HasOneOrigin run
  pub twins : TwinsAgree run
