-- Steps between events, and what precedes what (docs/SPECIFICATIONS.md, "Steps and precedence").
use Rattle.std.specs.Prelude.{◌≡◌, ◌≢◌, ◌⊎◌, List, Some}
use Rattle.totem_names.specs.declared.conf.ConfId.{ConfId}
use Rattle.totem_names.specs.declared.message.MsgId.{MsgId}
use Rattle.totem_names.specs.declared.place.Place.{Place}
use Rattle.totem_names.specs.declared.message.Service.{Service}
use Rattle.totem_evs.specs.declared.entry.Entry.TheVariants.{Conf, Send, Deliver}
use Rattle.totem_evs.specs.declared.log.Log.{Log}
use Rattle.totem_evs.specs.Events.{entry_at, IsEvent, IsBefore}

-- e sends m in x; e delivers m; e changes to x
abbrev pub SendsAt : List Log → Place → MsgId → ConfId → Type 0
SendsAt run e m x = (service : Service) × (entry_at run e ≡ Some (Send m x service))

abbrev pub DeliversAt : List Log → Place → MsgId → Type 0
DeliversAt run e m = (x : ConfId) × (entry_at run e ≡ Some (Deliver m x))

abbrev pub ChangesAt : List Log → Place → ConfId → Type 0
ChangesAt run e x = (members : _) × (entry_at run e ≡ Some (Conf x members))

-- from an event to a later one of its log, or from a send to a delivery of the same message
abbrev pub Strict : List Log → Place → Place → Type 0
Strict run e f =
    (IsEvent run e × IsEvent run f × IsBefore e f)
    ⊎ ((m : MsgId) × (x : ConfId) × SendsAt run e m x × DeliversAt run f m)

-- two different changes to one configuration
abbrev pub Twin : List Log → Place → Place → Type 0
Twin run e f = (x : ConfId) × ChangesAt run e x × ChangesAt run f x × (e ≢ f)

-- a list of steps, which may be empty, leads from e to f
pub data Leads (run : List Log) : Place → Place → Type 0 where
  here : {e : Place} → Leads run e e
  strict : {e f g : Place} → Strict run e f → Leads run f g → Leads run e g
  twin : {e f g : Place} → Twin run e f → Leads run f g → Leads run e g

-- a list of steps, at least one of them strict, leads from e to f
abbrev pub Precedes : List Log → Place → Place → Type 0
Precedes run e f = (a b : Place) × Leads run e a × Strict run a b × Leads run b f

-- two events of one class: changes to one configuration, or deliveries of one message
abbrev pub SameClass : List Log → Place → Place → Type 0
SameClass run e f =
    ((x : ConfId) × ChangesAt run e x × ChangesAt run f x)
    ⊎ ((m : MsgId) × DeliversAt run e m × DeliversAt run f m)
