-- Classes are disjoint.
use Rattle.std.proofs.Common.{arith}
use Rattle.totem_cert.proofs.Common.{◌≡◌, inl, List, refl, MsgId, Place, Log, IsEvent, DeliversAt, SameClass, InClass, WaitsFor, ClassAtMost}

pub one_message : (run : List Log) (e : Place) (m n : MsgId) → DeliversAt run e m → DeliversAt run e n → m ≡ n
one_message run e m n (x, h) (y, k) = cc

pub class_sym : (run : List Log) (e f : Place) → InClass run e f → InClass run f e
class_sym run e f h = grind arith

same_trans : (run : List Log) (e f g : Place) → SameClass run e f → SameClass run f g → SameClass run e g
same_trans run e f g h k = grind (arith, one_message)

pub class_trans : (run : List Log) (e f g : Place) → InClass run e f → InClass run f g → InClass run e g
class_trans run e f g h k = grind (arith, same_trans)

pub event_of : (run : List Log) (e f : Place) → InClass run e f → IsEvent run f
event_of run e f h = grind arith

pub class_self : (run : List Log) (e : Place) → IsEvent run e → InClass run e e
class_self run e event = inl (event, refl)

pub waits_same : (run : List Log) (e f g : Place) → InClass run e f → WaitsFor run f g → WaitsFor run e g
waits_same run e f g same waits = record { member = waits.member; shares = class_trans run e f waits.member same waits.shares; step = waits.step }

pub at_most_same : (run : List Log) (d e f : Place) → InClass run d e → ClassAtMost run e f → ClassAtMost run d f
at_most_same run d e f same most = record { least = most.least; shares = class_trans run d e most.least same most.shares; below = most.below }
