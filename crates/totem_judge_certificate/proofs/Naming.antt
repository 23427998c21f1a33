-- Classes by name: which entries are in one, and whether an entry is new.
use Rattle.totem_judge_certificate.proofs.Common.{◌≡◌, ◌↔◌, Bool, true, false, not, IsTrue, MatchBool, Some, refl, sym, ap, ◌∙◌, Entry, Conf, Deliver, AreOfOneClass, class_of, class_barred_by}
use Rattle.totem_judge_certificate.specs.declared.class.Class.{Class}
use Rattle.totem_judge_certificate.specs.declared.class.Class.TheVariants.{Change, Delivery}
use Rattle.totem_judge_certificate.specs.declared.passed.Passed.{Passed}
use Rattle.totem_judge_certificate.specs.PassedClasses.{Has, IsNew, IsOld}

-- entries of one class have one name for it
pub class_shared : (x y : Entry) → AreOfOneClass x y → (c : Class) × (class_of x ≡ Some c) × (class_of y ≡ Some c)
class_shared (Conf a ms) (Conf b ns) same = (Change a, refl, rw same refl)
class_shared (Deliver m a) (Deliver n b) same = (Delivery m, refl, rw same refl)
class_shared x y same = absurd same

pub shares_class : (x y : Entry) (c : Class) → class_of x ≡ Some c → class_of y ≡ Some c → AreOfOneClass x y
shares_class (Conf a ms) (Conf b ns) c e f = (let h : Change a ≡ Change b = (let both : Some (Change a) ≡ Some (Change b) = e ∙ sym f in cc) in cc)
shares_class (Deliver m a) (Deliver n b) c e f = (let h : Delivery m ≡ Delivery n = (let both : Some (Delivery m) ≡ Some (Delivery n) = e ∙ sym f in cc) in cc)
shares_class x y c e f = absurd cc

-- two entries of the class of a third one are of one class
pub through : (x y z : Entry) → AreOfOneClass x z → AreOfOneClass y z → AreOfOneClass x y
through x y z first second =
    let a = class_shared x z first in
    let b = class_shared y z second in
    let same : b.0 ≡ a.0 = (let both : Some b.0 ≡ Some a.0 = sym b.2 ∙ a.2 in cc) in
    shares_class x y a.0 a.1 (b.1 ∙ ap (λ (c : Class). Some c) same)

pub back : (x y : Entry) → AreOfOneClass x y → AreOfOneClass y x
back x y same = let a = class_shared x y same in shares_class y x a.0 a.2 a.1

-- an entry of a class is barred by that class
pub own_class_bars : (x : Entry) (c : Class) → class_of x ≡ Some c → class_barred_by x ≡ Some c
own_class_bars (Conf a ms) c e = e
own_class_bars (Deliver m a) c e = e
own_class_bars x c e = absurd cc

-- an entry is new unless the class that it bars was passed
pub barred : (passed : Passed) (x : Entry) (class : Class) (b : Bool) → class_barred_by x ≡ Some class → (IsTrue b ↔ Has passed class) → MatchBool (not b) (IsNew passed x) (IsOld passed x)
barred passed x class true is iff = record { class = class; barred = is; passed = iff.0 refl }
barred passed x class false is iff = record { never = λ c bars has. (let same : class ≡ c = (let both = sym is ∙ bars in cc) in absurd (let no = iff.1 (rw same has) in cc)) }
