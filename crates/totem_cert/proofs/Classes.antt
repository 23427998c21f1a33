-- The classes of entries, by their numbers in a table.
use Rattle.totem_cert.proofs.Common.{◌≡◌, ℕ, ◌+◌, ◌<◌, inl, inr, List, length, Some, None, refl, ◌∙◌, ap, arith, common_steps, slice_get_within, ConfId, MsgId, Place, Entry, Conf, Send, Deliver, Log, AreOfOneClass, AreSendAndDelivery, InClass, Rising, Table, place, class_in, class_at, class_fed}
use Rattle.totem_table.specs.Tables.{IsTable, IsEntryAt, NamedBy, number_at}
use Rattle.totem_table.proofs.Single.{messages_tell, confs_tell}
use Rattle.totem_cert.proofs.Classmates.{event_of}
use Rattle.totem_cert.proofs.LineFacts.{entry_event}
use Rattle.totem_cert.proofs.LogHeads.{alike_class, class_alike}

-- an entry that is in no class is alone, and waits for no send
pub alone_alike : (m n : ℕ) (x y : Entry) → class_in m x n ≡ None → AreOfOneClass x y → ⊥
alone_alike m n x y none same = grind (arith, common_steps)

pub alone_fed : (m n : ℕ) (y x : Entry) → class_in m x n ≡ None → AreSendAndDelivery y x → ⊥
alone_fed m n y x none same = grind (arith, common_steps)

pub alike_itself : (m n c : ℕ) (x : Entry) → class_in m x n ≡ Some c → AreOfOneClass x x
alike_itself m n c x is = grind (arith, common_steps)

module _ (run : List Log) (table : Table) (is : IsTable run table) where
  named : (k i : ℕ) (x : Entry) → IsEntryAt run k i x → NamedBy table.messages.items table.confs.items x (number_at table k i)
  named k i x a = (is.rows.each k a.log a.is_log).each i x a.is_entry

  below_messages : (k i : ℕ) (m : MsgId) (x : ConfId) → IsEntryAt run k i (Deliver m x) → number_at table k i < length table.messages.items
  below_messages k i m x a = slice_get_within table.messages.items (number_at table k i) m (named k i (Deliver m x) a)

  pub class_within : (k i c : ℕ) (x : Entry) → IsEntryAt run k i x → class_at table k i x ≡ Some c → c < length table.messages.items + length table.confs.items
  class_within k i c (Conf x ms) a h =
      let p : length table.messages.items + number_at table k i ≡ c = cc in
      let lt = slice_get_within table.confs.items (number_at table k i) x (named k i (Conf x ms) a) in omega arith
  class_within k i c (Deliver m x) a h =
      let p : number_at table k i ≡ c = cc in
      let lt = below_messages k i m x a in omega arith
  class_within k i c x a h = absurd cc

  module _ (k i l j c : ℕ) where
    -- an entry of the class c, and another one of it
    pub same_in : (x y : Entry) → IsEntryAt run k i x → IsEntryAt run l j y → class_at table k i x ≡ Some c → AreOfOneClass x y → class_at table l j y ≡ Some c
    same_in (Conf x ms) (Conf y ns) a b in_c same = ap (λ (n : ℕ). Some (length table.messages.items + n)) ((confs_tell run table is l j k i (Conf y ns) (Conf x ms) y x b a refl refl).1 (let h : x ≡ y = same in cc)) ∙ in_c
    same_in (Deliver m x) (Deliver n y) a b in_c same = ap Some ((messages_tell run table is l j k i (Deliver n y) (Deliver m x) n m b a refl refl).1 (let h : m ≡ n = same in cc)) ∙ in_c
    same_in x y a b in_c same = absurd same

    pub in_same : (x y : Entry) → IsEntryAt run k i x → IsEntryAt run l j y → class_at table k i x ≡ Some c → class_at table l j y ≡ Some c → AreOfOneClass x y
    in_same (Conf x ms) (Conf y ns) a b p q =
        let p' : length table.messages.items + number_at table k i ≡ c = cc in
        let q' : length table.messages.items + number_at table l j ≡ c = cc in
        (confs_tell run table is k i l j (Conf x ms) (Conf y ns) x y a b refl refl).0 (omega arith)
    in_same (Deliver m x) (Deliver n y) a b p q = (messages_tell run table is k i l j (Deliver m x) (Deliver n y) m n a b refl refl).0 (let p' : number_at table k i ≡ c = cc in let q' : number_at table l j ≡ c = cc in omega arith)
    in_same (Conf x ms) (Deliver n y) a b p q =
        let p' : length table.messages.items + number_at table k i ≡ c = cc in
        let q' : number_at table l j ≡ c = cc in
        let lt = below_messages l j n y b in absurd (omega arith)
    in_same (Deliver m x) (Conf y ns) a b p q =
        let p' : number_at table k i ≡ c = cc in
        let q' : length table.messages.items + number_at table l j ≡ c = cc in
        let lt = below_messages k i m x a in absurd (omega arith)
    in_same x y a b p q = absurd cc

    -- a send of the message that the class delivers
    pub feeds_in : (y x : Entry) → IsEntryAt run k i x → IsEntryAt run l j y → class_at table k i x ≡ Some c → AreSendAndDelivery y x → class_fed y (number_at table l j) ≡ Some c
    feeds_in (Send m e s) (Deliver n d) a b in_c same = ap Some ((messages_tell run table is l j k i (Send m e s) (Deliver n d) m n b a refl refl).1 same) ∙ in_c
    feeds_in y x a b in_c same = absurd same

    pub in_feeds : (x y : Entry) → IsEntryAt run k i x → IsEntryAt run l j y → class_at table k i x ≡ Some c → class_fed y (number_at table l j) ≡ Some c → AreSendAndDelivery y x
    in_feeds (Deliver n d) (Send m e s) a b p q = (messages_tell run table is l j k i (Send m e s) (Deliver n d) m n b a refl refl).0 (let p' : number_at table k i ≡ c = cc in let q' : number_at table l j ≡ c = cc in omega arith)
    in_feeds (Conf d ms) (Send m e s) a b p q =
        let p' : length table.messages.items + number_at table k i ≡ c = cc in
        let q' : number_at table l j ≡ c = cc in
        let lt = slice_get_within table.messages.items (number_at table l j) m (named l j (Send m e s) b) in absurd (omega arith)
    in_feeds x y a b p q = absurd cc

module _ (run : List Log) (table : Table) (rising : Rising run) (is : IsTable run table) (k i : ℕ) (x : Entry) (a : IsEntryAt run k i x) where
  -- an event that is alone in its class
  pub alone_itself : (e : Place) → class_at table k i x ≡ None → InClass run (place a.log.proc i) e → place a.log.proc i ≡ e
  alone_itself e alone (inl (_, same)) = same
  alone_itself e alone (inr same) =
      let (y, at_y) = event_of run (place a.log.proc i) e (inr same) in
      absurd (alone_alike (length table.messages.items) (number_at table k i) x y alone (class_alike run (place a.log.proc i) e x y same (entry_event run k i x rising a) at_y))

  -- the events of a class have its number
  module _ (c : ℕ) (in_c : class_at table k i x ≡ Some c) (l j : ℕ) (y : Entry) (b : IsEntryAt run l j y) where
    pub in_class : class_at table l j y ≡ Some c → InClass run (place a.log.proc i) (place b.log.proc j)
    in_class also = inr (alike_class x y run (place a.log.proc i) (place b.log.proc j) (in_same run table is k i l j c x y a b in_c also) (entry_event run k i x rising a) (entry_event run l j y rising b))

    pub class_from : InClass run (place a.log.proc i) (place b.log.proc j) → class_at table l j y ≡ Some c
    class_from same = grind (arith, same_in run table is k i l j c x y a b in_c, class_alike run (place a.log.proc i) (place b.log.proc j) x y, entry_event run k i x rising a, entry_event run l j y rising b, alike_itself (length table.messages.items) (number_at table k i) c x in_c)
