-- Steps to classes without a number.
use Rattle.totem_cert.proofs.Common.{◌≡◌, ℕ, zero, suc, ◌+◌, ◌<◌, ◌≤◌, ◌⊎◌, inl, inr, List, length, get_or, slice_get, Option, Some, None, cond, refl, sym, ◌∙◌, ap, arith, unwrap_or, is_some, common_steps, le-leb, lt-ltb, lt_of_not-le, slice_get_read, MsgId, Place, Entry, Send, Log, IsEvent, Strict, DeliversAt, Numbering, numbers_of, number_at, InClass, AreSendAndDelivery, Step, Placed, placed, IsLeft, IsPrevious, IsLeftSend, IsLeastSend, HoldsUp, IsStepOf, Rising, Table, IsTable, IsEntryAt, place, class_at, class_fed, given_at, IsWanted, AreFirsts, AreFirstsOf, IsNumbered, IsSound, NoneReady, IsClassOf, IsHeldBy}
use Rattle.totem_table.specs.Tables as tables
use Rattle.totem_cert.specs.declared.firsts.Firsts.{Firsts}
use Rattle.totem_cert.specs.declared.firsts.Wanted.{Wanted}
use Rattle.totem_cert.specs.declared.firsts.Wanted.TheVariants.{Sends, Members, Followers}
use Rattle.totem_cert.proofs.Lists.{previous, unless_past}
use Rattle.totem_cert.proofs.Classmates.{class_sym, event_of}
use Rattle.totem_cert.proofs.Classes.{alone_itself, in_class, class_from, class_within, feeds_in, in_feeds}
use Rattle.totem_cert.proofs.Countable.{alone_ready}
use Rattle.totem_cert.proofs.FirstPlaces.{le_parts, lt_parts, unwanted}
use Rattle.totem_cert.proofs.LineFacts.{same_parts, unnumbered_past, past_unnumbered, given_of, log_index, event_at, entry_event, at_most}
use Rattle.totem_cert.proofs.Walking.{led_to}
use Rattle.totem_cert.proofs.LogHeads.{feeds_send, send_feeds, class_delivers, free_ready, option_cases, none_unless}

strict_event : (run : List Log) (e f : Place) → Strict run e f → IsEvent run e
strict_event run e f strict = grind (arith, common_steps)

module _ (run : List Log) (lines : List Numbering) (sound : IsSound run lines) (none : NoneReady run lines) where
  -- what gets a position has got it already
  placed_numbered : (e : Place) → Placed run e → IsEvent run e → IsNumbered lines e
  placed_numbered e (placed waits) event = elim (option_cases (number_at lines e)) [
    | inr (k, is) ↦ record { number = k; given = is }
    | inl is ↦ absurd (none.none e (record { event = event; unnumbered = is; waits = λ g w. placed_numbered g (waits g w) (strict_event run g w.member w.step) }))
  ]

  pub left_unnumbered : (e : Place) → IsLeft run e → number_at lines e ≡ None
  left_unnumbered e left = grind (arith, common_steps)

  pub unnumbered_left : (e : Place) → IsEvent run e → number_at lines e ≡ None → IsLeft run e
  unnumbered_left e event is = record { event = event; never = λ h. (let n = placed_numbered e h event in let g = n.given in cc) }

  left_past : (q i : ℕ) → IsLeft run (place q i) → length (numbers_of lines q) ≤ i
  left_past q i left = unnumbered_past lines q i (left_unnumbered (place q i) left)

module _ (run : List Log) (table : Table) (lines : List Numbering) (rising : Rising run) (is_table : IsTable run table) (sound : IsSound run lines) (none : NoneReady run lines) where
  given_left : (k i : ℕ) (x : Entry) (a : IsEntryAt run k i x) → given_at lines k ≤ i → IsLeft run (place a.log.proc i)
  given_left k i x a le =
      let given = given_of run lines k a.log rising sound.fits a.is_log in
      unnumbered_left run lines sound none (place a.log.proc i) (x, entry_event run k i x rising a) (past_unnumbered lines a.log.proc i (omega arith))

  left_given : (k i : ℕ) (x : Entry) (a : IsEntryAt run k i x) → IsLeft run (place a.log.proc i) → given_at lines k ≤ i
  left_given k i x a left = let g = given_of run lines k a.log rising sound.fits a.is_log in let past = left_past run lines sound none a.log.proc i left in omega arith

  -- an entry has a previous one that is left exactly if it comes after the first entry without a number
  before_given : (k i : ℕ) (x : Entry) (a : IsEntryAt run k i x) (f : Place) → IsPrevious run f (place a.log.proc i) → given_at lines k < i
  before_given k i x a f prev =
      let (l, j, b, is) = event_at run f prev.left.event.0 prev.left.event.1 in
      let same : l ≡ k = log_index run l k b.log a.log rising b.is_log a.is_log (ap (λ (e : Place). e.proc) (sym is) ∙ prev.proc) in
      let le : given_at lines l ≤ j = left_given l j prev.left.event.0 b (rw is at prev.left) in
      let le' : given_at lines k ≤ j = rw same at le in
      let at : f.at ≡ suc j = ap (λ (e : Place). e.at) is in
      let before = prev.before in
      omega arith

  previous_left : (k i : ℕ) (x : Entry) (a : IsEntryAt run k i x) → given_at lines k < i → IsPrevious run (record { proc = a.log.proc; at = i }) (place a.log.proc i)
  previous_left k zero x a lt = absurd (omega arith)
  previous_left k (suc i) x a lt =
      let z = previous a.log.entries i x a.is_entry in
      record { proc = refl; before = omega arith; left = given_left k i z.0 (record { log = a.log; is_log = a.is_log; is_entry = z.1 }) (omega arith) }

  -- an event that is left, with its class c
  module _ (k i : ℕ) (x : Entry) (a : IsEntryAt run k i x) (left : IsLeft run (place a.log.proc i)) (c : ℕ) (in_c : class_at table k i x ≡ Some c) where
    mate_left : (e : Place) → InClass run (place a.log.proc i) e → IsLeft run e
    mate_left e shares = unnumbered_left run lines sound none e (event_of run (place a.log.proc i) e shares) (none_unless (number_at lines e)
        (λ n is. (let there = sound.sound.shared e (place a.log.proc i) n is (class_sym run (place a.log.proc i) e shares) in let none_here = left_unnumbered run lines sound none (place a.log.proc i) left in cc)))

    -- the other entries of the class
    record IsMateAt (e : Place) (l j : ℕ) : Type 0 where
      entry : Entry
      at : IsEntryAt run l j entry
      is : e ≡ place at.log.proc j
      class : class_at table l j entry ≡ Some c
      past : given_at lines l ≤ j

    mate_at : (e : Place) → InClass run (place a.log.proc i) e → (l j : ℕ) × IsMateAt e l j
    mate_at e shares =
        let mate = mate_left e shares in
        let (l, j, b, is) = event_at run e mate.event.0 mate.event.1 in (
          l,
          j,
          record {
            entry = mate.event.0;
            at = b;
            is = is;
            class = class_from run table rising is_table k i x a c in_c l j mate.event.0 b (rw is at shares);
            past = left_given l j mate.event.0 b (rw is at mate);
          },
        )

    member_wanted : (l j : ℕ) (y : Entry) → IsEntryAt run l j y → class_at table l j y ≡ Some c → given_at lines l ≤ j → IsWanted run table lines Members c l j
    member_wanted l j y b is le = record { entry = y; at = b; class = rw (le-leb (given_at lines l) j le) is }

    follower_wanted : (l j : ℕ) (y : Entry) → IsEntryAt run l j y → class_at table l j y ≡ Some c → given_at lines l < j → IsWanted run table lines Followers c l j
    follower_wanted l j y b is lt = record { entry = y; at = b; class = rw (lt-ltb (given_at lines l) j lt) is }

    -- the sends that the class waits for
    send_wanted : (l j : ℕ) (y : Entry) → IsEntryAt run l j y → AreSendAndDelivery y x → given_at lines l ≤ j → IsWanted run table lines Sends c l j
    send_wanted l j y b feeds le = record { entry = y; at = b; class = rw (le-leb (given_at lines l) j le) (feeds_in run table is_table k i l j c y x a b in_c feeds) }

    left_send : (g : Place) (m : MsgId) → IsLeftSend run g m → DeliversAt run (place a.log.proc i) m → (l j : ℕ) × (w : IsWanted run table lines Sends c l j) × (g ≡ place w.at.log.proc j)
    left_send g m h delivers =
        let y : Entry = Send m h.conf h.sends.0 in
        let (l, j, b, is) = event_at run g y h.sends.1 in
        let feeds = send_feeds y x run g (place a.log.proc i) m h.conf h.sends delivers h.sends.1 (entry_event run k i x rising a) in
        let le = left_given l j y b (rw is at h.left) in
        (l, j, record { entry = y; at = b; class = rw (le-leb (given_at lines l) j le) (feeds_in run table is_table k i l j c y x a b in_c feeds) }, is)

    wanted_send : (l j : ℕ) (w : IsWanted run table lines Sends c l j) → (m : MsgId) × IsLeftSend run (place w.at.log.proc j) m × DeliversAt run (place a.log.proc i) m
    wanted_send l j w =
        let parts = le_parts (given_at lines l) j c (class_fed w.entry (tables.number_at table l j)) w.class in
        let feeds = in_feeds run table is_table k i l j c x w.entry a w.at in_c parts.1 in
        let (m, conf, sends, delivers) = feeds_send w.entry x run (place w.at.log.proc j) (place a.log.proc i) feeds (entry_event run l j w.entry rising w.at) (entry_event run k i x rising a) in
        (m, record { conf = conf; sends = sends; left = given_left l j w.entry w.at parts.0 }, delivers)

    module _ (sends members followers : List (Option Place)) (send member follower : Option Place) (are_sends : AreFirsts run table lines Sends sends) (are_members : AreFirsts run table lines Members members)
        (are_followers : AreFirsts run table lines Followers followers) (at_send : slice_get sends c ≡ Some send) (at_member : slice_get members c ≡ Some member) (at_follower : slice_get followers c ≡ Some follower) where
      -- an entry of the class that is held up is a member, and if there is no send, a follower
      held_at : (f e : Place) → InClass run (place a.log.proc i) e → HoldsUp run f e → (l j : ℕ) × (mate : IsMateAt e l j) × (send ≡ None → given_at lines l < j)
      held_at f e shares holds = let (l, j, mate) = mate_at e shares in (l, j, mate, λ no_send. follows l j mate no_send holds)
        where
          follows : (l j : ℕ) (mate : IsMateAt e l j) → send ≡ None → HoldsUp run f e → given_at lines l < j
          follows l j mate no_send (inl prev) = before_given l j mate.entry mate.at f (rw mate.is at prev)
          follows l j mate no_send (inr (_, least)) =
              let (s, t, w, is) = left_send f least.message least.send (class_delivers run (place a.log.proc i) e least.message shares least.delivers) in
              absurd (unwanted run table lines Sends sends c s t are_sends (at_send ∙ ap Some no_send) w)

      -- something holds the class up
      pub none_held : cond (is_some send) member follower ≡ None → ⊥
      none_held is = go send refl is
        where
          go : (o : Option Place) → send ≡ o → cond (is_some o) member follower ≡ None → ⊥
          go (Some s) some no_member = unwanted run table lines Members members c k i are_members (at_member ∙ ap Some no_member) (member_wanted k i x a in_c (left_given k i x a left))
          go None no_send no_follower = none.none (place a.log.proc i) (free_ready run lines rising sound.fits k i x a (left_given k i x a left) (record {
            mates = λ l j y b shares. unless_past j (given_at lines l)
                (λ lt. unwanted run table lines Followers followers c l j are_followers (at_follower ∙ ap Some no_follower) (follower_wanted l j y b (class_from run table rising is_table k i x a c in_c l j y b shares) lt));
            sends = λ l j y b feeds. lt_of_not-le (λ le. unwanted run table lines Sends sends c l j are_sends (at_send ∙ ap Some no_send) (send_wanted l j y b feeds le));
          }))

      -- the step to the first entry that is held up
      pub held_step : (v : Step) (to : Place) → cond (is_some send) member follower ≡ Some to → v.to ≡ to → IsHeldBy lines send to v.from → IsStepOf run (place a.log.proc i) v
      held_step v to is to_is by = go send refl is
        where
          step : (l j : ℕ) (y : Entry) (b : IsEntryAt run l j y) → class_at table l j y ≡ Some c → given_at lines l ≤ j → to ≡ place b.log.proc j → (send ≡ None → given_at lines l < j)
              → ((m n : ℕ) (e : Place) → IsMateAt e m n → (send ≡ None → given_at lines m < n) → (l < m) ⊎ ((l ≡ m) × (j ≤ n))) → IsStepOf run (place a.log.proc i) v
          step l j y b class past at follows least = rw (led_to v (place b.log.proc j) (to_is ∙ at)) (record {
            shares = in_class run table rising is_table k i x a c in_c l j y b class;
            holds = holds (rw at at by);
            least = λ f e shares h. (let (m, n, mate, others) = held_at f e shares h in rw mate.is (at_most run l j m n y mate.entry rising b mate.at (least m n e mate others)));
          })
            where
              holds : IsHeldBy lines send (place b.log.proc j) v.from → HoldsUp run v.from (place b.log.proc j)
              holds (inl (lt, proc, before)) =
                  let given = given_of run lines l b.log rising sound.fits b.is_log in
                  let from : v.from ≡ record { proc = b.log.proc; at = j } = same_parts v.from b.log.proc j proc (omega arith) in
                  inl (rw from (previous_left l j y b (omega arith)))
              holds (inr (le, from)) = inr (
                λ g prev. (let lt = before_given l j y b g prev in let given = given_of run lines l b.log rising sound.fits b.is_log in omega arith),
                by_send send refl from,
              )
                where
                  by_send : (o : Option Place) → send ≡ o → v.from ≡ unwrap_or send (place b.log.proc j) → IsLeastSend run v.from (place b.log.proc j)
                  by_send None no_send from = absurd (let lt = follows no_send in let given = given_of run lines l b.log rising sound.fits b.is_log in omega arith)
                  by_send (Some s) some from =
                      let first = are_sends.found c s (at_send ∙ ap Some some) in
                      let (m, sends_m, delivers) = wanted_send first.k first.i first.is_wanted in
                      let from_is : v.from ≡ place first.is_wanted.at.log.proc first.i = from ∙ ap (λ (o : Option Place). unwrap_or o (place b.log.proc j)) some ∙ first.is in
                      rw from_is (record {
                        message = m;
                        delivers = class_delivers run (place b.log.proc j) (place a.log.proc i) m (class_sym run (place a.log.proc i) (place b.log.proc j) (in_class run table rising is_table k i x a c in_c l j y b class)) delivers;
                        send = sends_m;
                        least = λ g is_send. (let (p, q, w, g_is) = left_send g m is_send delivers in
                            rw g_is (at_most run first.k first.i p q first.is_wanted.entry w.entry rising first.is_wanted.at w.at (first.first p q w)));
                      })

          go : (o : Option Place) → send ≡ o → cond (is_some o) member follower ≡ Some to → IsStepOf run (place a.log.proc i) v
          go None no_send is =
              let first = are_followers.found c to (at_follower ∙ ap Some is) in
              let w = first.is_wanted in
              let parts = lt_parts (given_at lines first.k) first.i c (class_at table first.k first.i w.entry) w.class in
              step first.k first.i w.entry w.at parts.1 (let lt = parts.0 in omega arith) first.is (λ _. parts.0)
              (λ m n e mate others. first.first m n (follower_wanted m n mate.entry mate.at mate.class (others no_send)))
          go (Some s) some is =
              let first = are_members.found c to (at_member ∙ ap Some is) in
              let w = first.is_wanted in
              let parts = le_parts (given_at lines first.k) first.i c (class_at table first.k first.i w.entry) w.class in
              step first.k first.i w.entry w.at parts.1 parts.0 first.is (λ no_send. absurd cc)
              (λ m n e mate others. first.first m n (member_wanted m n mate.entry mate.at mate.class mate.past))

  -- an event that is alone in its class is held up by the entry before it
  pub alone_step : (k i : ℕ) (x : Entry) (a : IsEntryAt run k i x) → IsLeft run (place a.log.proc i) → class_at table k i x ≡ None → (v : Step) → v.to ≡ place a.log.proc i → IsHeldBy lines None (place a.log.proc i) v.from
      → IsStepOf run (place a.log.proc i) v
  alone_step k i x a left alone v to_is by = rw (led_to v (place a.log.proc i) to_is) (record {
    shares = inl (left.event, refl);
    holds = inl (holds by);
    least = λ f e shares h. (let same = alone_itself run table rising is_table k i x a e alone shares in inr (ap (λ (e : Place). e.proc) same, (let h' : suc i ≡ e.at = ap (λ (e : Place). e.at) same in omega arith)));
  })
    where
      given : given_at lines k ≡ length (numbers_of lines a.log.proc)
      given = given_of run lines k a.log rising sound.fits a.is_log

      not_head : given_at lines k ≡ i → ⊥
      not_head head = none.none (place a.log.proc i) (alone_ready run table rising is_table lines sound.fits k i x a head alone)

      holds : IsHeldBy lines None (place a.log.proc i) v.from → IsPrevious run v.from (place a.log.proc i)
      holds (inl (lt, proc, before)) =
          let from : v.from ≡ record { proc = a.log.proc; at = i } = same_parts v.from a.log.proc i proc (omega arith) in
          rw from (previous_left k i x a (omega (arith, given)))
      holds (inr (le, _)) = absurd (not_head (let past = left_past run lines sound none a.log.proc i left in omega (arith, given)))

  -- ---- what the code reads

  pub class_small : (left : Place) (c : ℕ) → IsClassOf run table left (Some c) → IsLeft run left → c < length table.messages.items + length table.confs.items
  class_small left c class is_left =
      let (k, i, a, is) = event_at run left is_left.event.0 is_left.event.1 in
      class_within run table is_table k i c is_left.event.0 a (sym (class.each k i is_left.event.0 a is))

  pub step_alone : (left : Place) (v : Step) → IsClassOf run table left None → IsLeft run left → v.to ≡ left → IsHeldBy lines None left v.from → IsStepOf run left v
  step_alone left v class is_left to by =
      let (k, i, a, is) = event_at run left is_left.event.0 is_left.event.1 in
      let step : IsStepOf run (place a.log.proc i) v = alone_step k i is_left.event.0 a (rw is at is_left) (sym (class.each k i is_left.event.0 a is)) v (to ∙ is) (rw is at by) in
      rw is step

  module _ (left : Place) (c : ℕ) (class : IsClassOf run table left (Some c)) (is_left : IsLeft run left) (firsts : Firsts) (are : AreFirstsOf run table lines firsts) (send member follower : Option Place)
      (send_is : send ≡ get_or firsts.sends.items c send) (member_is : member ≡ get_or firsts.members.items c member) (follower_is : follower ≡ get_or firsts.followers.items c follower) where
    read : (wanted : Wanted) (places : List (Option Place)) (o : Option Place) → AreFirsts run table lines wanted places → o ≡ get_or places c o → slice_get places c ≡ Some o
    read wanted places o are_wanted is = slice_get_read places _ c o refl (let lt = class_small left c class is_left in let long = are_wanted.long in omega arith) is

    pub step_none : cond (is_some send) member follower ≡ None → ⊥
    step_none nothing =
        let (k, i, a, is) = event_at run left is_left.event.0 is_left.event.1 in
        none_held k i is_left.event.0 a (rw is at is_left) c (sym (class.each k i is_left.event.0 a is)) firsts.sends.items firsts.members.items firsts.followers.items send member follower are.sends are.members are.followers
        (read Sends firsts.sends.items send are.sends send_is) (read Members firsts.members.items member are.members member_is) (read Followers firsts.followers.items follower are.followers follower_is) nothing

    pub step_held : (v : Step) (to : Place) → cond (is_some send) member follower ≡ Some to → v.to ≡ to → IsHeldBy lines send to v.from → IsStepOf run left v
    step_held v to found to_is by =
        let (k, i, a, is) = event_at run left is_left.event.0 is_left.event.1 in
        let step : IsStepOf run (place a.log.proc i) v =
        held_step k i is_left.event.0 a (rw is at is_left) c (sym (class.each k i is_left.event.0 a is)) firsts.sends.items firsts.members.items firsts.followers.items send member follower are.sends are.members are.followers
        (read Sends firsts.sends.items send are.sends send_is) (read Members firsts.members.items member are.members member_is) (read Followers firsts.followers.items follower are.followers follower_is) v to found to_is by in
        rw is step
