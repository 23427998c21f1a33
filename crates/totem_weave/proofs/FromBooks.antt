-- From what the books recorded to what is woven.
use Rattle.totem_weave.proofs.Common.{◌≡◌, ℕ, ◌<◌, ◌⊎◌, inl, inr, List, map, length, slice_get, get_or, Some, refl, sym, ◌∙◌, ap, subst, arith, Contains, length-map, get_or-map, slice_get_within, slice_get_cases, slice_get_read, get_or_from_slice_get, slice_get-map, RingName, PlaceName, id_of, Message, start, run, IsPrefixOf, one_order_holds, ids_of, Closed, acts_of, IsWeave, IsStuck, recorded, recorded_of, AreTracksOf, IsCallOf, AreApart, steps_of, start_of, IsUnderWay, IsThrough, IsFirstLeft, HasTaken, up_of_tracks, CanWeave, IsWoven, AreOneOrder, IsOrphan, handed_by}
use Rattle.totem_weave.specs.declared.track.Track.{Track}
use Rattle.totem_weave.specs.declared.weaver.Weaver.{Weaver}
use Rattle.totem_weave.specs.declared.woven.Woven.{Woven}
use Rattle.totem_weave.proofs.OthersActs.{members-run}
use Rattle.totem_weave.proofs.Greatest.{stuck_is_greatest_holds}
use Rattle.totem_weave.proofs.TracksOf.{IsSaid, is_said, rising_are_apart, steps_are, weave_is, stuck_is, all_done, done_before}
use Rattle.totem_weave.proofs.RecordedOf.{tracks_say, recorded_of_members, as_many, IsTrackOf, track_at}
use Rattle.totem_weave.proofs.Handed.{handed_is}

-- what is known of tracks that were made of books that can be woven
pub record IsReady (ring : RingName) (members : List ℕ) (books : List Closed) (tracks : List Track) : Type 0 where
  pub said : IsSaid (recorded_of ring books members) (ids_of members) tracks
  pub apart : AreApart tracks
  pub steps : (id : ℕ) → steps_of tracks id ≡ recorded_of ring books members id

pub is_ready : (ring : RingName) (members : List ℕ) (books : List Closed) (tracks : List Track) → CanWeave ring members books → AreTracksOf ring books members tracks
    → IsReady ring members books tracks
is_ready ring members books tracks can are =
    let said = is_said (recorded_of ring books members) (ids_of members) tracks (tracks_say ring books members tracks can.rising are) in
    let apart = rising_are_apart tracks (rw said.procs can.rising) in
    record {
      said = said;
      apart = apart;
      steps = steps_are (recorded_of ring books members) (ids_of members) tracks said apart (recorded_of_members ring books members);
    }

-- where each member is through, the books are woven
pub woven_is : (ring : RingName) (members : List ℕ) (books : List Closed) (tracks : List Track) (w : Weaver) (woven : Woven)
    → CanWeave ring members books → AreTracksOf ring books members tracks → IsUnderWay tracks w → w.ring ≡ ring
    → ((k : ℕ) → k < length tracks → IsThrough tracks w k)
    → woven.steps.items ≡ w.moves.items → map (λ h. (h.0, h.1.items)) woven.handed.items ≡ up_of_tracks ring members tracks
    → IsWoven ring members books woven
woven_is ring members books tracks w woven can are h same through steps handed =
    let ready = is_ready ring members books tracks can are in
    let weave : IsWeave (start ring (ids_of members)) (recorded_of ring books members) w.moves.items =
    weave_is ring (recorded_of ring books members) (ids_of members) tracks w.moves.items ready.said.procs ready.steps (rw (← same) h.weave) in
    let whole : (id : ℕ) → acts_of id w.moves.items ≡ recorded_of ring books members id = λ id. all_done tracks w ready.apart h through id ∙ ready.steps id in
    record {
      can_weave = can;
      is_schedule = rw steps weave.is_schedule;
      none_refused = rw steps weave.none_refused;
      whole = λ id. rw steps (whole id);
      handed = rw steps (handed ∙ handed_is ring books members tracks w.moves.items can.rising are whole);
    }

-- a member's identifier is among the members'
id_among : (members : List ℕ) (p : ℕ) → Contains members p → Contains (ids_of members) (id_of p)
id_among members p (k, within, is) = (
  k,
  omega (arith, within, length-map members id_of),
  get_or-map id_of members k p (id_of p) within ∙ ap id_of is,
)

-- the lists of messages that the members delivered are in one order
pub one_order_is : (ring : RingName) (members : List ℕ) (books : List Closed) (woven : Woven) → IsWoven ring members books woven → AreOneOrder (map (λ h. (h.0, h.1.items)) woven.handed.items)
one_order_is ring members books woven h a b a_in b_in =
    of_members (rw (← h.handed) a_in) (rw (← h.handed) b_in)
  where
    lists_of : ℕ → ℕ × List Message
    lists_of p = (p, (run (start ring (ids_of members)) woven.steps.items).up (id_of p))

    of_member : (x : ℕ × List Message) → Contains (handed_by ring members woven.steps.items) x
        → (p : ℕ) × Contains members p × (x.1 ≡ (run (start ring (ids_of members)) woven.steps.items).up (id_of p))
    of_member x (k, within, is) = elim (slice_get_cases members k).1 [
      | inl (p, lt, at, read) ↦ (
          let there : slice_get (handed_by ring members woven.steps.items) k ≡ Some (lists_of p) = slice_get-map lists_of members k ∙ rw at refl in
          let same : x ≡ lists_of p = sym is ∙ get_or_from_slice_get (handed_by ring members woven.steps.items) k (lists_of p) x there in
          (p, (k, lt, read), ap (λ (y : ℕ × List Message). y.1) same)
          )
      | inr (past, none) ↦ (
          let long : length (handed_by ring members woven.steps.items) ≡ length members = length-map members lists_of in
          absurd (omega (arith, long, past, within))
          )
    ]

    of_members : Contains (handed_by ring members woven.steps.items) a → Contains (handed_by ring members woven.steps.items) b → IsPrefixOf a.1 b.1 ⊎ IsPrefixOf b.1 a.1
    of_members a_in b_in =
        let p = of_member a a_in in
        let q = of_member b b_in in
        rw (p.2, q.2) ((one_order_holds ring (ids_of members) woven.steps.items h.is_schedule).one_prefix (id_of p.0) (id_of q.0)
        (rw members-run (id_among members p.0 p.1)) (rw members-run (id_among members q.0 q.1)))

-- the first member that has steps left, and its track
pub record IsLeft (ring : RingName) (members : List ℕ) (books : List Closed) (tracks : List Track) (k p : ℕ) : Type 0 where
  pub member : slice_get members k ≡ Some p
  pub track : Track
  pub at : slice_get tracks k ≡ Some track
  pub is_track : IsTrackOf ring books p track

pub is_left : (ring : RingName) (members : List ℕ) (books : List Closed) (tracks : List Track) (k p : ℕ)
    → AreTracksOf ring books members tracks → k < length tracks → p ≡ get_or members k p → IsLeft ring members books tracks k p
is_left ring members books tracks k p are within read = elim (slice_get_cases tracks k).1 [
  | inl (t, lt, at, same) ↦ record { member = member; track = t; at = at; is_track = track_at ring books members tracks k p t are member at }
  | inr (past, none) ↦ absurd (omega (arith, past, within))
]
  where
    member : slice_get members k ≡ Some p
    member = slice_get_read members (length members) k p refl (omega (arith, as_many ring books members tracks are, within)) read

-- its next step is recorded
pub next_is_recorded : (ring : RingName) (members : List ℕ) (books : List Closed) (tracks : List Track) (w : Weaver) (k step p : ℕ)
    → IsLeft ring members books tracks k p → IsFirstLeft tracks w k → HasTaken tracks w k step → step < length (recorded ring books p)
next_is_recorded ring members books tracks w k step p is first taken =
    let less = first.left is.track is.at in
    let count = taken is.track is.at in
    let long = ap length is.is_track.acts in
    omega (arith, less, count, long)

-- the first member that has steps left stopped at an orphan
pub orphan_is : (ring : RingName) (members : List ℕ) (books : List Closed) (tracks : List Track) (w : Weaver) (k step p : ℕ) (place : PlaceName)
    → CanWeave ring members books → AreTracksOf ring books members tracks → IsUnderWay tracks w → w.ring ≡ ring
    → IsStuck (start_of w.ring tracks) (steps_of tracks) w.moves.items → IsLeft ring members books tracks k p → IsFirstLeft tracks w k
    → HasTaken tracks w k step → IsCallOf ring books p step place
    → IsOrphan ring members books place
orphan_is ring members books tracks w k step p place can are h same stuck is first taken call =
    let ready = is_ready ring members books tracks can are in
    let weave : IsWeave (start ring (ids_of members)) (recorded_of ring books members) w.moves.items =
    weave_is ring (recorded_of ring books members) (ids_of members) tracks w.moves.items ready.said.procs ready.steps (rw (← same) h.weave) in
    let is_stuck : IsStuck (start ring (ids_of members)) (recorded_of ring books members) w.moves.items =
    stuck_is ring (recorded_of ring books members) (ids_of members) tracks w.moves.items ready.said.procs ready.steps (rw (← same) stuck) in
    let same_member : is.track.proc ≡ id_of place.proc = is.is_track.proc ∙ ap id_of (sym call.proc) in
    let here : IsCallOf ring books place.proc (length (acts_of (id_of place.proc) w.moves.items)) place = of_step (sym call.proc) same_member in
    record {
      can_weave = can;
      member = (k, slice_get_within members k p is.member, get_or_from_slice_get members k p place.proc is.member ∙ sym call.proc);
      so_far = w.moves.items;
      weave = weave;
      stuck = is_stuck;
      least = λ id below. done_before tracks w k is.track (rw ready.said.procs can.rising) h first is.at id (rw same_member below) ∙ ready.steps id;
      call = here;
      never = λ other other_is.
          let most = stuck_is_greatest_holds ring (ids_of members) (recorded_of ring books members) w.moves.items other weave is_stuck other_is (id_of place.proc) in
          let less = here.stands.not_behind in
          omega (arith, most, less);
    }
  where
    of_step : p ≡ place.proc → is.track.proc ≡ id_of place.proc → IsCallOf ring books place.proc (length (acts_of (id_of place.proc) w.moves.items)) place
    of_step process identifier =
        let P : ℕ → Type 0 = λ id. IsCallOf ring books place.proc (length (acts_of id w.moves.items)) place in
        let Q : ℕ → Type 0 = λ n. IsCallOf ring books place.proc n place in
        let R : ℕ → Type 0 = λ q. IsCallOf ring books q step place in
        subst P identifier (subst Q (taken is.track is.at) (subst R process call))
