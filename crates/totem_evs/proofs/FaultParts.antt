-- A fault of a run's text is that of its first line or of one of its parts.
use Rattle.totem_evs.proofs.Common.{◌==◌, nat_lt, ◌↔◌, ◌≡◌, ◌≢◌, ℕ, zero, suc, ◌<◌, ◌≤◌, List, [], ◌∷◌, ◌++◌, length, length-append, Bool, Option, Some, None, Ok, Err, refl, sym, ap, ◌∙◌, arith, Version, TextFault, Parsed, ◌>>=◌, after, parsed_is, GatheredLogs, none_gathered, gathered, ReadsTo, IsInPart, HasFault, BreaksHeader, OrderIn, HasOrder, MembersIn, HasMembers, EndIn, HasEnd, TooManyIn, HasTooMany}
use Rattle.totem_names.specs.declared.fault.TextFault.TheVariants as faults
use Rattle.totem_evs.specs.declared.lines.Line.{Line}
use Rattle.totem_evs.specs.declared.part.Part.{Part}
use Rattle.totem_evs.specs.declared.part.Part.TheVariants as parts
use Rattle.totem_evs.specs.declared.stage.Stage.{Stage}
use Rattle.totem_evs.specs.declared.stage.OpenLog.{OpenLog}
use Rattle.totem_evs.specs.Heads.{head_at, by_head, header_at}
use Rattle.totem_evs.specs.RunGrammar.{line_at, by_line, run_words, run_at}
use Rattle.totem_evs.specs.Parts.{begun_at, within_at, next_at, part_at, first_stage, next_stage}
use Rattle.totem_evs.proofs.SpelledLine.{line_text, line_is}
use Rattle.totem_evs.proofs.SpelledHeads.{head_text, head_is}
use Rattle.totem_evs.proofs.Folding.{as_part, line_part, rest_at, behind, step, first_step}
use Rattle.totem_evs.proofs.PartRuns.{Stands, comes, stands_next, of_placed, stands_first}
use Rattle.totem_evs.proofs.OnlyFaults.{header_only, line_only, head_only}
use Rattle.totem_evs.proofs.PartFaults.{bind_case, NotEnd, names_not_end, end_exactly}
use Rattle.totem_evs.proofs.HeadPlaces.{NotHeader, names_not_header, header_exactly as first_exactly, NotOrder, names_not_order, order_exactly, many_exactly as begun_many}
use Rattle.totem_evs.proofs.MembersFaults.{NotMembers, names_not_members, members_exactly, many_exactly}

-- ---- each part takes bytes

line_some : (version : Version) (l : Line) → 0 < length (line_text version l)
line_some version l = grind arith

head_some : (version : Version) (head : Option ℕ) → 0 < length (head_text run_words version head)
head_some version head = grind arith

shorter : (text rest bytes : List ℕ) → 0 < length text → bytes ≡ text ++ rest → length rest < length bytes
shorter text rest bytes some e = omega (arith, length-append text rest, ap length e)

part_takes : (version : Version) (logs last : ℕ) (log : Option OpenLog) (part : Option Part) (bytes rest : List ℕ) → next_at version logs last log bytes ≡ Ok (part, rest) → length rest < length bytes
unfolding begun_at within_at
part_takes version logs last None part bytes rest e =
    after (head_at run_words version (logs == 32) last bytes) as_part (part, rest) e (λ x mid e1 made.
    let left : mid ≡ rest = (parsed_is (by_head x None (λ p. Some (parts.Log p))) part mid rest made).1 in
    rw left at (shorter (head_text run_words version x) mid bytes (head_some version x)
    (head_is run_words version (logs == 32) last x bytes mid e1).1))
part_takes version logs last (Some log) part bytes rest e =
    after (line_at version (log.entries == 1000000) (nat_lt 0 log.entries) log.failed bytes) line_part (part, rest) e (λ x mid e1 made.
    let left : mid ≡ rest = (parsed_is (Some (by_line x parts.Close parts.Entry)) part mid rest made).1 in
    rw left at (shorter (line_text version x) mid bytes (line_some version x)
    (line_is version (log.entries == 1000000) (nat_lt 0 log.entries) log.failed x bytes mid e1).1))

-- ---- some parts, and then a fault

abbrev Found : Stage → List ℕ → TextFault → Type 0
Found stage bytes f = (ps : List Part) × (end : Stage) × (rest : List ℕ) × ReadsTo stage bytes ps end rest × HasFault f end rest

one_more : (stage : Stage) (g : GatheredLogs) (bytes : List ℕ) (f : TextFault) → Stands stage g → rest_at stage g bytes ≡ Err f
    → ((part : Part) (mid : List ℕ) → part_at stage bytes ≡ Ok (Some part, mid) → rest_at (next_stage stage part) (gathered g part) mid ≡ Err f → Found (next_stage stage part) mid f) → Found stage bytes f
one_more stage g bytes f h e again =
    bind_case (part_at stage bytes) (λ x. behind stage g x.0 x.1) f (sym (step stage g h.few h.entries (of_placed stage.log stage.last g h.placed) bytes) ∙ e)
    (λ k. ([], stage, bytes, (refl, refl), k))
    (λ part mid k after. go part mid k after)
  where
    go : (part : Option Part) (mid : List ℕ) → part_at stage bytes ≡ Ok (part, mid) → behind stage g part mid ≡ Err f → Found stage bytes f
    go None mid k after = absurd cc
    go (Some part) mid k after = let found = again part mid k after in (part ∷ found.0, found.1, found.2, (mid, k, found.3), found.4)

rest_breaks : (fuel : ℕ) (stage : Stage) (g : GatheredLogs) (bytes : List ℕ) (f : TextFault) → length bytes ≤ fuel → Stands stage g → rest_at stage g bytes ≡ Err f → Found stage bytes f
rest_breaks zero stage g bytes f few h e =
    one_more stage g bytes f h e (λ part mid k after. absurd (let less = part_takes stage.version stage.logs stage.last stage.log (Some part) bytes mid k in omega arith))
rest_breaks (suc fuel) stage g bytes f few h e =
    one_more stage g bytes f h e (λ part mid k after.
    let less = part_takes stage.version stage.logs stage.last stage.log (Some part) bytes mid k in
    rest_breaks fuel (next_stage stage part) (gathered g part) mid f (omega arith) (stands_next stage g part h (comes stage (Some part) bytes mid k)) after)

breaks_rest : (ps : List Part) (stage : Stage) (g : GatheredLogs) (bytes : List ℕ) (end : Stage) (rest : List ℕ) (f : TextFault) → Stands stage g → ReadsTo stage bytes ps end rest → HasFault f end rest → rest_at stage g bytes ≡ Err f
breaks_rest [] stage g bytes end rest f h reads fault =
    let here : part_at stage bytes ≡ Err f = rw (reads.0, reads.1) fault in
    step stage g h.few h.entries (of_placed stage.log stage.last g h.placed) bytes
    ∙ ap (λ (r : Parsed (Option Part)). r >>= λ x. behind stage g x.0 x.1) here
breaks_rest (part ∷ ps) stage g bytes end rest f h reads fault =
    step stage g h.few h.entries (of_placed stage.log stage.last g h.placed) bytes
    ∙ ap (λ (r : Parsed (Option Part)). r >>= λ x. behind stage g x.0 x.1) reads.1
    ∙ breaks_rest ps (next_stage stage part) (gathered g part) reads.0 end rest f (stands_next stage g part h (comes stage (Some part) bytes reads.0 reads.1)) reads.2 fault

-- after the first line, a run's fault is that of a part
run_breaks : {P : Type 0} (bytes : List ℕ) (f : TextFault) → run_at bytes ≡ Err f → (header_at run_words bytes ≡ Err f → P) → (IsInPart bytes (HasFault f) → P) → P
run_breaks bytes f e first then =
    bind_case (header_at run_words bytes) (λ v. rest_at (first_stage v.0) none_gathered v.1) f (sym (first_step bytes) ∙ e) first
    (λ v mid k after.
    let found = rest_breaks (length mid) (first_stage v) none_gathered mid f (omega arith) (stands_first v) after in
    then (record { version = v; mid = mid; header = k; parts = found.0; stage = found.1; rest = found.2; reads = found.3; is = found.4 }))

part_breaks : (bytes : List ℕ) (f : TextFault) → IsInPart bytes (HasFault f) → run_at bytes ≡ Err f
part_breaks bytes f h =
    first_step bytes ∙ ap (λ (r : Parsed Version). r >>= λ v. rest_at (first_stage v.0) none_gathered v.1) h.header
    ∙ breaks_rest h.parts (first_stage h.version) none_gathered h.mid h.stage h.rest f (stands_first h.version) h.reads h.is

-- the first line has but two faults
header_fault : (bytes : List ℕ) (f : TextFault) → f ≢ faults.Header → f ≢ faults.Truncated → header_at run_words bytes ≡ Err f → ⊥
header_fault bytes f other long e = (header_only run_words (λ g. f ≢ g) bytes other long).fault f e refl

-- a fault that is neither of the first line nor of a text that is too short
pub of_a_part : (bytes : List ℕ) (f : TextFault) → f ≢ faults.Header → f ≢ faults.Truncated → (run_at bytes ≡ Err f) ↔ IsInPart bytes (HasFault f)
of_a_part bytes f other long = (λ e. run_breaks bytes f e (λ k. absurd (header_fault bytes f other long k)) (λ h. h), part_breaks bytes f)

-- where that part has this fault is known
exactly_in : (bytes : List ℕ) (f : TextFault) (Is : Stage → List ℕ → Type 0) → f ≢ faults.Header → f ≢ faults.Truncated → ((stage : Stage) (rest : List ℕ) → HasFault f stage rest ↔ Is stage rest) → (run_at bytes ≡ Err f) ↔ IsInPart bytes Is
exactly_in bytes f Is other long same = (
  λ e. let h = (of_a_part bytes f other long).0 e in record { version = h.version; mid = h.mid; header = h.header; parts = h.parts; stage = h.stage; rest = h.rest; reads = h.reads; is = (same h.stage h.rest).0 h.is },
  λ h. part_breaks bytes f (record { version = h.version; mid = h.mid; header = h.header; parts = h.parts; stage = h.stage; rest = h.rest; reads = h.reads; is = (same h.stage h.rest).1 h.is }),
)

-- ---- Header

no_header : (version : Version) (logs last : ℕ) (log : Option OpenLog) (bytes : List ℕ) → next_at version logs last log bytes ≡ Err faults.Header → ⊥
unfolding begun_at within_at
no_header version logs last None bytes e =
    bind_case (head_at run_words version (logs == 32) last bytes) as_part faults.Header e (λ k. (head_only run_words version NotHeader (logs == 32) last bytes names_not_header tt tt).fault faults.Header k) (λ x rest h k. absurd cc)
no_header version logs last (Some log) bytes e =
    bind_case (line_at version (log.entries == 1000000) (nat_lt 0 log.entries) log.failed bytes) line_part faults.Header e
    (λ k. (line_only version NotHeader (log.entries == 1000000) (nat_lt 0 log.entries) log.failed bytes (record { names = names_not_header; members = tt; many = tt }) tt).fault faults.Header k) (λ x rest h k. absurd cc)

pub header_exactly : (bytes : List ℕ) → (run_at bytes ≡ Err faults.Header) ↔ BreaksHeader bytes
header_exactly bytes = (
  λ e. run_breaks bytes faults.Header e (λ k. (first_exactly run_words bytes).0 k) (λ h. absurd (no_header h.stage.version h.stage.logs h.stage.last h.stage.log h.rest h.is)),
  λ d. first_step bytes ∙ ap (λ (r : Parsed Version). r >>= λ v. rest_at (first_stage v.0) none_gathered v.1) ((first_exactly run_words bytes).1 d),
)

-- ---- Order, Members, End and TooMany

-- a part has the fault of its line
between_fault : (version : Version) (logs last : ℕ) (bytes : List ℕ) (f : TextFault) → (begun_at version logs last bytes ≡ Err f) ↔ (head_at run_words version (logs == 32) last bytes ≡ Err f)
unfolding begun_at
between_fault version logs last bytes f = grind (arith, bind_case, as_part)

within_fault : (version : Version) (entries : ℕ) (failed : Bool) (bytes : List ℕ) (f : TextFault) → (within_at version entries failed bytes ≡ Err f) ↔ (line_at version (entries == 1000000) (nat_lt 0 entries) failed bytes ≡ Err f)
unfolding within_at
within_fault version entries failed bytes f = grind (arith, bind_case, line_part)

both : {A B C : Type 0} → A ↔ B → B ↔ C → A ↔ C
both f g = (λ a. g.0 (f.0 a), λ c. f.1 (g.1 c))

order_in : (version : Version) (logs last : ℕ) (log : Option OpenLog) (bytes : List ℕ) → (next_at version logs last log bytes ≡ Err faults.Order) ↔ OrderIn version logs last log bytes
order_in version logs last None bytes = both (between_fault version logs last bytes faults.Order) (order_exactly run_words version (logs == 32) last bytes)
order_in version logs last (Some log) bytes = (
  λ e. (line_only version NotOrder (log.entries == 1000000) (nat_lt 0 log.entries) log.failed bytes (record { names = names_not_order; members = tt; many = tt }) tt).fault faults.Order ((within_fault version log.entries log.failed bytes faults.Order).0 e),
  λ h. absurd h,
)

members_in : (version : Version) (logs last : ℕ) (log : Option OpenLog) (bytes : List ℕ) → (next_at version logs last log bytes ≡ Err faults.Members) ↔ MembersIn version log bytes
members_in version logs last None bytes = (λ e. (head_only run_words version NotMembers (logs == 32) last bytes names_not_members (λ h. absurd cc) (λ h. absurd cc)).fault faults.Members ((between_fault version logs last bytes faults.Members).0 e) refl, λ h. absurd h)
members_in version logs last (Some log) bytes = both (within_fault version log.entries log.failed bytes faults.Members) (members_exactly version (log.entries == 1000000) (nat_lt 0 log.entries) log.failed bytes)

end_in : (version : Version) (logs last : ℕ) (log : Option OpenLog) (bytes : List ℕ) → (next_at version logs last log bytes ≡ Err faults.End) ↔ EndIn version log bytes
end_in version logs last None bytes = (λ e. (head_only run_words version NotEnd (logs == 32) last bytes names_not_end (λ h. absurd cc) (λ h. absurd cc)).fault faults.End ((between_fault version logs last bytes faults.End).0 e) refl, λ h. absurd h)
end_in version logs last (Some log) bytes = both (within_fault version log.entries log.failed bytes faults.End) (end_exactly version (log.entries == 1000000) (nat_lt 0 log.entries) log.failed bytes)

many_in : (version : Version) (logs last : ℕ) (log : Option OpenLog) (bytes : List ℕ) → (next_at version logs last log bytes ≡ Err faults.TooMany) ↔ TooManyIn version logs log bytes
many_in version logs last None bytes = both (between_fault version logs last bytes faults.TooMany) (begun_many run_words version (logs == 32) last bytes)
many_in version logs last (Some log) bytes = both (within_fault version log.entries log.failed bytes faults.TooMany) (many_exactly version (log.entries == 1000000) (nat_lt 0 log.entries) log.failed bytes)

pub run_order : (bytes : List ℕ) → (run_at bytes ≡ Err faults.Order) ↔ IsInPart bytes HasOrder
run_order bytes = exactly_in bytes faults.Order HasOrder (λ h. absurd cc) (λ h. absurd cc) (λ stage rest. order_in stage.version stage.logs stage.last stage.log rest)

pub run_members : (bytes : List ℕ) → (run_at bytes ≡ Err faults.Members) ↔ IsInPart bytes HasMembers
run_members bytes = exactly_in bytes faults.Members HasMembers (λ h. absurd cc) (λ h. absurd cc) (λ stage rest. members_in stage.version stage.logs stage.last stage.log rest)

pub run_end : (bytes : List ℕ) → (run_at bytes ≡ Err faults.End) ↔ IsInPart bytes HasEnd
run_end bytes = exactly_in bytes faults.End HasEnd (λ h. absurd cc) (λ h. absurd cc) (λ stage rest. end_in stage.version stage.logs stage.last stage.log rest)

pub run_many : (bytes : List ℕ) → (run_at bytes ≡ Err faults.TooMany) ↔ IsInPart bytes HasTooMany
run_many bytes = exactly_in bytes faults.TooMany HasTooMany (λ h. absurd cc) (λ h. absurd cc) (λ stage rest. many_in stage.version stage.logs stage.last stage.log rest)
