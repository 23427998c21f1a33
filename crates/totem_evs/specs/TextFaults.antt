-- Where each fault of a run's text is (docs/SPECIFICATIONS.md, "Run text").
use Rattle.std.specs.Prelude.{◌≡◌, ℕ, ◌<◌, ◌≤◌, ◌+◌, ◌-◌, ◌*◌, ◌==◌, ◌⊎◌, ◌&&◌, not, List, [], ◌∷◌, ◌++◌, length, codes, decimal, Option, Some, None, Bool, true, false, nat_lt, Ok, Err}
use Rattle.totem_names.specs.declared.conf.ConfId.{ConfId}
use Rattle.totem_names.specs.declared.fault.TextFault.{TextFault}
use Rattle.totem_names.specs.Sources.{Parsed, ◌>>=◌}
use Rattle.totem_names.specs.Numbers.{is_digit, number_at}
use Rattle.totem_names.specs.declared.version.Version.{Version}
use Rattle.totem_names.specs.Processes.{process_text, IsProcessIn}
use Rattle.totem_names.specs.Ranks.{id_of}
use Rattle.totem_names.specs.Texts.{conf_text, IsUpTo, IsConf}
use Rattle.totem_evs.specs.declared.part.Part.{Part}
use Rattle.totem_evs.specs.declared.stage.Stage.{Stage}
use Rattle.totem_evs.specs.declared.stage.OpenLog.{OpenLog}
use Rattle.totem_evs.specs.Members.{IsMembersIn}
use Rattle.totem_evs.specs.Endings.{writes_quiet}
use Rattle.totem_evs.specs.RunText.{members_text}
use Rattle.totem_evs.specs.Heads.{header_at}
use Rattle.totem_evs.specs.HeadFaults.{BreaksFirstLine, BeginsBelow}
use Rattle.totem_evs.specs.RunGrammar.{run_words, run_at}
use Rattle.totem_evs.specs.Parts.{part_at, first_stage, next_stage}

-- ---- the part that has the fault

-- from a stage on the bytes are read as these parts, one after the other; then the stage is `end`, and `rest` is left
abbrev pub ReadsTo : Stage → List ℕ → List Part → Stage → List ℕ → Type 0
ReadsTo stage bytes [] end rest = (stage ≡ end) × (bytes ≡ rest)
ReadsTo stage bytes (part ∷ parts) end rest = (mid : List ℕ) × (part_at stage bytes ≡ Ok (Some part, mid)) × ReadsTo (next_stage stage part) mid parts end rest

-- the first line is read, then some parts, and this holds for the stage after them and the bytes that follow
pub record IsInPart (bytes : List ℕ) (Is : Stage → List ℕ → Type 0) : Type 0 where
  pub version : Version
  pub mid : List ℕ
  pub header : header_at run_words bytes ≡ Ok (version, mid)
  pub parts : List Part
  pub stage : Stage
  pub rest : List ℕ
  pub reads : ReadsTo (first_stage version) mid parts stage rest
  pub is : Is stage rest

-- the next part has this fault
abbrev pub HasFault : TextFault → Stage → List ℕ → Type 0
HasFault fault stage rest = part_at stage rest ≡ Err fault

-- ---- Header

-- the first line is not that of a run
abbrev pub BreaksHeader : List ℕ → Type 0
BreaksHeader bytes = BreaksFirstLine run_words bytes

-- ---- Number

-- a number up to `max`, and then a digit that takes it past that
pub record IsPast (max : ℕ) (bytes : List ℕ) : Type 0 where
  pub number : ℕ
  pub byte : ℕ
  pub rest : List ℕ
  pub fits : IsUpTo max number
  pub digit : is_digit byte ≡ true
  pub past : max < 10 * number + (byte - 48)
  pub is : bytes ≡ decimal number ++ byte ∷ rest

-- no number up to `max` begins: the first byte is no digit, or a zero; or a digit takes it out of range
abbrev pub IsNoNumber : ℕ → List ℕ → Type 0
IsNoNumber max bytes = ((byte : ℕ) × (rest : List ℕ) × (bytes ≡ byte ∷ rest) × ((is_digit byte ≡ false) ⊎ (byte ≡ 48))) ⊎ IsPast max bytes

-- after some of the bytes the grammar reads a number up to `max`, whatever follows, and none begins
pub record BreaksNumber {Y : Type 0} (parse : List ℕ → Parsed Y) (bytes : List ℕ) : Type 0 where
  pub front : List ℕ
  pub max : ℕ
  pub limit : (max ≡ 65535) ⊎ (max ≡ 4294967295)
  pub after : (ℕ × ℕ) × List ℕ → Parsed Y
  pub rest : List ℕ
  pub is : bytes ≡ front ++ rest
  pub wants : (more : List ℕ) → parse (front ++ more) ≡ (number_at max more >>= after)
  pub none : IsNoNumber max rest

-- ---- Order

-- between logs, where a log may begin, one does whose process is not above that of the last one
abbrev pub OrderIn : Version → ℕ → ℕ → Option OpenLog → List ℕ → Type 0
OrderIn version logs last None bytes = BeginsBelow run_words version (logs == 32) last bytes
OrderIn version logs last (Some log) bytes = ⊥

abbrev pub HasOrder : Stage → List ℕ → Type 0
HasOrder stage rest = OrderIn stage.version stage.logs stage.last stage.log rest

-- ---- Members

-- a change with a member that is complete at the byte after it and whose identifier is not above that of the one before
pub record IsMemberBelow (version : Version) (full : Bool) (bytes : List ℕ) : Type 0 where
  pub conf : ConfId
  pub front : List ℕ
  pub above : ℕ
  pub member : ℕ
  pub byte : ℕ
  pub rest : List ℕ
  pub room : full ≡ false
  pub conf_fits : IsConf conf
  pub members : IsMembersIn version (front ++ above ∷ [])
  pub few : length (front ++ above ∷ []) < 32
  pub fits : IsProcessIn version member
  pub below : id_of member ≤ id_of above
  pub complete : is_digit byte ≡ false
  pub is : bytes ≡ codes "conf " ++ (conf_text conf ++ (members_text (process_text version) (front ++ above ∷ []) ++ 32 ∷ (process_text version member ++ byte ∷ rest)))

-- in a log that has not ended
abbrev pub MembersIn : Version → Option OpenLog → List ℕ → Type 0
MembersIn version None bytes = ⊥
MembersIn version (Some log) bytes = IsMemberBelow version (log.entries == 1000000) bytes

abbrev pub HasMembers : Stage → List ℕ → Type 0
HasMembers stage rest = MembersIn stage.version stage.log rest

-- ---- End

-- a log is closed as it may not be: it has no entry or ends in a failure, and `open` begins, or `quiet` where that is
-- written; or it does not end in a failure, may have more entries, and `failed` begins where `fail` and a space could
abbrev pub ClosesWrong : Bool → Bool → Bool → Bool → List ℕ → Type 0
ClosesWrong written full some failed bytes =
    ((rest : List ℕ) × (bytes ≡ codes "o" ++ rest) × ((some && not failed) ≡ false))
    ⊎ ((rest : List ℕ) × (bytes ≡ codes "q" ++ rest) × (written ≡ true) × ((some && not failed) ≡ false))
    ⊎ ((rest : List ℕ) × (bytes ≡ codes "faile" ++ rest) × (full ≡ false) × (failed ≡ false))

-- in a log that has not ended
abbrev pub EndIn : Version → Option OpenLog → List ℕ → Type 0
EndIn version None bytes = ⊥
EndIn version (Some log) bytes = ClosesWrong (writes_quiet version) (log.entries == 1000000) (nat_lt 0 log.entries) log.failed bytes

abbrev pub HasEnd : Stage → List ℕ → Type 0
HasEnd stage rest = EndIn stage.version stage.log rest

-- ---- TooMany

-- an entry begins in a full log: at its first letter; but if the last entry is a failure, `f` may still
-- become `failed`, and the space after `fail` is where the entry begins
abbrev pub BeginsEntry : Bool → List ℕ → Type 0
BeginsEntry failed bytes =
    ((rest : List ℕ) × ((bytes ≡ codes "c" ++ rest) ⊎ (bytes ≡ codes "s" ++ rest) ⊎ (bytes ≡ codes "d" ++ rest)))
    ⊎ ((rest : List ℕ) × (failed ≡ false) × (bytes ≡ codes "f" ++ rest))
    ⊎ ((rest : List ℕ) × (failed ≡ true) × (bytes ≡ codes "fail " ++ rest))

-- a change with a space after its 32nd member
pub record HasManyMembers (version : Version) (bytes : List ℕ) : Type 0 where
  pub conf : ConfId
  pub members : List ℕ
  pub rest : List ℕ
  pub conf_fits : IsConf conf
  pub are : IsMembersIn version members
  pub many : length members ≡ 32
  pub is : bytes ≡ codes "conf " ++ (conf_text conf ++ (members_text (process_text version) members ++ 32 ∷ rest))

-- between logs, the `l` of one more; in a log, one more entry, or one more member
abbrev pub TooManyIn : Version → ℕ → Option OpenLog → List ℕ → Type 0
TooManyIn version logs None bytes = (rest : List ℕ) × ((logs == 32) ≡ true) × (bytes ≡ codes "l" ++ rest)
TooManyIn version logs (Some log) bytes = (((log.entries == 1000000) ≡ true) × BeginsEntry log.failed bytes) ⊎ (((log.entries == 1000000) ≡ false) × HasManyMembers version bytes)

abbrev pub HasTooMany : Stage → List ℕ → Type 0
HasTooMany stage rest = TooManyIn stage.version stage.logs stage.log rest

-- ---- Word

-- no other fault of the grammar applies here
pub record HasNoOther (bytes : List ℕ) : Type 0 where
  pub header : BreaksHeader bytes → ⊥
  pub number : BreaksNumber run_at bytes → ⊥
  pub order : IsInPart bytes HasOrder → ⊥
  pub members : IsInPart bytes HasMembers → ⊥
  pub end : IsInPart bytes HasEnd → ⊥
  pub many : IsInPart bytes HasTooMany → ⊥
