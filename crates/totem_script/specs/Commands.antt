-- What the words of a line say (docs/PROTOCOL.md, "Scripts"). A fault is that of the line's first unexpected byte: Number if a
-- number is expected there and is missing or out of range, and Word otherwise.
use Rattle.std.specs.Prelude.{ℕ, ◌&&◌, ◌||◌, List, [], ◌∷◌, ◌++◌, length, Bool, if◌then◌else◌, nat_lt, nat_le, nat_eq, Option, None, Some, Ok, Err, codes}
use Rattle.std.specs.List.{list_all, starts_with}
use Rattle.std.specs.Str.{bytes_eq}
use Rattle.totem_names.specs.declared.message.Service.{Service}
use Rattle.totem_names.specs.declared.message.Service.TheVariants.{Agreed, Safe}
use Rattle.totem_names.specs.Numbers.{is_digit}
use Rattle.totem_script.specs.declared.fault.LineFault.TheVariants.{Word}
use Rattle.totem_script.specs.declared.command.Command.{Command}
use Rattle.totem_script.specs.declared.command.Command.TheVariants as command
use Rattle.totem_script.specs.declared.keyword.Keyword.{Keyword}
use Rattle.totem_script.specs.declared.keyword.Keyword.TheVariants as keyword
use Rattle.totem_script.specs.declared.script_version.ScriptVersion.{ScriptVersion}
use Rattle.totem_script.specs.Keywords.{keyword_of}
use Rattle.totem_script.specs.Numbers.{number_in, process_in, ring_in, only}
use Rattle.totem_names.specs.Sources.{◌>>=◌}
use Rattle.totem_script.specs.Parsed.{Parsed}
use Rattle.totem_script.specs.Parts.{parts}

-- the words of a line, which single spaces separate
abbrev pub words_of : List ℕ → List (List ℕ)
words_of line = parts 32 line

-- a number from 1 to 100,000, and nothing after it
abbrev pub number_words : List (List ℕ) → Parsed ℕ
number_words [] = Err Word
number_words (w ∷ ws) = do
  n ← number_in 100000 w
  only n ws

-- a process, and nothing after it
abbrev pub process_words : List (List ℕ) → Parsed ℕ
process_words [] = Err Word
process_words (w ∷ ws) = do
  p ← process_in w
  only p ws

-- each word is one more process, after these
unfoldable pub processes_from : List ℕ → List (List ℕ) → Parsed (List ℕ)
processes_from procs [] = Ok procs
processes_from procs (w ∷ ws) = do
  p ← process_in w
  processes_from (procs ++ p ∷ []) ws

-- at least one process
abbrev pub some_processes : List (List ℕ) → Parsed (List ℕ)
some_processes [] = Err Word
some_processes (w ∷ ws) = processes_from [] (w ∷ ws)

-- a ring and its members
abbrev pub ring_words : List (List ℕ) → Parsed Command
ring_words [] = Err Word
ring_words (w ∷ ws) = do
  ring ← ring_in w
  members ← some_processes ws
  Ok (command.Ring ring members)

-- `a` or `s`
abbrev pub service_in : List ℕ → Parsed Service
service_in word = if bytes_eq word (codes "a") then Ok Agreed else if bytes_eq word (codes "s") then Ok Safe else Err Word

-- `0` to `9` or `a` to `z`
abbrev pub may_stand : ℕ → Bool
may_stand b = is_digit b || (nat_le 97 b && nat_le b 122)

-- 1 to 64 of these bytes
abbrev pub is_payload : List ℕ → Bool
is_payload word = nat_lt 0 (length word) && (nat_le (length word) 64 && list_all may_stand word)

abbrev pub payload_in : List ℕ → Parsed (List ℕ)
payload_in word = if is_payload word then Ok word else Err Word

-- a payload, and nothing after it
abbrev pub payload_words : ℕ → Service → List (List ℕ) → Parsed Command
payload_words proc service [] = Err Word
payload_words proc service (w ∷ ws) = do
  payload ← payload_in w
  only (command.Submit proc service payload) ws

-- a service and a payload
abbrev pub service_words : ℕ → List (List ℕ) → Parsed Command
service_words proc [] = Err Word
service_words proc (w ∷ ws) = do
  service ← service_in w
  payload_words proc service ws

-- a process, a service and a payload
abbrev pub submit_words : List (List ℕ) → Parsed Command
submit_words [] = Err Word
submit_words (w ∷ ws) = do
  proc ← process_in w
  service_words proc ws

abbrev pub process_some : List ℕ → Parsed (Option ℕ)
process_some word = do
  p ← process_in word
  Ok (Some p)

-- a process, or None if the word is a stroke
abbrev pub group_word : List ℕ → Parsed (Option ℕ)
group_word word =
    if bytes_eq word (codes "/") then Ok None
    else if starts_with nat_eq word (codes "/") then Err Word
    else process_some word

-- the groups so far, the group so far, and the words left: a group begins with a process, and then follows another process,
-- or a stroke, after which the next group begins
unfoldable pub groups_from : List (List ℕ) → List ℕ → List (List ℕ) → Parsed (List (List ℕ))
groups_from groups [] [] = Err Word
groups_from groups [] (w ∷ ws) = do
  p ← process_in w
  groups_from groups (p ∷ []) ws
groups_from groups (q ∷ qs) [] = Ok (groups ++ (q ∷ qs) ∷ [])
groups_from groups (q ∷ qs) (w ∷ ws) = do
  next ← group_word w
  elim next [ None ↦ groups_from (groups ++ (q ∷ qs) ∷ []) [] ws | Some p ↦ groups_from groups (q ∷ qs ++ p ∷ []) ws ]

abbrev pub count_command : (ℕ → Command) → List (List ℕ) → Parsed Command
count_command make ws = do
  n ← number_words ws
  Ok (make n)

abbrev pub process_command : (ℕ → Command) → List (List ℕ) → Parsed Command
process_command make ws = do
  p ← process_words ws
  Ok (make p)

abbrev pub cut_words : List (List ℕ) → Parsed Command
cut_words ws = do
  groups ← groups_from [] [] ws
  Ok (command.Cut groups)

-- what the words after the keyword say
abbrev pub command_by : Keyword → List (List ℕ) → Parsed Command
command_by keyword.Ring ws = ring_words ws
command_by keyword.Submit ws = submit_words ws
command_by keyword.Run ws = count_command command.Run ws
command_by keyword.Drop ws = count_command command.Drop ws
command_by keyword.Repeat ws = count_command command.Repeat ws
command_by keyword.Cut ws = cut_words ws
command_by keyword.Join ws = only command.Join ws
command_by keyword.Timer ws = process_command command.Timer ws
command_by keyword.Crash ws = process_command command.Crash ws
command_by keyword.Return ws = process_command command.Return ws
command_by keyword.End ws = only command.End ws

-- the first word is a keyword
abbrev pub command_named : Option Keyword → List (List ℕ) → Parsed Command
command_named None ws = Err Word
command_named (Some k) ws = command_by k ws

abbrev pub command_in : ScriptVersion → List (List ℕ) → Parsed Command
command_in version [] = Err Word
command_in version (w ∷ ws) = command_named (keyword_of version w) ws

-- the command of a line in a script of this version, or the fault of its first unexpected byte
abbrev pub command_of : ScriptVersion → List ℕ → Parsed Command
command_of version line = command_in version (words_of line)
