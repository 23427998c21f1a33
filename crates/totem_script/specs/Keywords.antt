-- The first word of a line (docs/PROTOCOL.md, "Scripts").
use Rattle.std.specs.Prelude.{ℕ, List, if◌then◌else◌, Option, None, Some, codes}
use Rattle.std.specs.Str.{bytes_eq}
use Rattle.totem_script.specs.declared.keyword.Keyword.{Keyword}
use Rattle.totem_script.specs.declared.keyword.Keyword.TheVariants as keyword
use Rattle.totem_script.specs.declared.script_version.ScriptVersion.{ScriptVersion}
use Rattle.totem_script.specs.declared.script_version.ScriptVersion.TheVariants.{One, Two}

-- `return` is a keyword in version 2 only
abbrev pub return_in : ScriptVersion → Option Keyword
return_in One = None
return_in Two = Some keyword.Return

-- the keyword that a word is in this version
abbrev pub keyword_of : ScriptVersion → List ℕ → Option Keyword
keyword_of version word =
    if bytes_eq word (codes "ring") then Some keyword.Ring
    else if bytes_eq word (codes "submit") then Some keyword.Submit
    else if bytes_eq word (codes "run") then Some keyword.Run
    else if bytes_eq word (codes "drop") then Some keyword.Drop
    else if bytes_eq word (codes "repeat") then Some keyword.Repeat
    else if bytes_eq word (codes "cut") then Some keyword.Cut
    else if bytes_eq word (codes "join") then Some keyword.Join
    else if bytes_eq word (codes "timer") then Some keyword.Timer
    else if bytes_eq word (codes "crash") then Some keyword.Crash
    else if bytes_eq word (codes "return") then return_in version
    else if bytes_eq word (codes "end") then Some keyword.End
    else None
