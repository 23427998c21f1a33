-- What a reply says (docs/PROTOCOL.md, "Books").
use Rattle.std.specs.Prelude.{List, [], Ok, Err}
use Rattle.totem_evs.specs.declared.entry.Entry.{Entry}
use Rattle.totem_core.specs.declared.outcome.StepOut.{StepOut}
use Rattle.totem_core.specs.Outcomes.{Outcome}
use Rattle.totem_core.specs.Replay.{Answer}
use Rattle.totem_books.specs.declared.reply.Reply.{Reply}
use Rattle.totem_books.specs.declared.reply.Reply.TheVariants.{Done, Refused}

-- the answer to a step that was taken
abbrev pub given_by : StepOut → Answer
given_by out = record { packets = out.packets.items; entries = out.entries.items; ring_steps = out.ring_steps.items }

-- the answer or the refusal
abbrev pub answer_of : Reply → Outcome Answer
answer_of (Done out) = Ok (given_by out)
answer_of (Refused fault) = Err fault

-- the entries that a reply adds to the log
abbrev pub entries_of : Outcome Answer → List Entry
entries_of (Ok answer) = answer.entries
entries_of (Err fault) = []
