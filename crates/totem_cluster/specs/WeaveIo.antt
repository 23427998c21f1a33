-- What is written of a woven ring (docs/PROTOCOL.md, "The woven ring").
use Rattle.std.specs.Prelude.{◌≡◌, ℕ, ◌+◌, ◌%◌, ◌^◌, List, ◌++◌, length, slice_get, Some, codes, decimal, Result, Ok, Err}
use Rattle.std.specs.List.{flat_map}
use Rattle.totem_names.specs.Names.{PlaceName}
use Rattle.totem_names.specs.Processes.{place_text}
use Rattle.totem_names.specs.Ranks.{id_of}
use Rattle.totem_names.specs.Texts.{message_text}
use Rattle.totem_names.specs.Writing.{Held, Wrote}
use Rattle.totem_packets.specs.declared.message.Message.{Message}
use Rattle.totem_evs.specs.LogRecord.{LogRecord}
use Rattle.totem_evs.specs.RunText.{line}
use Rattle.totem_books.specs.Seats.{Closed}
use Rattle.totem_threads.specs.Books.{IsRunOf}
use Rattle.totem_threads.specs.Faults.{IsFullBook}
use Rattle.totem_weave.specs.declared.woven.Woven.{Woven}
use Rattle.totem_weave.specs.declared.fault.WeaveFault.{WeaveFault}
use Rattle.totem_weave.specs.declared.fault.WeaveFault.TheVariants as refusals
use Rattle.totem_weave.specs.Woven.{IsWoven, IsOrphan}
use Rattle.totem_cluster.specs.declared.weaving.Weave.{Weave}
use Rattle.totem_cluster.specs.declared.weaving.Weave.TheVariants as weaves
use Rattle.totem_cluster.specs.declared.io_fault.IoFault.{IoFault}
use Rattle.totem_cluster.specs.declared.io_fault.IoFault.TheVariants as faults

abbrev pub weave_status : Weave → ℕ
weave_status weaves.Whole = 0
weave_status weaves.Orphan = 1

-- the names of messages, a space before each
abbrev pub names_text : List Message → List ℕ
names_text messages = flat_map (λ m. codes " " ++ message_text (record { ring = m.ring; number = m.number })) messages

-- a member's identifier, and the messages delivered to its node
abbrev pub handed_text : ℕ → List Message → List ℕ
handed_text p messages = codes "handed " ++ decimal (id_of p) ++ names_text messages

-- the number of steps
abbrev pub steps_text : ℕ → List ℕ
steps_text count = codes "woven " ++ decimal count ++ codes "\n"

-- the number of steps, and a line for each member
abbrev pub woven_text : Woven → List ℕ
woven_text woven = steps_text (length woven.steps.items) ++ flat_map (λ h. line (handed_text h.0 h.1.items)) woven.handed.items ++ line (codes "end")

abbrev pub orphan_text : PlaceName → List ℕ
orphan_text place = codes "orphan " ++ place_text place ++ codes "\nend\n"

-- the ring on which the first of these books began is woven, with the members of that ring, and its text was written
pub record WritesWoven (books : List Closed) (was is : Held) : Type 0 where
  pub first : Closed
  pub is_first : slice_get books 0 ≡ Some first
  pub woven : Woven
  pub is_woven : IsWoven first.start.ring first.start.members books woven
  pub written : Wrote was is (woven_text woven)

-- a call of that ring fits no schedule, and this was written
pub record WritesOrphan (books : List Closed) (was is : Held) : Type 0 where
  pub first : Closed
  pub is_first : slice_get books 0 ≡ Some first
  pub place : PlaceName
  pub is_orphan : IsOrphan first.start.ring first.start.members books place
  pub written : Wrote was is (orphan_text place)

-- what is written for a refusal: an orphan if it is one; or nothing if memory was refused; or the sink failed in this call
abbrev pub TellsRefusal : WeaveFault → Held → Held → Result Weave IoFault → Type 0
TellsRefusal (refusals.Orphan place) was is (Ok weaves.Orphan) = Wrote was is (orphan_text place)
TellsRefusal fault was is (Ok woven) = ⊥
TellsRefusal fault was is (Err faults.Memory) = is ≡ was
TellsRefusal fault was is (Err faults.Write) = is.failures ≡ (was.failures + 1) % 2 ^ 64
TellsRefusal fault was is (Err other) = ⊥

-- what is written for these books; or nothing if memory was refused; or the sink failed in this call
abbrev pub WeavesBooks : List Closed → Held → Held → Result Weave IoFault → Type 0
WeavesBooks books was is (Ok weaves.Whole) = WritesWoven books was is
WeavesBooks books was is (Ok weaves.Orphan) = WritesOrphan books was is
WeavesBooks books was is (Err faults.Memory) = is ≡ was
WeavesBooks books was is (Err faults.Write) = is.failures ≡ (was.failures + 1) % 2 ^ 64
WeavesBooks books was is (Err (faults.Book trouble)) = ⊥
WeavesBooks books was is (Err (faults.Run fault)) = ⊥
WeavesBooks books was is (Err (faults.Cert fault)) = ⊥
WeavesBooks books was is (Err (faults.Refused fault)) = ⊥
WeavesBooks books was is (Err (faults.Script fault)) = ⊥

-- this many nodes ran, each from ring 4.1 on, and what is written is that of their books
pub record WeavesBooksOf (nodes : ℕ) (was is : Held) (result : Result Weave IoFault) : Type 0 where
  pub books : List Closed
  pub logs : List LogRecord
  pub run_of : IsRunOf nodes books logs
  pub weaves : WeavesBooks books was is result

-- the same; or a book was full, its log was too long, or memory or a thread was refused, and nothing was written
abbrev pub WeavesRun : ℕ → Held → Held → Result Weave IoFault → Type 0
WeavesRun nodes was is (Ok woven) = WeavesBooksOf nodes was is (Ok woven)
WeavesRun nodes was is (Err (faults.Book trouble)) = IsFullBook trouble × (is ≡ was)
WeavesRun nodes was is (Err faults.Memory) = is ≡ was
WeavesRun nodes was is (Err faults.Write) = is.failures ≡ (was.failures + 1) % 2 ^ 64
WeavesRun nodes was is (Err (faults.Run fault)) = ⊥
WeavesRun nodes was is (Err (faults.Cert fault)) = ⊥
WeavesRun nodes was is (Err (faults.Refused fault)) = ⊥
WeavesRun nodes was is (Err (faults.Script fault)) = ⊥
