-- What a stream over another reader, writer or stream is made of.
use Rattle.std.specs.Prelude.{ℕ, List, take, drop}
use Rattle.std.specs.declared.option.Option.{Option}
use Rattle.std.specs.Io.KnownBytes.{prepend_known}
use Rattle.totem_names.specs.declared.source.FromRead.{FromRead}
use Rattle.totem_names.specs.declared.sink.ToWrite.{ToWrite}
use Rattle.totem_names.specs.declared.fused.Fused.{Fused}
use Rattle.totem_names.specs.declared.buffered.Buffered.{Buffered}

-- the reader of a source
abbrev pub reader_of : {R : Type 0} → FromRead R → R
reader_of s = s.inner

-- how often a source over a reader has failed
abbrev pub read_failures : {R : Type 0} → FromRead R → ℕ
read_failures s = s.failed

-- the writer of a sink
abbrev pub writer_of : {W : Type 0} → ToWrite W → W
writer_of s = s.inner

-- how often a sink over a writer has failed
abbrev pub write_failures : {W : Type 0} → ToWrite W → ℕ
write_failures s = s.failed

-- the stream inside a fused stream
abbrev pub stream_of : {S : Type 0} → Fused S → S
stream_of s = s.inner

-- how many calls a fused stream still passes on
abbrev pub calls_left : {S : Type 0} → Fused S → ℕ
calls_left s = s.calls

-- how often a fused stream has failed
abbrev pub fused_failures : {S : Type 0} → Fused S → ℕ
fused_failures s = s.failed

-- what a buffer holds, and then what its reader has left
abbrev pub buffered_left : {R : Type 0} → (R → Option (List ℕ)) → Buffered R → Option (List ℕ)
buffered_left remaining s = prepend_known (drop s.at (take s.filled s.buffer.items)) (remaining s.inner)

-- how often a buffered source has failed
abbrev pub buffered_failures : {R : Type 0} → Buffered R → ℕ
buffered_failures s = s.failed
