-- A talk over a reader, a port and a writer.
use Rattle.std.specs.Prelude.{◌≡◌, ◌⊎◌, ◌≤◌, ◌*◌, ℕ, ℤ, List, ◌++◌, Option, Result, Ok, Err, length}
use Rattle.std.specs.Io.KnownBytes.{Appends, Consumes, IsAtEnd}
use Rattle.std.specs.declared.alloc.AllocError.{AllocError}
use Rattle.sd_bnet.specs.Stream.{stream_of}
use Rattle.sd_bnet.specs.declared.packet.Packet.{Packet}
use Rattle.sd_text.specs.Says.{SendsUpTo}
use Rattle.sd_append.specs.declared.end.TalkEnd.{TalkEnd}
use Rattle.sd_append.specs.declared.end.TalkEnd.TheVariants.{OutOfTurns, WriteFault}
use Rattle.sd_append.specs.Conversation.{Conversation}
use Rattle.sd_append.specs.Port.{Exchange}
use Rattle.sd_append.specs.Standing.{AreRead}

-- writing failed, or it was out of memory
abbrev pub IsCutOff : Result TalkEnd AllocError → Type 0
IsCutOff (Ok WriteFault) = Unit {0}
IsCutOff (Err e) = Unit {0}
IsCutOff end = ⊥

-- All these bytes were written, and the end is the one that is due; or the talk was cut off, and a front of them was
-- written.
abbrev pub AreWritten : Option (List ℕ) → Option (List ℕ) → List ℕ → Result TalkEnd AllocError → Result TalkEnd AllocError → Type 0
AreWritten old new bytes due end =
    ((end ≡ due) × Appends old new bytes) ⊎ (IsCutOff end × ((rest : List ℕ) × SendsUpTo old new bytes rest))

-- These bytes were read of what a reader has left, exchanges joined those of a port, and bytes were written after what
-- a writer held; and they are a conversation at this moment: its packets in are those of what was read, and its packets
-- out are what was written, or, if the talk was cut off, what was written is a front of them.
pub record Talks (moment : ℤ) (left remains : Option (List ℕ)) (before after : List Exchange) (held holds : Option (List ℕ)) (end : Result TalkEnd AllocError) (bytes : List ℕ) : Type 0 where
  pub packets : List Packet
  pub rest : List ℕ
  pub asked : List Exchange
  pub out : List Packet
  pub due : Result TalkEnd AllocError
  pub read : Consumes left remains bytes
  pub parted : AreRead due bytes packets rest
  pub conversation : Conversation moment packets rest (IsAtEnd remains) asked out due
  pub asked_is : after ≡ before ++ asked
  pub written : AreWritten held holds (stream_of out) due end

-- at most 64 KiB were read a turn; and if the turns ran out, a byte or more in each
pub record IsWithin (turns : ℕ) (end : Result TalkEnd AllocError) (bytes : List ℕ) : Type 0 where
  pub most : length bytes ≤ turns * 65536
  pub all_taken : end ≡ Ok OutOfTurns → turns ≤ length bytes
