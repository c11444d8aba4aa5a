-- Where a talk stands between two reads, and what it has come to until then.
use Rattle.std.specs.Prelude.{◌≡◌, ◌≢◌, ◌⊎◌, ℕ, ℤ, List, ◌++◌, Bool, Option, Some, None, Result, Ok, Err, IsTrue, alloc_error}
use Rattle.std.specs.Io.KnownBytes.{Consumes, IsAtEnd}
use Rattle.std.specs.declared.alloc.AllocError.{AllocError}
use Rattle.sd_bnet.specs.Feeder.{FeederState, Fits, IsMidway}
use Rattle.sd_bnet.specs.Feeder.FeederState.{Failed}
use Rattle.sd_bnet.specs.Stream.{Packets}
use Rattle.sd_bnet.specs.declared.packet.Packet.{Packet}
use Rattle.sd_append.specs.declared.end.TalkEnd.{TalkEnd}
use Rattle.sd_append.specs.declared.end.TalkEnd.TheVariants.{Finished, Truncated, TooLong, OutOfTurns, WriteFault}
use Rattle.sd_append.specs.declared.outbox.OutFault.{OutFault}
use Rattle.sd_append.specs.declared.outbox.OutFault.TheVariants as faults
use Rattle.sd_append.specs.declared.stage.TalkStage.{TalkStage}
use Rattle.sd_append.specs.declared.stage.TalkStage.TheVariants.{Command}
use Rattle.sd_append.specs.Conversation.{Converses, IsCommandDue, IsEndedByClient, MayEnd}
use Rattle.sd_append.specs.Does.{Does}
use Rattle.sd_append.specs.Out.{OutView}
use Rattle.sd_append.specs.Port.{Exchange}

-- around a talk: the bytes that its reader has left, if they are known; what its port was asked; what it has put out
pub record Around : Type 0 where
  pub left : Option (List ℕ)
  pub asked : List Exchange
  pub out : OutView

-- what is around a talk, its parts given
abbrev pub around : Option (List ℕ) → List Exchange → OutView → Around
around left asked out = record { left = left; asked = asked; out = out }

-- the client hasn't ended the talk, and no length was too great
abbrev pub GoesOn : FeederState → TalkStage → Type 0
GoesOn state stage = (IsEndedByClient stage → ⊥) × (state ≢ Failed)

-- A talk goes on that has read these bytes and taken their packets at this moment, one after another.
pub record Stands (moment : ℤ) (start now : Around) (state : FeederState) (stage : TalkStage) (bytes : List ℕ) : Type 0 where
  pub packets : List Packet
  pub read : Consumes start.left now.left bytes
  pub fits : Fits state bytes packets
  pub takes : Does (λ asked out. Converses moment (Command None) packets asked out stage) start.asked now.asked start.out now.out
  pub goes_on : GoesOn state stage

-- The packets of what was read, and what comes after them. If there was no memory for those of the last piece, they
-- are those of what was read before it.
abbrev pub AreRead : Result TalkEnd AllocError → List ℕ → List Packet → List ℕ → Type 0
AreRead (Ok end) bytes packets rest = Packets bytes packets rest
AreRead (Err e) bytes packets rest = (front : List ℕ) × (piece : List ℕ) × (bytes ≡ front ++ piece) × Packets front packets rest

-- A talk has come to this end that has read these bytes and taken their packets at this moment, one after another.
pub record Halts (moment : ℤ) (start now : Around) (stage : TalkStage) (end : Result TalkEnd AllocError) (bytes : List ℕ) : Type 0 where
  pub packets : List Packet
  pub rest : List ℕ
  pub read : Consumes start.left now.left bytes
  pub parted : AreRead end bytes packets rest
  pub takes : Does (λ asked out. Converses moment (Command None) packets asked out stage) start.asked now.asked start.out now.out
  pub ends : MayEnd end stage rest (IsAtEnd now.left)

-- a talk goes on, or it has come to an end that isn't its last turn
abbrev pub Comes : ℤ → Option (Result TalkEnd AllocError) → Around → Around → FeederState → TalkStage → List ℕ → Type 0
Comes moment None start now state stage bytes = Stands moment start now state stage bytes
Comes moment (Some end) start now state stage bytes = Halts moment start now stage end bytes × (end ≢ Ok OutOfTurns)

-- how a talk ends that is at this stage after a piece of its input, and whether the piece left its feeder failed; if it
-- ends
abbrev pub EndsBehind : Option (Result TalkEnd AllocError) → Bool → TalkStage → Type 0
EndsBehind None failed stage = (IsEndedByClient stage → ⊥) × (IsTrue failed → ⊥)
EndsBehind (Some (Ok Finished)) failed stage = IsEndedByClient stage
EndsBehind (Some (Ok TooLong)) failed stage = (IsEndedByClient stage → ⊥) × IsTrue failed
EndsBehind (Some end) failed stage = ⊥

-- how a talk ends that is in this state where its input ends
abbrev pub EndsInput : TalkEnd → FeederState → TalkStage → Type 0
EndsInput Finished state stage = IsCommandDue stage × (IsMidway state → ⊥)
EndsInput Truncated state stage = (IsCommandDue stage → ⊥) ⊎ IsMidway state
EndsInput end state stage = ⊥

-- the end of a talk whose writing fails so
abbrev pub fault_end : OutFault → Result TalkEnd AllocError
fault_end faults.Write = Ok WriteFault
fault_end faults.Memory = Err alloc_error

-- the end of a talk whose writing may have failed, if this is its end otherwise
abbrev pub written_end : Option OutFault → Result TalkEnd AllocError → Result TalkEnd AllocError
written_end None end = end
written_end (Some fault) end = fault_end fault
