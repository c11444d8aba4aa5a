-- What a port was asked, and what it answered.
use Rattle.std.specs.Prelude.{◌≡◌, ℕ, ℤ, List, Result}
use Rattle.sd_text.specs.Lines.{line}
use Rattle.sd_base.specs.Record.{Record}
use Rattle.sd_base.specs.declared.refusal.Refusal.{Refusal}
use Rattle.sd_base.specs.declared.number.SessionKey.{SessionKey}
use Rattle.sd_span.specs.declared.span.Span.{Span}
use Rattle.sd_machine.specs.declared.event.Event.{Event}
use Rattle.sd_machine.specs.declared.reply.Reply.{Reply}
use Rattle.sd_readback.specs.declared.read.ReadEnd.{ReadEnd}

-- an event and its reply; a session read back by its spans, the records that were handed over and the answer; or the
-- moment of a console's line, the line, and the lines of its answer
pub data Exchange : Type 0 where
  Stepped : Event → Reply → Exchange
  WasRead : SessionKey → List Span → List Record → Result ReadEnd Refusal → Exchange
  Said : ℤ → List ℕ → Result (List (List ℕ)) Refusal → Exchange

-- a text that a newline ends
abbrev pub IsLine : List ℕ → Type 0
IsLine bytes = (text : List ℕ) × (bytes ≡ line text)
