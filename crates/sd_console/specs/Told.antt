-- What answers an operator.
use Rattle.std.specs.Prelude.{◌≡◌, ℕ, Result, Err, List}
use Rattle.sd_base.specs.declared.number.SessionKey.{SessionKey}
use Rattle.sd_base.specs.declared.refusal.Refusal.{Refusal}
use Rattle.sd_machine.specs.declared.reply.Reply.{Reply}
use Rattle.sd_machine.specs.declared.reply.Reply.TheVariants.{Refused}
use Rattle.sd_console.specs.Replies.{reply_lines}
use Rattle.sd_console.specs.Lines.{Shows}

-- the lines of an answer, or a refusal
abbrev pub Answer : Type 0
Answer = Result (List (List ℕ)) Refusal

-- The answer to a question: its refusal; or all lines of its reply, which are of the session with this key.
abbrev pub TellsReply : SessionKey → Reply → Answer → Type 0
TellsReply key (Refused why) answer = answer ≡ Err why
TellsReply key reply answer = Shows (reply_lines key reply) answer
