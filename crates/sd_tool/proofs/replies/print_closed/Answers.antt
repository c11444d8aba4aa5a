use Rattle.std.proofs.Common.{ℕ, List, sym, subst}
use Rattle.sd_console.specs.Replies.{reply_line}
use Rattle.sd_machine.specs.declared.reply.Reply.{Reply}
use Rattle.sd_machine.specs.declared.reply.Reply.TheVariants.{Closed}
use Rattle.sd_text.specs.Says.{Says, said_view}
use Rattle.sd_text.proofs.SaysLemmas.{says_then}
use Rattle.sd_span.specs.JobMedia.{jobmedia_text}
use Rattle.sd_span.specs.declared.span.Span.{Span}
use Rattle.sd_text.specs.Lines.{line}
use Rattle.sd_tool.specs.ReplyLines.{closed_words}
use Rattle.sd_tool.proofs.TranscriptLemmas.{closed_other}
use Rattle.sd_tool.proofs.replies.print_closed.Goals as goal

pub returns-in-Closed : goal.returns-in-Closed
returns-in-Closed g c =
    let old = said_view g.W.Write.contents c.args.out.now in
    let between = said_view g.W.Write.contents c.print_reply.new.out in
    let new = said_view g.W.Write.contents c.print_jobmedia.new.out in
    let key = c.in-Closed.key in
    let spans = c.in-Closed.spans in
    let Line : Reply → Type 0 = λ r. Says old between (line (reply_line r)) in
    let Spans : List Span → Type 0 = λ s. Says between new (jobmedia_text key s) in
    let Words : Reply → Type 0 = λ r. Says old new (closed_words r) in
    subst Words (sym c.in-Closed.is)
    (says_then old between new (line (reply_line (Closed key spans))) (jobmedia_text key spans) (subst Line c.in-Closed.is c.print_reply.ensures) (subst Spans c.as_slice.ensures c.print_jobmedia.ensures))

pub returns-in_default : goal.returns-in_default
returns-in_default g c =
    let Prints : List ℕ → Type 0 = λ l. Says (said_view g.W.Write.contents c.args.out.now) (said_view g.W.Write.contents c.print_reply.new.out) l in
    subst Prints (closed_other c.args.reply.now c.in_default.not-Closed) c.print_reply.ensures
