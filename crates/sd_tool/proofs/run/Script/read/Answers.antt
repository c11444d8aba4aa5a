use Rattle.std.proofs.Common.{◌≡◌, ap, List, subst, ◌∙◌}
use Rattle.sd_base.specs.declared.number.SessionKey.{SessionKey}
use Rattle.sd_core.specs.View.{status_at}
use Rattle.sd_machine.specs.declared.reply.Reply.TheVariants.{Media}
use Rattle.sd_span.specs.declared.span.Span.{Span}
use Rattle.sd_tool.specs.Doing.{ReadsBack, ReadsReply}
use Rattle.sd_tool.specs.Refused.{unread_refusal}
use Rattle.sd_tool.specs.Script.{script_view}
use Rattle.sd_tool.proofs.DoingLemmas.{reads_other, reads_unless}
use Rattle.sd_tool.proofs.run.Script.read.Goals as goal

pub returns-in-Media : goal.returns-in-Media
returns-in-Media g c =
    let old = script_view g.W.Write.contents c.args.self in
    let new = script_view g.W.Write.contents c.read_spans.result in
    let between = record old { stage = c.step.new.self } in
    let is : c.unread.result ≡ unread_refusal (status_at c.args.ticket c.args.self.stage.world.sessions) = c.unread.ensures ∙ ap unread_refusal c.status-status.ensures in
    let Spans : List Span → Type 0 = λ s. ReadsBack (λ d. g.D.Driver.meaning d) c.key_of-key.result s between new in
    let Key : SessionKey → Type 0 = λ k. ReadsBack (λ d. g.D.Driver.meaning d) k c.in-Media.spans between new in
    reads_unless (λ d. g.D.Driver.meaning d) c.args.ticket (unread_refusal (status_at c.args.ticket c.args.self.stage.world.sessions)) old new (λ why due. c.in_default.not-Some why (is ∙ due))
    (Media c.in-Media.spans, c.step.new.self, (rw c.in-Media.is at c.step.ensures), subst Key c.key_of-key.ensures (subst Spans c.as_slice.ensures c.read_spans.ensures))

pub returns-in_default-step : goal.returns-in_default-step
returns-in_default-step g c =
    let old = script_view g.W.Write.contents c.args.self in
    let new = script_view g.W.Write.contents c.told.result in
    let between = record old { stage = c.step.new.self } in
    let is : c.unread.result ≡ unread_refusal (status_at c.args.ticket c.args.self.stage.world.sessions) = c.unread.ensures ∙ ap unread_refusal c.status-status.ensures in
    let Key : SessionKey → Type 0 = λ k. ReadsReply (λ d. g.D.Driver.meaning d) k c.step.result between new in
    reads_unless (λ d. g.D.Driver.meaning d) c.args.ticket (unread_refusal (status_at c.args.ticket c.args.self.stage.world.sessions)) old new (λ why due. c.in_default.not-Some why (is ∙ due))
    (c.step.result, c.step.new.self, c.step.ensures, subst Key c.key_of-key.ensures (reads_other (λ d. g.D.Driver.meaning d) c.key_of-key.result c.step.result between new c.in_default-step.not-Media c.told.ensures))
