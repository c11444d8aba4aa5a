use Rattle.std.proofs.Common.{Err, ap, inr, subst, ◌∙◌}
use Rattle.sd_base.specs.declared.refusal.Refusal.{Refusal}
use Rattle.sd_tool.specs.Run.{Refuses}
use Rattle.sd_tool.specs.Script.{script_view}
use Rattle.sd_tool.specs.declared.lines.Next.TheVariants as next
use Rattle.sd_tool.proofs.RunLemmas.{done_comes, line_comes, no_line}
use Rattle.sd_tool.proofs.run.Script.run.Goals as goal

pub returns-in-Ok : goal.returns-in-Ok
returns-in-Ok g c =
    line_comes g.W.Write.contents (λ d. g.D.Driver.meaning d) c.args.part c.args.bytes.now c.in-Ok.line (script_view g.W.Write.contents c.args.self) c.come_to.result
    c.in-Ok.ensures.ok.0 c.in-Ok.ensures.ok.1 c.come_to.ensures

pub returns-in-Err : goal.returns-in-Err
returns-in-Err g c =
    let why = c.in-Err.fault in
    let old = script_view g.W.Write.contents c.args.self in
    let Why : Refusal → Type 0 = λ w. Refuses g.W.Write.contents old w c.refused.result in
    let refuses = subst Why c.refusal.ensures c.refused.ensures in
    let none = no_line c.args.part c.args.bytes.now why (λ is. c.read_line.ensures.bad_name.0 (c.in-Err.is ∙ ap Err is)) (λ is. c.read_line.ensures.bad_command.0 (c.in-Err.is ∙ ap Err is)) in
    done_comes g.W.Write.contents (λ d. g.D.Driver.meaning d) c.args.part next.Line c.args.bytes.now old refuses.0 c.refused.result (inr (why, none, refuses.1)) refuses.2
