use Rattle.std.proofs.Common.{rules, Option, refl, sym, subst}
use Rattle.sd_base.specs.declared.refusal.Refusal.{Refusal}
use Rattle.sd_text.specs.Says.{Says, said_view}
use Rattle.sd_text.specs.declared.printer.Printer.{Printer}
use Rattle.sd_text.specs.Lines.{line}
use Rattle.sd_tool.specs.Script.{script_view}
use Rattle.sd_tool.specs.Told.{restarted_text}
use Rattle.sd_tool.proofs.RunLemmas.{restart_done}
use Rattle.sd_tool.proofs.run.Script.restarted.Goals as goal
use Rattle.sd_tool.proofs.run.Script.restarted.Goals.{in-None, in-Some}

pub returns : goal.returns
returns g c =
    let old = said_view g.W.Write.contents c.args.self.out in
    let Says_of : Printer g.row.W.Denot → Option Refusal → Type 0 = λ out refused. Says old (said_view g.W.Write.contents out) (line (restarted_text refused)) in
    let says : Says_of c.match-refused.out c.in-Ok.field-0.refused = elim c.match-refused.branch [
      | in-None w ↦ subst (λ (out : Printer g.row.W.Denot). Says_of out c.in-Ok.field-0.refused) (sym w.out-is) (subst (λ (r : Option Refusal). Says_of w.line.new.self r) (sym w.in-None.is) w.line.ensures.says)
      | in-Some w ↦ subst (λ (out : Printer g.row.W.Denot). Says_of out c.in-Ok.field-0.refused) (sym w.out-is) (subst (λ (r : Option Refusal). Says_of w.line-in-Some.new.self r) (sym w.in-Some.is) w.line-in-Some.ensures.says)
    ] in
    restart_done g.W.Write.contents (λ d. g.D.Driver.meaning d) c.args.restart c.in-Ok.field-0.refused (script_view g.W.Write.contents c.args.self) _ c.shown.result c.in-Ok.ensures (search rules) refl says c.shown.ensures
