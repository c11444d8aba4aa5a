use Rattle.std.proofs.Common.{◌≡◌, ◌++◌, List, false, ap, refl, subst, sym, ◌∙◌}
use Rattle.std.specs.Prelude.{None, Ok}
use Rattle.sd_base.specs.Seen.{seen_of}
use Rattle.sd_files.specs.Lines.{line_text}
use Rattle.sd_files.specs.declared.lines.FileLine.TheVariants.{Refused}
use Rattle.sd_base.specs.Refusal.{refusal_text}
use Rattle.sd_text.specs.Lines.{line}
use Rattle.sd_salvage.specs.Lines.{AreCountable, counted_lines, end_lines, event_lines, missing_lines}
use Rattle.sd_salvage.specs.declared.event.Event.{Event}
use Rattle.sd_text.proofs.SaysLemmas.{says_then}
use Rattle.sd_text.specs.Says.{Says, said_view}
use Rattle.sd_salvage.proofs.PrinterLemmas.{ends_so}
use Rattle.sd_salvage.proofs.printer.SalvagePrinter.end.Goals.{in-Ok, in-Err}
use Rattle.sd_salvage.proofs.printer.SalvagePrinter.end.Goals as goal

pub returns : goal.returns
returns g c =
    let said = said_view g.W.Write.contents c.self.inside.out in
    let same : seen_of c.self.inside.told ≡ c.args.self.told = ap (λ v. v.told) c.self.view_is in
    let lines = event_lines false 0 c.args.self.told in
    let before : Says g.K.Before.before said lines = subst (λ (es : List Event). Says g.K.Before.before said (event_lines false 0 es)) same c.self.invariant.says_so in
    elim c.match-ended.branch [
      | in-Ok w ↦ (
        missing_lines c.self.inside.lost c.self.inside.last None ++ counted_lines w.in-Ok.end c.self.inside.counts,
        says_then _ said _ lines (missing_lines c.self.inside.lost c.self.inside.last None ++ counted_lines w.in-Ok.end c.self.inside.counts) before
            (subst (λ o. Says said (said_view g.W.Write.contents o) (missing_lines c.self.inside.lost c.self.inside.last None ++ counted_lines w.in-Ok.end c.self.inside.counts)) (sym w.out-is)
            (says_then said (said_view g.W.Write.contents w.print_missing.new.out) _ (missing_lines c.self.inside.lost c.self.inside.last None) (counted_lines w.in-Ok.end c.self.inside.counts) w.print_missing.ensures w.print_end.ensures)),
        λ (countable : AreCountable c.args.self.told).
            ends_so g.K.Before.before said (seen_of c.self.inside.told) c.self.inside.lost c.self.inside.last c.self.inside.counts w.in-Ok.end c.self.invariant (subst AreCountable (sym same) countable)
            ∙ ap (λ (es : List Event). end_lines es (Ok w.in-Ok.end)) same ∙ ap (end_lines c.args.self.told) (sym w.in-Ok.is),
      )
      | in-Err w ↦ (
        line (line_text (Refused w.refusal.result)),
        says_then _ said _ lines (line (line_text (Refused w.refusal.result))) before
            (subst (λ o. Says said (said_view g.W.Write.contents o) (line (line_text (Refused w.refusal.result)))) (sym w.out-is) w.line.ensures.says),
        λ (countable : AreCountable c.args.self.told). ap (λ why. line (refusal_text why)) w.refusal.ensures ∙ ap (end_lines c.args.self.told) (sym w.in-Err.is),
      )
    ]
