use Rattle.std.proofs.Common.{◌≡◌, ◌+◌, ◌<◌, ◌^◌, ℕ, ◌++◌, ◌∷◌, [], false, ap, length, sym, subst, ◌∙◌}
use Rattle.std.specs.Prelude.{Some}
use Rattle.std.proofs.lemmas.List.{append-nil}
use Rattle.sd_base.specs.Record.{Record}
use Rattle.sd_base.specs.Seen.{seen_of}
use Rattle.sd_text.specs.Says.{Says, said_view}
use Rattle.sd_salvage.specs.Lines.{missing_lines, places_in, records_in}
use Rattle.sd_salvage.specs.Printer.{Keeps}
use Rattle.sd_salvage.specs.declared.event.Event.TheVariants as events
use Rattle.sd_salvage.proofs.PrinterLemmas.{keeps_record, places_more, records_more}
use Rattle.sd_salvage.proofs.printer.SalvagePrinterSalvaged.put.Goals as goal

pub invariant_of-self : goal.invariant_of-self
invariant_of-self g c =
    let index = ap (λ (r : Record). r.index) c.rec.view_is in
    subst (λ n. Keeps g.K.Before.before (said_view g.W.Write.contents c.print_record.new.out) c.with.result false n c.with_record-self-inside.result) (sym index)
    (keeps_record g.K.Before.before (said_view g.W.Write.contents c.self.inside.out) (said_view g.W.Write.contents c.print_missing.new.out) (said_view g.W.Write.contents c.print_record.new.out) (seen_of c.self.inside.told)
    c.with.result c.self.inside.lost c.self.inside.last c.args.rec c.self.inside.counts c.with_record-self-inside.result c.self.invariant c.with.ensures
    (subst (λ n. Says (said_view g.W.Write.contents c.self.inside.out) (said_view g.W.Write.contents c.print_missing.new.out) (missing_lines c.self.inside.lost c.self.inside.last (Some n))) index c.print_missing.ensures)
    c.print_record.ensures c.with_record-self-inside.ensures.records
    (subst (λ (n : ℕ). c.self.inside.counts.bytes + n < 2 ^ 64 → c.with_record-self-inside.result.bytes ≡ c.self.inside.counts.bytes + n) (c.len.ensures ∙ ap (λ (r : Record). length r.bytes) c.rec.view_is) c.with_record-self-inside.ensures.bytes) c.with_record-self-inside.ensures.gaps)

pub returns-clause-ok : goal.returns-clause-ok
returns-clause-ok g c =
    let es = seen_of c.self.inside.told in
    ap records_in c.with.ensures ∙ records_more es (events.Record c.args.rec) ∙ ap (λ v. records_in v.told ++ c.args.rec ∷ []) c.self.view_is

pub returns-clause-lost : goal.returns-clause-lost
returns-clause-lost g c =
    let es = seen_of c.self.inside.told in
    ap places_in c.with.ensures ∙ places_more es (events.Record c.args.rec) ∙ append-nil (places_in es) ∙ ap (λ v. places_in v.told) c.self.view_is
