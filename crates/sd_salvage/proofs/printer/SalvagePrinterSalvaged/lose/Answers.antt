use Rattle.std.proofs.Common.{◌++◌, ◌∷◌, [], ap, ◌∙◌}
use Rattle.std.proofs.lemmas.List.{append-nil}
use Rattle.sd_base.specs.Seen.{seen_of}
use Rattle.sd_text.specs.Says.{said_view}
use Rattle.sd_salvage.specs.Lines.{places_in, records_in}
use Rattle.sd_salvage.specs.declared.event.Event.TheVariants.{Lost}
use Rattle.sd_salvage.proofs.PrinterLemmas.{keeps_place, places_more, records_more}
use Rattle.sd_salvage.proofs.printer.SalvagePrinterSalvaged.lose.Goals as goal

pub invariant_of-self : goal.invariant_of-self
invariant_of-self g c =
    keeps_place g.K.Before.before (said_view g.W.Write.contents c.self.inside.out) (said_view g.W.Write.contents c.line.new.self) (seen_of c.self.inside.told) c.with.result c.self.inside.lost c.self.inside.last
    c.args.volume.now c.copy.result c.copy-2.result c.args.at c.self.inside.counts c.with_gap-self-inside.result c.self.invariant c.with.ensures c.copy.ensures c.copy-2.ensures c.line.ensures.says
    c.with_gap-self-inside.ensures.records c.with_gap-self-inside.ensures.bytes c.with_gap-self-inside.ensures.gaps

pub returns-clause-got : goal.returns-clause-got
returns-clause-got g c =
    let es = seen_of c.self.inside.told in
    ap records_in c.with.ensures ∙ records_more es (Lost c.copy-2.result c.args.at) ∙ append-nil (records_in es) ∙ ap (λ v. records_in v.told) c.self.view_is

pub returns-clause-lost : goal.returns-clause-lost
returns-clause-lost g c =
    let es = seen_of c.self.inside.told in
    ap places_in c.with.ensures ∙ places_more es (Lost c.copy-2.result c.args.at) ∙ ap (λ v. places_in es ++ record { volume = v; at = c.args.at } ∷ []) c.copy-2.ensures
    ∙ ap (λ v. places_in v.told ++ record { volume = c.args.volume.now; at = c.args.at } ∷ []) c.self.view_is
