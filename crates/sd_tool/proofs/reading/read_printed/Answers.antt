use Rattle.std.proofs.Common.{Bor, List, Option, sym, subst}
use Rattle.std.specs.Option.{option_copied}
use Rattle.sd_text.specs.Says.{said_view}
use Rattle.sd_span.specs.declared.span.Span.{Span}
use Rattle.sd_tool.specs.Doing.{ReadsOn, ReadsPrintedOn}
use Rattle.sd_tool.specs.declared.printed.Closed.{Closed}
use Rattle.sd_tool.proofs.reading.read_printed.Goals as goal

pub returns-in-Some : goal.returns-in-Some
returns-in-Some g c =
    let old = c.args.stage.now in
    let new = c.read_back.new.stage in
    let before = said_view g.W.Write.contents c.args.out in
    let after = said_view g.W.Write.contents c.read_back.result in
    let Printed : Option (Bor Closed) → Type 0 = λ o. ReadsPrintedOn (λ d. g.D.Driver.meaning d) c.args.key (option_copied o) old new before after in
    let Reads : List Span → Type 0 = λ spans. ReadsOn (λ d. g.D.Driver.meaning d) c.args.key spans old new before after in
    subst Printed (sym c.in-Some.is) (subst Reads c.as_slice.ensures c.read_back.ensures)
