use Rattle.std.proofs.Common.{List, subst}
use Rattle.sd_base.specs.Record.{Record}
use Rattle.sd_world.specs.Deeds.{IsRead}
use Rattle.sd_tool.proofs.reading.read_out.Goals as goal

pub returns : goal.returns
returns g c =
    let got = c.read-result.new.sink.got in
    let Reads : List Record → Type 0 = λ before. IsRead (λ d. g.D.Driver.meaning d) c.args.key c.args.spans.now before got c.read-result.result c.args.stage.now.world c.read-result.new.self.world in
    (got, subst Reads c.new-records.ensures c.read-result.ensures.reads, c.read-result.ensures.keeps, c.into_printer.ensures)
