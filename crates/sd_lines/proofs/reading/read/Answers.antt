use Rattle.std.proofs.Common.{[], List, ap, subst}
use Rattle.sd_base.specs.Record.{Record}
use Rattle.sd_lines.specs.Reading.{ReadsTalk}
use Rattle.sd_lines.proofs.reading.read.Goals as goal

pub returns-clause-reads : goal.returns-clause-reads
returns-clause-reads g c =
    let before = ap (λ w. w.handed) c.new-watched.ensures in
    let behind = ap (λ w. w.handed) c.into_parts-counted.ensures.parts in
    subst
    (λ (records : List Record). ReadsTalk (λ d. g.D.Driver.meaning d) c.args.key c.args.spans.now [] records c.read_at-answer.result c.args.readers.now c.read_at-answer.new.readers) behind
    (subst (λ (records : List Record). ReadsTalk (λ d. g.D.Driver.meaning d) c.args.key c.args.spans.now records c.read_at-answer.new.sink.handed c.read_at-answer.result c.args.readers.now c.read_at-answer.new.readers)
    before c.read_at-answer.ensures)
