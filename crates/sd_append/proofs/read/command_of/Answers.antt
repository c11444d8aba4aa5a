use Rattle.std.proofs.Common.{sym, subst}
use Rattle.sd_append.specs.declared.command.Kind.{Kind}
use Rattle.sd_append.specs.Reading.{Tells}
use Rattle.sd_append.proofs.CommandLemmas.{open_told, read_told}
use Rattle.sd_append.proofs.read.command_of.Goals as goal

pub returns-in-Open : goal.returns-in-Open
returns-in-Open c =
    subst (λ (k : Kind). Tells k c.args.rest.now c.open.result) (sym c.in-Open.is)
    (open_told c.args.rest.now c.new.result c.open.result c.new.ensures c.open.ensures)

pub returns-in-Read : goal.returns-in-Read
returns-in-Read c =
    subst (λ (k : Kind). Tells k c.args.rest.now c.read.result) (sym c.in-Read.is)
    (read_told c.args.rest.now c.new-in-Read.result c.read.result c.new-in-Read.ensures c.read.ensures)
