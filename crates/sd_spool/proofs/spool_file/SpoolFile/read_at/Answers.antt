use Rattle.std.proofs.Common.{length, take, drop, string_bytes, ap, ◌∙◌, arith}
use Rattle.std.proofs.lemmas.Result.{IfOk-weaker}
use Rattle.sd_spool.specs.Opened.{file_bytes}
use Rattle.sd_spool.proofs.Reading.{read_within}
use Rattle.sd_spool.proofs.spool_file.SpoolFile.read_at.Goals as goal

pub returns-in-Some-clause-ok : goal.returns-in-Some-clause-ok
returns-in-Some-clause-ok g c = λ h.
    let m = g.F.Folder.meaning c.args.self.now.folder in
    let room = length c.args.into.now in
    let knows = c.args.self.now.knows h c.in-Some.opened c.in-Some.is in
    IfOk-weaker c.fill.result _ _
    (λ value told. told
    ∙ ap (λ n. take room (drop c.args.at (file_bytes m n))) knows.0
    ∙ read_within room c.args.at c.args.self.now.end (file_bytes m (string_bytes c.args.self.now.name)) (omega (arith, c.if-at-self.false, c.if-length-self.false)))
    (c.fill.ensures.ok h)
