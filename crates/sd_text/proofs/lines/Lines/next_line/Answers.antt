use Rattle.std.proofs.Common.{sym, ◌∙◌, lit<}
use Rattle.sd_text.proofs.LineLemmas.{lines_of-first, lines_of-one}
use Rattle.sd_text.proofs.lines.Lines.next_line.Goals as goal

pub returns-in-Some : goal.returns-in-Some
returns-in-Some c =
    let parts = c.in-Some.ensures.byte (lit< tt) (λ w o found. found) in
    sym c.self.view_is ∙ lines_of-first c.self.inside.rest.now c.in-Some.line.now c.in-Some.behind.now parts.0 parts.1 parts.2

pub returns-in-None : goal.returns-in-None
returns-in-None c =
    sym c.self.view_is ∙ lines_of-one c.self.inside.rest.now c.if-is_empty.ensures (c.in-None.ensures.byte (lit< tt) (λ w o found. found))
