use Rattle.std.proofs.Common.{rules, ◌≡◌, ap, sym, ◌∙◌, [], ◌∷◌, ◌++◌}
use Rattle.sd_line.specs.Ends.{last_alone}
use Rattle.sd_line.proofs.Sequences.{last_alone_push}
use Rattle.sd_line.proofs.lane_end.keep_last.Goals as goal

pub returns : goal.returns
returns g c =
    let rest = c.pop.new.self.items in
    let is : c.args.sessions.now.items ≡ rest ++ c.in-Some.last ∷ [] = search rules in
    c.push_reserved.ensures.items ∙ ap (λ l. l ++ c.in-Some.last ∷ []) c.clear.ensures.items ∙ sym (last_alone_push rest c.in-Some.last) ∙ sym (ap last_alone is)
