use Rattle.std.proofs.Common.{rules, ◌≡◌, ap, sym, ◌∙◌, [], ◌∷◌, ◌++◌}
use Rattle.sd_base.specs.Seen.{seen_of}
use Rattle.sd_line.proofs.OpenLemmas.{gave}
use Rattle.sd_line.proofs.ToldLemmas.{told}
use Rattle.sd_line.proofs.lane_end.take_from_last.Goals as goal

pub returns-clause-some : goal.returns-clause-some
returns-clause-some g c =
    let all = c.args.sessions.now.items in
    let rest = c.pop.new.self.items in
    let is : all ≡ rest ++ c.in_ok-last.last ∷ [] = search rules in
    gave c.give_back-store.result all rest (told c.last.inside.spools c.last.inside.session (seen_of c.last.inside.told)) c.give_back-store.new.self
    (is ∙ ap (λ l. rest ++ l ∷ []) (sym c.last.view_is)) c.requires.over c.requires.stored c.give_back-store.ensures.none
