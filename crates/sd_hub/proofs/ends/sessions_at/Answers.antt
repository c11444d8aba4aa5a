use Rattle.std.proofs.Common.{◌≡◌, refl, sym, ap, ◌∙◌, length}
use Rattle.std.proofs.lemmas.Option.{slice_get_read}
use Rattle.sd_base.proofs.ChoiceLemmas.{same_some}
use Rattle.sd_line.specs.Ends.{EndIs}
use Rattle.sd_hub.specs.Settles.{sessions_in}
use Rattle.sd_hub.proofs.ends.sessions_at.Goals as goal

pub returns-in-Some : goal.returns-in-Some
returns-in-Some g c =
    let ends = c.args.ends.now in
    let s = c.in-Some.ensures.some in
    let e = c.index-ends-at.result in
    let there = slice_get_read ends (length ends) c.in-Some.at e refl c.in-Some.ensures.within c.index-ends-at.is in
    let same : e ≡ s.end = same_some (sym there ∙ s.there) in
    c.sessions.ensures ∙ ap (λ (x : EndIs). x.sessions) same ∙ sym (ap sessions_in s.first)

pub returns-in-None : goal.returns-in-None
returns-in-None g c = sym (ap sessions_in c.in-None.ensures.none)
