use Rattle.std.proofs.Common.{List, refl, inl, inr, subst}
use Rattle.sd_desk.specs.declared.request.Request.{Request}
use Rattle.sd_text.specs.Says.{Says, said_view}
use Rattle.sd_tool.specs.ReplyLines.{requests_text}
use Rattle.sd_tool.proofs.run.Script.requests.Goals as goal

pub returns : goal.returns
returns g c =
    let old = said_view g.W.Write.contents c.args.self.now.out in
    let new = said_view g.W.Write.contents c.print_requests.new.out in
    let Text : List Request → Type 0 = λ requests. Says old new (requests_text requests) in
    elim c.print_requests.ensures [
      | inl says ↦ inl (refl, (refl, refl), subst Text c.requests.ensures says)
      | inr says ↦ inr (refl, (refl, refl), says)
    ]
