use Rattle.std.proofs.Common.{◌≡◌, List, ℕ, sym, subst, ◌∙◌}
use Rattle.std.specs.Prelude.{IfSome}
use Rattle.sd_text.specs.Lines.{line}
use Rattle.sd_append.specs.Out.{out_view}
use Rattle.sd_append.proofs.OutLemmas.{puts_said}
use Rattle.sd_append.proofs.outbox.Outbox.line.Goals as goal

pub returns-in-Some : goal.returns-in-Some
returns-in-Some g c =
    let same : c.as_bytes.result.now ≡ c.in-Some.said.bytes = c.as_bytes.ensures.value ∙ c.as_str.ensures.value in
    puts_said (out_view g.W.Write.contents c.args.self.now) (out_view g.W.Write.contents c.packet.new.self) (g.D.Display.output c.args.text) c.as_bytes.result.now line
    (subst (λ (bytes : List ℕ). IfSome (g.D.Display.output c.args.text) (λ said. bytes ≡ line said)) (sym same) c.in-Some.ensures) c.packet.ensures
