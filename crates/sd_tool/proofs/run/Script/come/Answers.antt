use Rattle.std.proofs.Common.{sym, subst}
use Rattle.sd_tool.specs.Run.{Comes}
use Rattle.sd_tool.specs.Script.{script_view}
use Rattle.sd_tool.specs.declared.lines.Next.{Next}
use Rattle.sd_tool.specs.declared.lines.Next.TheVariants as next
use Rattle.sd_tool.proofs.RunLemmas.{done_comes}
use Rattle.sd_tool.proofs.run.Script.come.Goals as goal

pub returns-in-Line : goal.returns-in-Line
returns-in-Line g c =
    let C : Next → Type 0 = λ n. Comes g.W.Write.contents (λ d. g.D.Driver.meaning d) c.args.part n c.args.bytes.now (script_view g.W.Write.contents c.args.self) c.run.result in
    subst C (sym c.in-Line.is) c.run.ensures

pub returns-in-TooLong : goal.returns-in-TooLong
returns-in-TooLong g c =
    let old = script_view g.W.Write.contents c.args.self in
    let refuses = c.refused.ensures in
    let C : Next → Type 0 = λ n. Comes g.W.Write.contents (λ d. g.D.Driver.meaning d) c.args.part n c.args.bytes.now old c.refused.result in
    subst C (sym c.in-TooLong.is) (done_comes g.W.Write.contents (λ d. g.D.Driver.meaning d) c.args.part next.TooLong c.args.bytes.now old refuses.0 c.refused.result refuses.1 refuses.2)

pub returns-in-NoMemory : goal.returns-in-NoMemory
returns-in-NoMemory g c =
    let old = script_view g.W.Write.contents c.args.self in
    let refuses = c.refused-in-NoMemory.ensures in
    let C : Next → Type 0 = λ n. Comes g.W.Write.contents (λ d. g.D.Driver.meaning d) c.args.part n c.args.bytes.now old c.refused-in-NoMemory.result in
    subst C (sym c.in-NoMemory.is) (done_comes g.W.Write.contents (λ d. g.D.Driver.meaning d) c.args.part next.NoMemory c.args.bytes.now old refuses.0 c.refused-in-NoMemory.result refuses.1 refuses.2)
