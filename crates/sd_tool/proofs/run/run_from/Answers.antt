use Rattle.std.proofs.Common.{◌≡◌, ◌^◌, ◌-◌, ℕ, refl, subst, inl, inr, arith, length, List, [], ◌∷◌, ◌++◌}
use Rattle.std.proofs.lemmas.List.{length-append}
use Rattle.sd_script.specs.declared.line.Part.TheVariants.{Body, Head}
use Rattle.sd_tool.specs.Run.{Comes, LineCame, Reaches}
use Rattle.sd_tool.specs.Script.{script_view}
use Rattle.sd_tool.specs.declared.run.Came.{Came}
use Rattle.sd_tool.proofs.RunLemmas.{reaches_more}
use Rattle.sd_tool.proofs.run.run_from.Goals as goal

pub loop-init : goal.loop-init
loop-init g c =
    let Bytes : List ℕ → Type 0 = λ bytes. Comes g.W.Write.contents (λ d. g.D.Driver.meaning d) Head c.args.first bytes (script_view g.W.Write.contents c.args.script) c.come-came.result in
    ([], refl, subst Bytes c.bytes.ensures c.come-came.ensures)

pub returns-in-Over : goal.returns-in-Over
returns-in-Over g c =
    let i = c.loop.invariant in
    let Left : Came g.row.D.Denot g.row.Q.Denot g.row.W.Denot → Type 0 = λ came. Reaches g.W.Write.contents (λ d. g.D.Driver.meaning d) Head (c.args.first, c.args.lines.bytes) i.0 (script_view g.W.Write.contents c.args.script) came in
    inl (i.0, subst Left c.in-Over.is i.2)

pub loop-preserved : goal.loop-preserved
loop-preserved g c =
    let i = c.loop.invariant in
    let old = script_view g.W.Write.contents c.args.script in
    let first : LineCame = (c.args.first, c.args.lines.bytes) in
    let bytes = c.read_next-next.new.self.bytes in
    let Left : Came g.row.D.Denot g.row.Q.Denot g.row.W.Denot → Type 0 = λ came. Reaches g.W.Write.contents (λ d. g.D.Driver.meaning d) Head first i.0 old came in
    let Bytes : List ℕ → Type 0 = λ bs. Comes g.W.Write.contents (λ d. g.D.Driver.meaning d) Body c.read_next-next.result bs (script_view g.W.Write.contents c.in-On.script) c.come-came-in-On.result in
    let last : LineCame = (c.read_next-next.result, bytes) in (
      i.0 ++ last ∷ [],
      (let n = length-append i.0 (last ∷ []) in let k = i.1 in omega (arith, n, k)),
      reaches_more g.W.Write.contents (λ d. g.D.Driver.meaning d) Head first i.0 last old c.in-On.script c.come-came-in-On.result (subst Left c.in-On.is i.2) (subst Bytes c.bytes-in-On.ensures c.come-came-in-On.ensures),
    )

pub returns-in-On-came : goal.returns-in-On-came
returns-in-On-came g c =
    let i = c.loop.invariant in
    let Left : Came g.row.D.Denot g.row.Q.Denot g.row.W.Denot → Type 0 = λ came. Reaches g.W.Write.contents (λ d. g.D.Driver.meaning d) Head (c.args.first, c.args.lines.bytes) i.0 (script_view g.W.Write.contents c.args.script) came in
    let k = i.1 in
    let most = c.loop-test.false in
    let within = c.loop.auto.counter-end in
    let count : length i.0 ≡ 2 ^ 64 - 1 = omega (arith, k, most, within) in
    inr (i.0, c.in-On-came.script, count, subst Left c.in-On-came.is i.2, c.over.ensures.out, c.over.ensures.status)

pub returns : goal.returns
returns g c =
    let i = c.loop.invariant in
    let Left : Came g.row.D.Denot g.row.Q.Denot g.row.W.Denot → Type 0 = λ came. Reaches g.W.Write.contents (λ d. g.D.Driver.meaning d) Head (c.args.first, c.args.lines.bytes) i.0 (script_view g.W.Write.contents c.args.script) came in
    inl (i.0, subst Left c.in-Over-came.is i.2)
