use Rattle.std.proofs.Common.{arith, length, [], ◌∷◌, ◌++◌, ap, refl, sym, subst, ◌∙◌}
use Rattle.std.proofs.lemmas.List.{length-append}
use Rattle.sd_tool.specs.Lines.{came_with}
use Rattle.sd_tool.specs.Settings.{AreSettings, usual_values, values_with}
use Rattle.sd_tool.proofs.HeadLemmas.{Began, as_line, began_ends, began_long, began_more, began_set}
use Rattle.sd_tool.proofs.SettingLemmas.{settings_more, values_more}
use Rattle.sd_tool.proofs.settings.read_settings.Goals as goal

pub loop-preserved : goal.loop-preserved
loop-preserved g c =
    let i = c.loop.invariant in
    let line = c.read_next-first.new.self.bytes in
    let setting = c.in-Some.setting in
    let came = c.read_next-first.ensures.came ∙ ap (λ n. came_with n c.loop.lines.came line) c.in-Some.ensures.line in (
      (
        i.0.0 ++ setting ∷ [],
        subst (λ ls. AreSettings ls (i.0.0 ++ setting ∷ [])) (sym came) (settings_more c.loop.lines.came i.0.0 line setting i.0.1 c.in-Some.ensures.found),
        c.in-Ok.ensures.ok ∙ ap (λ v. values_with v setting) i.0.2 ∙ sym (values_more usual_values i.0.0 setting),
      ),
      ap length came ∙ (let n = length-append c.loop.lines.came (line ∷ []) in let k = i.1 in omega (arith, n, k)),
      subst (Began _ _) (sym came) (began_more _ _ _ c.loop.lines.came line i.2 (as_line _ _ line c.read_next-first.ensures.first c.in-Some.ensures.line)),
    )

pub loop-init : goal.loop-init
loop-init g c =
    let came = c.new-lines.ensures.came in
    (([], subst (λ ls. AreSettings ls []) (sym came) tt, c.usual-values.ensures), ap length came, subst (Began _ _) (sym came) refl)

pub returns-in_default-clause-begins : goal.returns-in_default-clause-begins
returns-in_default-clause-begins g c =
    let i = c.loop.invariant in
    began_ends _ _ c.loop.lines.came _ _ _ i.2 c.read_next-first.ensures.first c.read_next-first.ensures.came

pub returns-in_default-set-clause-begins : goal.returns-in_default-set-clause-begins
returns-in_default-set-clause-begins g c =
    let i = c.loop.invariant in
    let line = c.read_next-first.new.self.bytes in
    let comes = as_line _ _ line c.read_next-first.ensures.first c.in-Some.ensures.line in
    let came = c.read_next-first.ensures.came ∙ ap (λ n. came_with n c.loop.lines.came line) c.in-Some.ensures.line in
    began_set _ _ c.loop.lines.came _ line _ i.2 comes came

pub returns-clause-begins : goal.returns-clause-begins
returns-clause-begins g c =
    let i = c.loop.invariant in
    let k = i.1 in
    let most = c.loop-test.false in
    began_long _ _ c.loop.lines.came _ _ i.2 (omega (arith, k, most))
