use Rattle.std.proofs.Common.{rules, ◌≡◌, ◌≤◌, ◌+◌, ℕ, sym, subst, arith, [], ◌∷◌, ◌++◌, length}
use Rattle.sd_base.specs.Limits.{most_drives}
use Rattle.sd_line.specs.Named.{AreNamedFor}
use Rattle.sd_gates.proofs.Last.{last_there, still_there}
use Rattle.sd_gates.proofs.jobs.begin_all.Goals as goal

pub begin-requires : goal.begin-requires
begin-requires g c =
    let all = c.loop-line.all.items in
    let rest = c.pop.new.self.items in
    let made = c.in_ok-made.made in
    let is : all ≡ rest ++ made ∷ [] = search rules in
    let no : c.in_ok-no.no ≡ length rest + 1 = search rules in
    let within : c.in_ok-no.no ≤ most_drives = search rules in
    let most : length rest + 1 ≤ most_drives = omega (arith, no, within) in
    let named : AreNamedFor g.N.Naming.table (length rest + 1) made = c.loop-line.invariant.tables (length rest) made (last_there all rest made is) most in
    (subst (λ (n : ℕ). AreNamedFor g.N.Naming.table n made) (sym no) named, c.loop-line.invariant.times _)

pub loop-line-preserved : goal.loop-line-preserved
loop-line-preserved g c =
    let all = c.loop-line.all.items in
    let rest = c.pop.new.self.items in
    let made = c.in_ok-made.made in
    let is : all ≡ rest ++ made ∷ [] = search rules in
    record { tables = λ k one at. c.loop-line.invariant.tables k one (still_there all rest made is k one at); times = c.loop-line.invariant.times }
