use Rattle.std.proofs.Common.{◌≡◌, ◌∙◌, ap, sym, Some, None}
use Rattle.std.specs.Option.{option_copied}
use Rattle.sd_journal.specs.Kept.{replay}
use Rattle.sd_journal.specs.Journal.{fails}
use Rattle.sd_journal.specs.Share.{share_of}
use Rattle.sd_journal.proofs.ShareLemmas.{share_fits, none_placed, share_fails, none_fails}
use Rattle.sd_journal.proofs.journal.Journal.fails.Goals as goal

pub returns-in-Some : goal.returns-in-Some
returns-in-Some c =
    let es = replay c.self.inside.told.items in
    let names = c.self.inside.names.names in
    let ns = c.self.inside.cells.noted in
    let there : share_of c.self.inside.shares c.args.key ≡ Some c.in-Some.share.now = sym c.get.ensures ∙ ap option_copied c.in-Some.is in
    c.fails.ensures
    ∙ share_fails names ns es c.args.key c.in-Some.share.now (share_fits names ns es c.args.key c.self.inside.shares c.in-Some.share.now c.self.invariant.shares there)
    ∙ ap (λ v. fails c.args.key v.entries) c.self.view_is

pub returns-in-None : goal.returns-in-None
returns-in-None c =
    let es = replay c.self.inside.told.items in
    let none : share_of c.self.inside.shares c.args.key ≡ None = sym c.get.ensures ∙ ap option_copied c.in-None.is in
    none_fails c.args.key es (none_placed c.self.inside.names.names c.self.inside.cells.noted es c.args.key c.self.inside.shares c.self.invariant.shares none)
    ∙ ap (λ v. fails c.args.key v.entries) c.self.view_is
