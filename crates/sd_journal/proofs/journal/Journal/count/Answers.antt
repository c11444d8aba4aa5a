use Rattle.std.proofs.Common.{◌≡◌, ◌∙◌, ap, sym, Some, None}
use Rattle.std.specs.Option.{option_copied}
use Rattle.sd_journal.specs.Kept.{replay}
use Rattle.sd_journal.specs.Journal.{counts_of}
use Rattle.sd_journal.specs.Share.{share_of}
use Rattle.sd_journal.proofs.ShareLemmas.{share_fits, none_placed, counts_none, counts_share}
use Rattle.sd_journal.proofs.journal.Journal.count.Goals as goal

pub returns-in-Some : goal.returns-in-Some
returns-in-Some c =
    let es = replay c.self.inside.told.items in
    let names = c.self.inside.names.names in
    let ns = c.self.inside.cells.noted in
    let there : share_of c.self.inside.shares c.args.key ≡ Some c.in-Some.share.now = sym c.get.ensures ∙ ap option_copied c.in-Some.is in
    counts_share names ns es c.args.key c.in-Some.share.now c.counts.result (share_fits names ns es c.args.key c.self.inside.shares c.in-Some.share.now c.self.invariant.shares there)
    c.counts.ensures.placed c.counts.ensures.synced
    ∙ ap (λ v. counts_of c.args.key v.entries) c.self.view_is

pub returns-in-None : goal.returns-in-None
returns-in-None c =
    let es = replay c.self.inside.told.items in
    let none : share_of c.self.inside.shares c.args.key ≡ None = sym c.get.ensures ∙ ap option_copied c.in-None.is in
    counts_none c.args.key es (none_placed c.self.inside.names.names c.self.inside.cells.noted es c.args.key c.self.inside.shares c.self.invariant.shares none)
    ∙ ap (λ v. counts_of c.args.key v.entries) c.self.view_is
