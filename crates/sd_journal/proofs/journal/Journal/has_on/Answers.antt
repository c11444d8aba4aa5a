use Rattle.std.proofs.Common.{◌≡◌, ◌∙◌, ap, sym, Some}
use Rattle.std.specs.Option.{option_copied}
use Rattle.sd_journal.specs.Kept.{replay}
use Rattle.sd_journal.specs.Journal.{has_on}
use Rattle.sd_journal.specs.Share.{share_of}
use Rattle.sd_journal.proofs.NameLemmas.{no_place_is}
use Rattle.sd_journal.proofs.ShareLemmas.{share_fits, share_on}
use Rattle.sd_journal.proofs.LyingLemmas.{entries_off, has_off}
use Rattle.sd_journal.proofs.journal.Journal.has_on.Goals as goal

pub returns-in-Some-find : goal.returns-in-Some-find
returns-in-Some-find c =
    let es = replay c.self.inside.told.items in
    let names = c.self.inside.names.names in
    let ns = c.self.inside.cells.noted in
    let there : share_of c.self.inside.shares c.args.key ≡ Some c.in-Some.share.now = sym c.get.ensures ∙ ap option_copied c.in-Some.is in
    c.is_on.ensures
    ∙ share_on names c.args.volume.now c.in-Some-find.place c.in-Some-find.ensures ns es c.args.key c.in-Some.share.now
    (share_fits names ns es c.args.key c.self.inside.shares c.in-Some.share.now c.self.invariant.shares there)
    ∙ ap (λ v. has_on c.args.key c.args.volume.now v.entries) c.self.view_is

pub returns-in-None : goal.returns-in-None
returns-in-None c =
    let es = replay c.self.inside.told.items in
    let names = c.self.inside.names.names in
    let volume = c.args.volume.now in
    let off = entries_off names volume c.self.inside.cells.noted es (λ place below. no_place_is names volume place c.in-None.ensures below) c.self.invariant.named c.self.invariant.placed in
    sym (has_off c.args.key volume es off) ∙ ap (λ v. has_on c.args.key volume v.entries) c.self.view_is
