use Rattle.std.proofs.Common.{◌∙◌, ap, sym, refl}
use Rattle.std.specs.Prelude.{◌==◌}
use Rattle.std.specs.List.{list_any}
use Rattle.sd_journal.specs.Kept.{replay}
use Rattle.sd_journal.specs.Journal.{any_awaits_sync, fails_with}
use Rattle.sd_journal.specs.declared.lying.Lying.{Lying}
use Rattle.sd_journal.proofs.NameLemmas.{no_place_is}
use Rattle.sd_journal.proofs.LyingLemmas.{any_awaits, entries_off, awaits_off}
use Rattle.sd_journal.proofs.journal.Journal.has_unsynced.Goals as goal

pub returns-in-Some : goal.returns-in-Some
returns-in-Some c =
    let es = replay c.self.inside.told.items in
    let place = c.in-Some.place in
    let at = c.in-Some.ensures.there place refl in
    c.any_lies.ensures ∙ ap (list_any (λ (l : Lying). place == l.volume)) c.deref.ensures.value
    ∙ any_awaits c.args.volume.now place c.self.inside.awaiting.items es (λ key. c.self.invariant.awaits key place at.0 ∙ ap (λ v. fails_with key v es) at.1)
    ∙ ap (λ v. any_awaits_sync c.args.volume.now v.entries) c.self.view_is

pub returns-in-None : goal.returns-in-None
returns-in-None c =
    let es = replay c.self.inside.told.items in
    let names = c.self.inside.names.names in
    let volume = c.args.volume.now in
    let off = entries_off names volume c.self.inside.cells.noted es (λ place below. no_place_is names volume place c.in-None.ensures below) c.self.invariant.named c.self.invariant.placed in
    sym (awaits_off volume es off) ∙ ap (λ v. any_awaits_sync volume v.entries) c.self.view_is
