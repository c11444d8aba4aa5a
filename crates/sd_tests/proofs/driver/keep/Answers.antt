use Rattle.std.proofs.Common.{◌≡◌, ℕ, length, List, ap, ◌∙◌, subst, arith}
use Rattle.sd_driver.specs.Shelf.{Held, Lasts}
use Rattle.sd_driver.proofs.Lasting.{Passes-later, synced_last, still_lasts, still_lasts_below, StillLasts-trans, short_lasts, low_mark-lasts}
use Rattle.sd_tests.proofs.driver.keep.Goals as goal

pub returns : goal.returns
returns g c =
    let meaning = g.D.Driver.meaning in
    let name = c.args.name.now in
    let bytes = c.args.bytes.now in
    let honest_1 = c.in_ok-create.ensures.counts.honest ∙ c.requires.honest in
    let honest_2 = c.in_ok-append.ensures.counts.honest ∙ honest_1 in
    let loaded_1 = c.in_ok-create.ensures.loaded in
    let loaded_2 = c.in_ok-append.ensures.loaded ∙ loaded_1 in
    let made = (c.in_ok-create.ensures.ok c.requires.honest).made in
    let appended = (c.in_ok-append.ensures.ok honest_1).here name _ loaded_1 made in
    let since = (meaning c.sync.new.self).shelf.moment in
    let written : appended.0.bytes ≡ bytes = ap (λ (h : Held). h.bytes) appended.1 in
    let P : List ℕ → Type 0 = λ x. Lasts since name x (meaning c.sync.new.self).shelf in
    let lasts_3 = subst P written (synced_last name _ _ _ _ c.in_ok-sync.ensures.passes loaded_2 (c.in_ok-sync.ensures.ok honest_2) appended.2) in
    let still_4 = still_lasts _ _ c.unload.ensures.passes c.unload.ensures.stable in
    let still_5 = still_lasts _ _ c.in_ok-create-2.ensures.passes c.in_ok-create-2.ensures.stable in
    let still_6 = still_lasts _ _ c.in_ok-append-2.ensures.passes c.in_ok-append-2.ensures.stable in
    let lasts_6 = StillLasts-trans _ _ _ (StillLasts-trans _ _ _ still_4 still_5) still_6 since name bytes lasts_3 in
    let loaded_6 = c.in_ok-append-2.ensures.loaded ∙ c.in_ok-create-2.ensures.loaded in
    let below_7 = still_lasts_below (length bytes) _ c.args.other.now _ _ loaded_6 c.in_ok-cut.ensures.passes c.in_ok-cut.ensures.stable in
    let lasts_7 = short_lasts (length bytes) since c.args.other.now name bytes _ _ below_7 (omega arith) lasts_6 in
    let lasts_8 = still_lasts _ _ c.unload-2.ensures.passes c.unload-2.ensures.stable since name bytes lasts_7 in
    let later_4 = Passes-later _ _ c.unload.ensures.passes in
    let later_5 = Passes-later _ _ c.in_ok-create-2.ensures.passes in
    let later_6 = Passes-later _ _ c.in_ok-append-2.ensures.passes in
    let later_7 = Passes-later _ _ c.in_ok-cut.ensures.passes in
    let later_8 = Passes-later _ _ c.unload-2.ensures.passes in
    (since, lasts_8, low_mark-lasts since name bytes _ (omega (arith, later_4, later_5, later_6, later_7, later_8)) lasts_8)
