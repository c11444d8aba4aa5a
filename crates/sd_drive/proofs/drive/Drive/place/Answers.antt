use Rattle.std.proofs.Common.{rules, refl, ap, sym, ◌∙◌, Some}
use Rattle.std.proofs.lemmas.Option.{slice_get_read}
use Rattle.sd_volume.proofs.DeviceLemmas.{Counted-as}
use Rattle.sd_drive.specs.Moves.{hand_after}
use Rattle.sd_drive.proofs.PlaceLemmas.{kept_placing, pieces_placing, places_of, takes_here, limit_allows, limit_allowed}
use Rattle.sd_drive.proofs.SyncLemmas.{loaded_name_is}
use Rattle.sd_drive.proofs.drive.Drive.place.Goals as goal

pub invariant_of-self-2 : goal.invariant_of-self-2
invariant_of-self-2 g c =
    let e = c.place_on-placed.ensures in
    let vs = c.self.inside.volumes.items in
    let v = c.index_mut.result.now in
    let there = slice_get_read vs _ _ v refl (rw c.deref.ensures.value at c.in-Some-open_place.ensures.within) c.index_mut.ensures.value in
    let takes = takes_here vs c.self.inside.loaded c.self.inside.pool _ v (rw c.deref.ensures.value at c.in-Some-open_place.ensures.open) there in
    record {
      kept = kept_placing c.place_on-placed.result (g.D.Driver.meaning c.self.inside.driver) (g.D.Driver.meaning c.place_on-placed.new.driver) vs c.self.inside.loaded c.self.inside.journal.entries c.place_on-placed.new.journal.entries
          c.in-Some-open_place.at v c.place_on-placed.new.volume c.in-Some.piece c.self.inside.limits.volume c.self.invariant.kept takes.loaded_is there takes.status_is e.on e.counted.honest e.loaded e.later e.counted.moment e.at e.others;
      limit = c.self.invariant.limit;
    }

pub returns-clause-places : goal.returns-clause-places
returns-clause-places g c =
    let e = c.place_on-placed.ensures in
    let vs = c.self.inside.volumes.items in
    let v = c.index_mut.result.now in
    let there = slice_get_read vs _ _ v refl (rw c.deref.ensures.value at c.in-Some-open_place.ensures.within) c.index_mut.ensures.value in
    let takes = takes_here vs c.self.inside.loaded c.self.inside.pool _ v (rw c.deref.ensures.value at c.in-Some-open_place.ensures.open) there in
    rw (← c.self.view_is) (places_of c.place_on-placed.result _ _ c.in-Some-open_place.at v c.place_on-placed.new.volume c.in-Some.piece c.in-Some.is takes e.on e.room (let h = c.empty_after.ensures in search rules))

pub returns-clause-counted : goal.returns-clause-counted
returns-clause-counted g c =
    let e = c.place_on-placed.ensures in
    let vs = c.self.inside.volumes.items in
    let v = c.index_mut.result.now in
    let there = slice_get_read vs _ _ v refl (rw c.deref.ensures.value at c.in-Some-open_place.ensures.within) c.index_mut.ensures.value in
    let takes = takes_here vs c.self.inside.loaded c.self.inside.pool _ v (rw c.deref.ensures.value at c.in-Some-open_place.ensures.open) there in
    rw (← c.self.view_is) (Counted-as _ _ _ _ (g.D.Driver.meaning c.self.inside.driver) (g.D.Driver.meaning c.place_on-placed.new.driver) (λ f. f) (λ f. f)
    (λ n. (n.0, limit_allows _ c.in-Some.piece _ v c.in-Some.is takes n.1)) (λ n. (n.0, limit_allowed _ c.in-Some.piece _ v c.in-Some.is takes n.1)) e.counted)

pub returns-clause-keeps : goal.returns-clause-keeps
returns-clause-keeps g c =
    let e = c.place_on-placed.ensures in
    let vs = c.self.inside.volumes.items in
    let v = c.index_mut.result.now in
    let there = slice_get_read vs _ _ v refl (rw c.deref.ensures.value at c.in-Some-open_place.ensures.within) c.index_mut.ensures.value in
    let takes = takes_here vs c.self.inside.loaded c.self.inside.pool _ v (rw c.deref.ensures.value at c.in-Some-open_place.ensures.open) there in
    let emptied = c.empty_after.ensures ∙ ap (hand_after c.place_on-placed.result) (ap (λ p. Some p) e.piece ∙ sym c.in-Some.is) in
    rw (← c.self.view_is) (pieces_placing c.place_on-placed.result (g.D.Driver.meaning c.self.inside.driver) (g.D.Driver.meaning c.place_on-placed.new.driver) vs c.self.inside.loaded c.self.inside.journal.entries c.place_on-placed.new.journal.entries
    c.self.inside.hand c.empty_after.new.hand c.in-Some-open_place.at v c.place_on-placed.new.volume c.in-Some.piece c.self.inside.limits.volume c.self.invariant.kept takes.loaded_is there takes.status_is c.in-Some.is emptied e.on e.counted.honest e.at e.others)

pub returns-clause-later : goal.returns-clause-later
returns-clause-later g c = rw (← c.self.view_is) c.place_on-placed.ensures.later

pub returns-clause-not_asked : goal.returns-clause-not_asked
returns-clause-not_asked g c =
    let e = c.place_on-placed.ensures in
    let vs = c.self.inside.volumes.items in
    let v = c.index_mut.result.now in
    let there = slice_get_read vs _ _ v refl (rw c.deref.ensures.value at c.in-Some-open_place.ensures.within) c.index_mut.ensures.value in
    let takes = takes_here vs c.self.inside.loaded c.self.inside.pool _ v (rw c.deref.ensures.value at c.in-Some-open_place.ensures.open) there in
    rw (← c.self.view_is) (λ none. e.not_asked (λ within. none (limit_allows _ c.in-Some.piece _ v c.in-Some.is takes within)))

pub returns-clause-others : goal.returns-clause-others
returns-clause-others g c =
    let e = c.place_on-placed.ensures in
    let vs = c.self.inside.volumes.items in
    let v = c.index_mut.result.now in
    let there = slice_get_read vs _ _ v refl (rw c.deref.ensures.value at c.in-Some-open_place.ensures.within) c.index_mut.ensures.value in
    let takes = takes_here vs c.self.inside.loaded c.self.inside.pool _ v (rw c.deref.ensures.value at c.in-Some-open_place.ensures.open) there in
    rw (← c.self.view_is) (λ honest name apart. e.others honest name (λ is. apart (c.self.invariant.kept.tied ∙ loaded_name_is vs c.self.inside.loaded _ v takes.loaded_is there ∙ ap (λ n. Some n) (sym is))))
