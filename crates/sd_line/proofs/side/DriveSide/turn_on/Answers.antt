use Rattle.std.proofs.Common.{Bool, refl, subst}
use Rattle.sd_driver.specs.Meaning.{Meaning}
use Rattle.sd_line.specs.Turns.{SyncsBy, Turns}
use Rattle.sd_line.specs.declared.turning.Turned.{Turned}
use Rattle.sd_line.proofs.SideLemmas.{side_of, told_keep, turn_keeps}
use Rattle.sd_line.proofs.TurnLemmas.{turn_lasts, lasts_on}
use Rattle.sd_line.proofs.side.DriveSide.turn_on.Goals as goal

pub returns-clause-turns : goal.returns-clause-turns
returns-clause-turns g c =
    let P : Bool → Type 0 = λ b. SyncsBy (λ d. g.D.Driver.meaning d) b c.sync-sync.result c.place-place.new.drive c.sync-sync.new.drive in
    rw (← c.self.view_is) (record {
      held = c.take-took.new.drive;
      after = c.place-place.new.drive;
      no_is = refl;
      takes = c.take-took.ensures.takes;
      places = c.place-place.ensures;
      syncs = subst P c.is_sync_due.ensures c.sync-sync.ensures;
    })

pub returns-clause-lasts : goal.returns-clause-lasts
returns-clause-lasts g c = (turn_lasts (λ d. g.D.Driver.meaning d) _ _ _ (returns-clause-turns g c)).lasts

pub returns-clause-goes_on : goal.returns-clause-goes_on
returns-clause-goes_on g c = lasts_on _ _ _ (turn_lasts (λ d. g.D.Driver.meaning d) _ _ _ (returns-clause-turns g c))

pub invariant_of-self : goal.invariant_of-self
invariant_of-self g c =
    let meaning : g.row.D.Denot → Meaning = λ d. g.D.Driver.meaning d in
    let P : Bool → Type 0 = λ b. SyncsBy meaning b c.sync-sync.result c.place-place.new.drive c.sync-sync.new.drive in
    let p = c.self.inside in
    let did : Turned = record { took = c.take-took.result; place = c.place-place.result; sync = c.sync-sync.result } in
    let turns : Turns meaning did (side_of p.no p.book.id p.drive p.seat) (side_of p.no p.book.id c.sync-sync.new.drive c.take-took.new.seat) = record {
      held = c.take-took.new.drive;
      after = c.place-place.new.drive;
      no_is = refl;
      takes = c.take-took.ensures.takes;
      places = c.place-place.ensures;
      syncs = subst P c.is_sync_due.ensures c.sync-sync.ensures;
    } in
    record {
      keeps = told_keep meaning g.N.Naming.table g.N.Naming.time p.no p.book.id p.drive c.sync-sync.new.drive p.seat c.take-took.new.seat p.told p.book.entries
          (lasts_on _ _ _ (turn_lasts meaning did _ _ turns))
          (turn_keeps meaning g.N.Naming.table g.N.Naming.time p.no p.book.id did p.drive c.sync-sync.new.drive p.seat c.take-took.new.seat turns) c.self.invariant.keeps;
      counted = c.take-took.ensures.counts;
    }
