use Rattle.std.proofs.Common.{◌≡◌, ◌∙◌, ap, arith, inr, sym, subst, IfSome, None, Some, option_map}
use Rattle.sd_session.specs.Session.{SessionView, GivesBack}
use Rattle.sd_spool.specs.Job.{StoreState, state_of}
use Rattle.sd_world.specs.World.{WorldSession, LaneView}
use Rattle.sd_events.specs.Found.{IsFoundAt}
use Rattle.sd_events.proofs.Found.{found_within, read_found}
use Rattle.sd_events.proofs.Stores.{held_by, gives}
use Rattle.sd_events.proofs.starting.take_store.Goals as goal

pub index_mut-entry-requires : goal.index_mut-entry-requires
index_mut-entry-requires g c =
    let es = c.deref.result.now in
    let found : IsFoundAt c.unwrap-ticket.result es c.unwrap-at.result =
    subst (λ o. IfSome o (IsFoundAt c.unwrap-ticket.result es)) c.unwrap-at.ensures c.find.ensures.found in
    omega (arith, found_within c.unwrap-ticket.result es c.unwrap-at.result found, c.deref.ensures.len)

pub unwrap-requires : goal.unwrap-requires
unwrap-requires g c =
    let es = c.args.sessions.now.items in
    let lane = c.args.lane.now in
    let ticket = c.unwrap-ticket.result in
    let at = c.unwrap-at.result in
    let stored : g.row.S.Denot → StoreState = λ s. state_of (g.S.SpoolStore.meaning s) in
    let empty : c.lane.inside.store ≡ None = cc (c.take.ensures.value, c.in_default.is) in
    let none : lane.store ≡ None = sym (ap (λ (l : LaneView). l.store) c.lane.view_is) ∙ ap (option_map stored) empty in
    let holder : lane.holder ≡ Some ticket = sym (ap (λ (l : LaneView). l.holder) c.lane.view_is) ∙ c.unwrap-ticket.ensures in
    let found : IsFoundAt ticket c.deref.result.now at = subst (λ o. IfSome o (IsFoundAt ticket c.deref.result.now)) c.unwrap-at.ensures c.find.ensures.found in
    let e : WorldSession = record { session = c.entry.inside.session; drive = c.entry.inside.drive } in
    let f = read_found ticket c.deref.result.now es at e c.index_mut-entry.result.now found c.deref.ensures.value c.index_mut-entry.ensures.value c.entry.view_is in
    gives lane es ticket e c.give_back.new.self c.give_back.result (held_by lane es c.requires.stored none) holder f.found c.give_back.ensures.none

pub returns-clause-takes : goal.returns-clause-takes
returns-clause-takes g c =
    let es = c.args.sessions.now.items in
    let lane = c.args.lane.now in
    let ticket = c.unwrap-ticket.result in
    let at = c.unwrap-at.result in
    let stored : g.row.S.Denot → StoreState = λ s. state_of (g.S.SpoolStore.meaning s) in
    let empty : c.lane.inside.store ≡ None = cc (c.take.ensures.value, c.in_default.is) in
    let none : lane.store ≡ None = sym (ap (λ (l : LaneView). l.store) c.lane.view_is) ∙ ap (option_map stored) empty in
    let holder : lane.holder ≡ Some ticket = sym (ap (λ (l : LaneView). l.holder) c.lane.view_is) ∙ c.unwrap-ticket.ensures in
    let found : IsFoundAt ticket c.deref.result.now at = subst (λ o. IfSome o (IsFoundAt ticket c.deref.result.now)) c.unwrap-at.ensures c.find.ensures.found in
    let e : WorldSession = record { session = c.entry.inside.session; drive = c.entry.inside.drive } in
    let f = read_found ticket c.deref.result.now es at e c.index_mut-entry.result.now found c.deref.ensures.value c.index_mut-entry.ensures.value c.entry.view_is in
    let s = c.give_back.new.self in
    let back : GivesBack e.session (stored c.unwrap.result) s = subst (λ o. IfSome o (λ store. GivesBack e.session (stored store) s)) c.unwrap.ensures c.give_back.ensures.some in
    inr (none, ticket, e, s, holder, f.found, back, f.changes (record e { session = s }) (ap (λ (x : SessionView). x.key.id) back.is ∙ f.id_is))
