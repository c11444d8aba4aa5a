use Rattle.std.proofs.Common.{◌≡◌, refl, sym, subst, ◌∙◌, false}
use Rattle.std.specs.Prelude.{IsSome, is_some}
use Rattle.std.specs.Option.{option_map}
use Rattle.sd_spool.specs.Job.{state_of}
use Rattle.sd_line.specs.Ends.{EndIs, LastIsOver, BringsStore, last_store}
use Rattle.sd_line.proofs.Keeps.{brings}
use Rattle.sd_line.proofs.OpenLemmas.{mapped_some, stored_here, brought, none_mapped, at_last}
use Rattle.sd_line.proofs.lane_end.LaneEnd.bring_store.Goals as goal

pub returns-then-is_some-clause-brings : goal.returns-then-is_some-clause-brings
returns-then-is_some-clause-brings g c =
    let e = c.args.self.now in
    let here : IsSome c.self.inside.store = sym c.is_some.ensures ∙ c.if-is_some.true in
    let some = subst (λ (x : EndIs). IsSome x.store) c.self.view_is (mapped_some (λ s. state_of (g.S.SpoolStore.meaning s)) c.self.inside.store here) in
    stored_here e e.store refl some

pub take_from_last-requires-clause-stored : goal.take_from_last-requires-clause-stored
take_from_last-requires-clause-stored g c κs within =
    let in_end = option_map (λ s. state_of (g.S.SpoolStore.meaning s)) c.self.inside.store in
    let not : false ≡ is_some c.self.inside.store = sym c.if-is_some.false ∙ c.is_some.ensures in
    at_last in_end (last_store c.self.inside.sessions.items) (none_mapped (λ s. state_of (g.S.SpoolStore.meaning s)) c.self.inside.store not) c.self.invariant.stored

pub invariant_of-self : goal.invariant_of-self
invariant_of-self g c =
    let f : EndIs = record { seat = c.self.inside.seat; store = option_map (λ s. state_of (g.S.SpoolStore.meaning s)) c.self.inside.store; sessions = c.self.inside.sessions.items; whole = c.self.inside.whole } in
    let took = c.take_from_last in
    let not : false ≡ is_some c.self.inside.store = sym c.if-is_some.false ∙ c.is_some.ensures in
    let b = brought (λ s. state_of (g.S.SpoolStore.meaning s)) took.result f took.new.sessions.items
    (none_mapped (λ s. state_of (g.S.SpoolStore.meaning s)) c.self.inside.store not) took.ensures.some took.ensures.gives_back in
    (brings g.N.Naming.time f _ c.self.invariant (subst (λ (e : EndIs). LastIsOver e.sessions) (sym c.self.view_is) c.requires) b).0

pub returns-clause-brings : goal.returns-clause-brings
returns-clause-brings g c =
    let f : EndIs = record { seat = c.self.inside.seat; store = option_map (λ s. state_of (g.S.SpoolStore.meaning s)) c.self.inside.store; sessions = c.self.inside.sessions.items; whole = c.self.inside.whole } in
    let took = c.take_from_last in
    let not : false ≡ is_some c.self.inside.store = sym c.if-is_some.false ∙ c.is_some.ensures in
    let b = brought (λ s. state_of (g.S.SpoolStore.meaning s)) took.result f took.new.sessions.items
    (none_mapped (λ s. state_of (g.S.SpoolStore.meaning s)) c.self.inside.store not) took.ensures.some took.ensures.gives_back in
    subst (λ (e : EndIs). BringsStore e (record { seat = f.seat; store = option_map (λ s. state_of (g.S.SpoolStore.meaning s)) took.result; sessions = took.new.sessions.items; whole = f.whole })) c.self.view_is b

pub returns-clause-over : goal.returns-clause-over
returns-clause-over g c =
    let f : EndIs = record { seat = c.self.inside.seat; store = option_map (λ s. state_of (g.S.SpoolStore.meaning s)) c.self.inside.store; sessions = c.self.inside.sessions.items; whole = c.self.inside.whole } in
    let took = c.take_from_last in
    let not : false ≡ is_some c.self.inside.store = sym c.if-is_some.false ∙ c.is_some.ensures in
    let b = brought (λ s. state_of (g.S.SpoolStore.meaning s)) took.result f took.new.sessions.items
    (none_mapped (λ s. state_of (g.S.SpoolStore.meaning s)) c.self.inside.store not) took.ensures.some took.ensures.gives_back in
    (brings g.N.Naming.time f _ c.self.invariant (subst (λ (e : EndIs). LastIsOver e.sessions) (sym c.self.view_is) c.requires) b).1
