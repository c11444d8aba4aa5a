use Rattle.std.proofs.Common.{arith, ◌-◌, ap, sym, subst, ◌∙◌}
use Rattle.std.proofs.lemmas.Grind.{common_steps}
use Rattle.std.specs.Prelude.{IsSome}
use Rattle.std.specs.Option.{option_map}
use Rattle.sd_base.specs.Limits.{block_header}
use Rattle.sd_base.specs.declared.refusal.Refusal.TheVariants.{Memory}
use Rattle.sd_session.specs.Session.{StartsSession}
use Rattle.sd_session.specs.declared.opening.Opening.{Opening}
use Rattle.sd_spool.specs.Job.{state_of}
use Rattle.sd_line.specs.Ends.{EndIs, KeepsEnd, LastIsOver}
use Rattle.sd_line.specs.Parts.{PreparedIs}
use Rattle.sd_line.proofs.OpenLemmas.{some_mapped, opened, no_room, not_opened, answered, end_again, keeps_back}
use Rattle.sd_line.proofs.prepared.prepare_at.Goals as goal

pub unwrap-store-requires : goal.unwrap-store-requires
unwrap-store-requires g c =
    some_mapped (λ s. state_of (g.S.SpoolStore.meaning s)) c.end.inside.store (subst (λ (e : EndIs). IsSome e.store) (sym c.end.view_is) c.requires.stored)

pub invariant_of-result : goal.invariant_of-result
invariant_of-result g c =
    let m = g.S.SpoolStore.meaning c.unwrap-store.result in
    let l = c.args.limits in
    let time = g.N.Naming.time in
    let s = c.in-Ok.session in
    let before = c.reserve.new.self.items in
    let f : EndIs = record { seat = c.end.inside.seat; store = option_map (λ s. state_of (g.S.SpoolStore.meaning s)) c.end.inside.store; sessions = c.end.inside.sessions.items; whole = c.end.inside.whole } in
    let stored = ap (option_map (λ s. state_of (g.S.SpoolStore.meaning s))) c.unwrap-store.ensures in
    let starts = subst (λ (o : Opening). StartsSession o (l.block - block_header) l.spool (state_of m) s) c.copy_of.ensures c.in-Ok.ensures.ok in
    let again = end_again f before m c.args.opening (l.block - block_header) l.spool s c.reserve.ensures.items stored starts in
    record {
      keeps = subst (KeepsEnd time) (sym again) c.end.invariant;
      over = subst LastIsOver (sym c.reserve.ensures.items) (subst (λ (e : EndIs). LastIsOver e.sessions) (sym c.end.view_is) c.requires.over);
      opens = opened l _ f before m c.args.opening s (sym again) c.reserve.ensures.items stored starts;
      time = c.requires.time ∙ ap (λ (e : EndIs). time e.seat.no) (sym c.end.view_is);
      id = c.requires.id;
      lane = c.requires.lane ∙ ap (λ (e : EndIs). e.seat.seat.lane) (sym c.end.view_is);
      limits = c.requires.limits;
      room = first_of (omega arith, grind (arith, common_steps));
    }

pub returns-in-Ok-clause-ok : goal.returns-in-Ok-clause-ok
returns-in-Ok-clause-ok g c =
    let m = g.S.SpoolStore.meaning c.unwrap-store.result in
    let l = c.args.limits in
    let s = c.in-Ok.session in
    let before = c.reserve.new.self.items in
    let f : EndIs = record { seat = c.end.inside.seat; store = option_map (λ s. state_of (g.S.SpoolStore.meaning s)) c.end.inside.store; sessions = c.end.inside.sessions.items; whole = c.end.inside.whole } in
    let stored = ap (option_map (λ s. state_of (g.S.SpoolStore.meaning s))) c.unwrap-store.ensures in
    let starts = subst (λ (o : Opening). StartsSession o (l.block - block_header) l.spool (state_of m) s) c.copy_of.ensures c.in-Ok.ensures.ok in
    let again = end_again f before m c.args.opening (l.block - block_header) l.spool s c.reserve.ensures.items stored starts in
    ap (λ e. let x : PreparedIs = record { limits = l; opening = c.args.opening; end = e } in x) (again ∙ c.end.view_is)

pub returns-in-Err-clause-err : goal.returns-in-Err-clause-err
returns-in-Err-clause-err g c =
    let m = g.S.SpoolStore.meaning c.unwrap-store.result in
    let f : EndIs = record { seat = c.end.inside.seat; store = option_map (λ s. state_of (g.S.SpoolStore.meaning s)) c.end.inside.store; sessions = c.end.inside.sessions.items; whole = c.end.inside.whole } in
    answered c.args.limits c.args.end Memory _ _ _
    (no_room c.args.limits c.args.end f c.reserve.new.self.items m c.end.view_is c.reserve.ensures.items
    (ap (option_map (λ s. state_of (g.S.SpoolStore.meaning s))) c.unwrap-store.ensures))
    c.not_parted.ensures.why c.not_parted.ensures.end

pub not_parted-requires-in-Err-open-after_bounds : goal.not_parted-requires-in-Err-open-after_bounds
not_parted-requires-in-Err-open-after_bounds g c κs within =
    let m = g.S.SpoolStore.meaning c.unwrap-store.result in
    let kept = c.in-Err-open in
    let f : EndIs = record { seat = c.end.inside.seat; store = option_map (λ s. state_of (g.S.SpoolStore.meaning s)) c.end.inside.store; sessions = c.end.inside.sessions.items; whole = c.end.inside.whole } in
    keeps_back g.N.Naming.time c.args.limits.spool f c.reserve.new.self.items m (g.S.SpoolStore.meaning kept.field-0.store) kept.field-0.why
    c.reserve.ensures.items (ap (option_map (λ s. state_of (g.S.SpoolStore.meaning s))) c.unwrap-store.ensures) kept.ensures.err c.end.invariant

pub returns-in-Err-open-clause-err : goal.returns-in-Err-open-clause-err
returns-in-Err-open-clause-err g c =
    let m = g.S.SpoolStore.meaning c.unwrap-store.result in
    let kept = c.in-Err-open in
    let m' = g.S.SpoolStore.meaning kept.field-0.store in
    let f : EndIs = record { seat = c.end.inside.seat; store = option_map (λ s. state_of (g.S.SpoolStore.meaning s)) c.end.inside.store; sessions = c.end.inside.sessions.items; whole = c.end.inside.whole } in
    answered c.args.limits c.args.end kept.field-0.why _ _ _
    (not_opened c.args.limits c.args.end f c.reserve.new.self.items m m' kept.field-0.why c.end.view_is c.reserve.ensures.items
    (ap (option_map (λ s. state_of (g.S.SpoolStore.meaning s))) c.unwrap-store.ensures) kept.ensures.err)
    c.not_parted-in-Err-open.ensures.why c.not_parted-in-Err-open.ensures.end
