use Rattle.std.proofs.Common.{ap, ◌∙◌, refl, inl, inr, arith}
use Rattle.std.proofs.lemmas.Result.{err_from_is_err_and}
use Rattle.sd_journal.specs.Journal.{placements}
use Rattle.sd_span.specs.Spans.{spans_of}
use Rattle.sd_events.proofs.Found.{found_within, online_within, never_empty}
use Rattle.sd_events.specs.View.{world_of}
use Rattle.sd_events.proofs.Seats.{seated, online_read, gone_offline}
use Rattle.sd_events.proofs.closing.media.Goals as goal

pub index-entry-requires : goal.index-entry-requires
index-entry-requires g c = omega (arith, found_within _ _ _ c.in_ok-at.ensures.ok, c.deref.ensures.len)

pub returns-in_err-place : goal.returns-in_err-place
returns-in_err-place g c =
    let w = world_of c.args.parts.now in
    let gone = gone_offline w c.args.ticket _ _ _ _ c.in_err-place.field-0.0 c.requires.world c.in_ok-at.ensures.ok c.deref.ensures.value c.index-entry.ensures c.entry.view_is c.in_err-place.ensures.err in
    record {
      moves = (let p = err_from_is_err_and c.from_residual-in_err-place.result c.from_residual-in_err-place.ensures.1 in rw (p.1, p.2)
          (inr (_, gone.0, inl gone.1), refl));
    }

pub index-bay-requires : goal.index-bay-requires
index-bay-requires g c = omega (arith, online_within (world_of c.args.parts.now) _ _ c.in_ok-place.ensures.ok, c.args.parts.now.bays.ok.0)

pub unreachable-requires : goal.unreachable-requires
unreachable-requires g c = never_empty (world_of c.args.parts.now) _ _ _ _ c.in_ok-place.ensures.ok c.index-bay.ensures c.bay.view_is c.in_default.is

pub returns-in-Ok : goal.returns-in-Ok
returns-in-Ok g c =
    let s = seated (world_of c.args.parts.now) c.args.ticket _ _ _ _ _ _ _ c.requires.world c.in_ok-at.ensures.ok c.deref.ensures.value c.index-entry.ensures c.entry.view_is c.in_ok-place.ensures.ok.2.number c.index-bay.ensures c.bay.view_is in
    let d = c.in-Some.drive in
    let is = c.in-Ok.ensures ∙ ap (λ k. spans_of k (placements d.journal)) c.key.ensures in
    record { moves = ((_, s.read.found, (_, _, d, online_read d s c.in-Some.is, is)), refl) }

pub returns-in-Err : goal.returns-in-Err
returns-in-Err g c =
    let s = seated (world_of c.args.parts.now) c.args.ticket _ _ _ _ _ _ _ c.requires.world c.in_ok-at.ensures.ok c.deref.ensures.value c.index-entry.ensures c.entry.view_is c.in_ok-place.ensures.ok.2.number c.index-bay.ensures c.bay.view_is in
    let d = c.in-Some.drive in
    record { moves = (inr (_, s.read.found, inr (_, _, d, online_read d s c.in-Some.is, refl)), refl) }
