use Rattle.std.proofs.Common.{List, sym, subst, ◌∙◌, arith}
use Rattle.sd_world.specs.World.{WorldSession}
use Rattle.sd_core.specs.Numbers.{NumbersAreTickets}
use Rattle.sd_events.specs.View.{world_of}
use Rattle.sd_events.proofs.Found.{bay_read, never_empty, online_within}
use Rattle.sd_core.proofs.Bays.{reads_missing, reads_gone, reads_elsewhere, reads_there}
use Rattle.sd_core.proofs.Gone.{are_tickets, gone_there}
use Rattle.sd_core.proofs.reading.read_parts.Goals as goal

pub returns-in-Err : goal.returns-in-Err
returns-in-Err g c =
    record {
      reads = reads_missing (λ d. g.D.Driver.meaning d) c.args.key (g.K.Sink.got c.args.sink.now) (world_of c.args.parts.now) c.args.spans.now c.in-Some.first.now
          c.in-Some-drive_of.number c.in-Err.why c.unread.result c.in-Some.ensures.value c.in-Some-drive_of.ensures c.in-Err.ensures.err c.unread.ensures.nowhere c.unread.ensures.other;
    }

pub index_mut-bay-requires : goal.index_mut-bay-requires
index_mut-bay-requires g c = omega (arith, online_within (world_of c.args.parts.now) _ _ c.in-Ok.ensures.ok, c.args.parts.now.bays.ok.0)

pub unreachable-requires : goal.unreachable-requires
unreachable-requires g c = never_empty (world_of c.args.parts.now) _ _ _ _ c.in-Ok.ensures.ok c.index_mut-bay.ensures.value c.bay.view_is c.in_default-drive.is

pub is_gone-gone-requires-clause-most : goal.is_gone-gone-requires-clause-most
is_gone-gone-requires-clause-most g c κs within =
    subst (λ (es : List WorldSession). NumbersAreTickets es) (sym c.deref.ensures.value) (are_tickets (world_of c.args.parts.now) c.requires.world)

pub returns-then-gone : goal.returns-then-gone
returns-then-gone g c =
    let w = world_of c.args.parts.now in
    let number = c.in-Some-drive_of.number in
    let b = bay_read w number _ _ _ c.in-Ok.ensures.ok c.index_mut-bay.ensures.value c.bay.view_is in
    let gone = gone_there w c.args.key c.args.spans.now _ c.is_gone-gone.result c.deref.ensures.value c.is_gone-gone.ensures in
    record {
      reads = reads_gone (λ d. g.D.Driver.meaning d) c.args.key (g.K.Sink.got c.args.sink.now) w c.args.spans.now c.in-Some.first.now
          number _ _ c.in-Some-drive.drive c.in-Some.ensures.value c.in-Some-drive_of.ensures b c.in-Some-drive.is
          (sym gone ∙ c.if-gone.true);
    }

pub returns-then-not-all : goal.returns-then-not-all
returns-then-not-all g c =
    let w = world_of c.args.parts.now in
    let number = c.in-Some-drive_of.number in
    let b = bay_read w number _ _ _ c.in-Ok.ensures.ok c.index_mut-bay.ensures.value c.bay.view_is in
    let gone = gone_there w c.args.key c.args.spans.now _ c.is_gone-gone.result c.deref.ensures.value c.is_gone-gone.ensures in
    record {
      reads = reads_elsewhere (λ d. g.D.Driver.meaning d) c.args.key (g.K.Sink.got c.args.sink.now) w c.args.spans.now c.in-Some.first.now
          number _ _ c.in-Some-drive.drive c.in-Some.ensures.value c.in-Some-drive_of.ensures b c.in-Some-drive.is
          (sym gone ∙ c.if-gone.false) (sym c.are_at_drive-all.ensures ∙ c.if-not-all.true);
    }

pub returns : goal.returns
returns g c =
    let w = world_of c.args.parts.now in
    let number = c.in-Some-drive_of.number in
    let b = bay_read w number _ _ _ c.in-Ok.ensures.ok c.index_mut-bay.ensures.value c.bay.view_is in
    let gone = gone_there w c.args.key c.args.spans.now _ c.is_gone-gone.result c.deref.ensures.value c.is_gone-gone.ensures in
    record {
      reads = reads_there (λ d. g.D.Driver.meaning d) c.args.key (g.K.Sink.got c.args.sink.now) (g.K.Sink.got c.read_drive.new.sink) c.read_drive.result
          w c.args.spans.now c.in-Some.first.now number _ _ c.in-Some-drive.drive c.read_drive.new.drive
          c.in-Some.ensures.value c.in-Some-drive_of.ensures b c.in-Some-drive.is (sym gone ∙ c.if-gone.false)
          (sym c.are_at_drive-all.ensures ∙ c.if-not-all.false) c.read_drive.ensures;
    }
