use Rattle.std.proofs.Common.{◌≡◌, rules, ap, sym, subst, ◌∙◌, length}
use Rattle.sd_driver.specs.Meaning.{Meaning}
use Rattle.sd_line.specs.Side.{SideIs}
use Rattle.sd_line.specs.Tells.{IsOfSent}
use Rattle.sd_closes.specs.Pieces.{keyed}
use Rattle.sd_journal.specs.Journal.{placed_of}
use Rattle.sd_line.proofs.SideLemmas.{side_told}
use Rattle.sd_line.proofs.TellLemmas.{own_count, tell_keeps}
use Rattle.sd_ruled.specs.Seats.{DriveSeatIs}
use Rattle.sd_line.proofs.side.DriveSide.tell.Goals as goal

pub invariant_of-self-2 : goal.invariant_of-self-2
invariant_of-self-2 g c =
    let meaning : g.row.D.Denot → Meaning = λ d. g.D.Driver.meaning d in
    let p = c.self.inside in
    let seat = c.args.seat.now in
    let r = c.args.receipt.now in
    record {
      keeps = tell_keeps meaning g.N.Naming.table g.N.Naming.time p.no p.book c.write.new.self p.drive p.seat c.is_taken.new.drive p.told c.add.new.self seat.seat.lane seat.seat.sent r
          c.self.invariant.keeps c.know.ensures
          (subst (λ (s : SideIs g.row.D.Denot). IsOfSent s.drive.journal seat.seat.sent r) (sym c.self.view_is) c.requires.own)
          (c.if-not-is_taken.ensures.taken (search rules)) (search rules) c.is_taken.ensures.same.1 (search rules) c.write.ensures;
      counted = c.self.invariant.counted ∙ ap (λ (s : DriveSeatIs). s.taken) (sym c.is_taken.ensures.same.1);
    }

pub returns-clause-own : goal.returns-clause-own
returns-clause-own g c = λ yes.
    let meaning : g.row.D.Denot → Meaning = λ d. g.D.Driver.meaning d in
    let p = c.self.inside in
    let seat = c.args.seat.now in
    let r = c.args.receipt.now in
    subst (λ (s : SideIs g.row.D.Denot). length (keyed r.key seat.seat.sent) ≡ placed_of r.key s.drive.journal) c.self.view_is
    (own_count meaning g.N.Naming.table g.N.Naming.time (side_told p.no p.book p.drive p.seat p.told) seat.seat.lane seat.seat.sent r c.self.invariant.keeps
    (subst (λ (s : SideIs g.row.D.Denot). IsOfSent s.drive.journal seat.seat.sent r) (sym c.self.view_is) c.requires.own)
    (c.if-not-is_taken.ensures.taken (search rules)) (search rules))
