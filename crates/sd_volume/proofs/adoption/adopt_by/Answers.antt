use Rattle.std.proofs.Common.{sym, ap, ◌∙◌, subst, inr, arith, Err}
use Rattle.std.specs.Prelude.{IsTrue}
use Rattle.std.proofs.lemmas.Result.{err_from_is_err_and}
use Rattle.sd_driver.proofs.Lasting.{StillLasts-trans, StillLastsBelow-of, StillLastsBelow-lower, StillLastsBelow-trans}
use Rattle.sd_volume.specs.Volume.{VolumeView}
use Rattle.sd_volume.specs.Adopt.{CutsAt}
use Rattle.sd_volume.proofs.ReaderLemmas.{shows_nothing}
use Rattle.sd_volume.proofs.DueLemmas.{refuses_due, not_due, adopts_of, KeepsUpTo-lower, KeepsWholeBlocks-same, KeepsWholeBlocks-cut}
use Rattle.sd_volume.proofs.NotedLemmas.{cut_due, cuts_found}
use Rattle.sd_volume.proofs.adoption.adopt_by.Goals as goal

pub returns-in_err-volume-clause-others_last : goal.returns-in_err-volume-clause-others_last
returns-in_err-volume-clause-others_last g c = StillLastsBelow-of 0 c.args.name.now _ _ c.in_err-volume.ensures.device.lasts

pub returns-in_err-volume-clause-others : goal.returns-in_err-volume-clause-others
returns-in_err-volume-clause-others g c = λ honest other apart. c.in_err-volume.ensures.device.same honest other

pub returns-in_err-cut_back-clause-others_last : goal.returns-in_err-cut_back-clause-others_last
returns-in_err-cut_back-clause-others_last g c =
    let name = c.args.name.now in
    let shelf_0 = (g.D.Driver.meaning c.args.driver.now).shelf in
    let shelf_1 = (g.D.Driver.meaning c.survey.new.driver).shelf in
    let shelf_2 = (g.D.Driver.meaning c.cut_back.new.driver).shelf in
    StillLastsBelow-trans 0 name shelf_0 shelf_1 shelf_2 (StillLastsBelow-of 0 name shelf_0 shelf_1 c.in_ok-volume.ensures.device.lasts) (StillLastsBelow-lower 0 c.volume.inside.end name shelf_1 shelf_2 (omega arith) c.in_err-cut_back.ensures.lasts_below)

pub returns-in_err-cut_back-clause-refused_last : goal.returns-in_err-cut_back-clause-refused_last
returns-in_err-cut_back-clause-refused_last g c =
    let p = err_from_is_err_and c.from_residual-in_err-cut_back.result c.from_residual-in_err-cut_back.ensures.1 in
    let shelf_0 = (g.D.Driver.meaning c.args.driver.now).shelf in
    let shelf_1 = (g.D.Driver.meaning c.survey.new.driver).shelf in
    let shelf_2 = (g.D.Driver.meaning c.cut_back.new.driver).shelf in
    rw (p.1, p.2) (λ other. StillLasts-trans shelf_0 shelf_1 shelf_2 c.in_ok-volume.ensures.device.lasts (c.in_err-cut_back.ensures.refused_last other))

pub returns-in_err-cut_back-clause-others : goal.returns-in_err-cut_back-clause-others
returns-in_err-cut_back-clause-others g c = λ honest other apart.
    let honest_1 = subst IsTrue (sym c.in_ok-volume.ensures.device.counted.honest) honest in
    (c.in_err-cut_back.ensures.keeps honest_1).others other apart ∙ c.in_ok-volume.ensures.device.same honest other

pub returns-clause-lasts_below : goal.returns-clause-lasts_below
returns-clause-lasts_below g c =
    let name = c.args.name.now in
    let end = c.in_ok-volume.volume.end in
    let shelf_0 = (g.D.Driver.meaning c.args.driver.now).shelf in
    let shelf_1 = (g.D.Driver.meaning c.survey.new.driver).shelf in
    let shelf_2 = (g.D.Driver.meaning c.cut_back.new.driver).shelf in
    let end_is = ap (λ (v : VolumeView). v.end) c.volume.view_is in
    StillLastsBelow-trans end name shelf_0 shelf_1 shelf_2 (StillLastsBelow-of end name shelf_0 shelf_1 c.in_ok-volume.ensures.device.lasts) (StillLastsBelow-lower end c.volume.inside.end name shelf_1 shelf_2 (omega (arith, end_is)) c.in_ok-cut_back.ensures.lasts_below)

pub returns-clause-others_last : goal.returns-clause-others_last
returns-clause-others_last g c =
    let name = c.args.name.now in
    let shelf_0 = (g.D.Driver.meaning c.args.driver.now).shelf in
    let shelf_1 = (g.D.Driver.meaning c.survey.new.driver).shelf in
    let shelf_2 = (g.D.Driver.meaning c.cut_back.new.driver).shelf in
    StillLastsBelow-trans 0 name shelf_0 shelf_1 shelf_2 (StillLastsBelow-of 0 name shelf_0 shelf_1 c.in_ok-volume.ensures.device.lasts) (StillLastsBelow-lower 0 c.volume.inside.end name shelf_1 shelf_2 (omega arith) c.in_ok-cut_back.ensures.lasts_below)

pub returns-clause-others : goal.returns-clause-others
returns-clause-others g c = λ honest other apart.
    let honest_1 = subst IsTrue (sym c.in_ok-volume.ensures.device.counted.honest) honest in
    (c.in_ok-cut_back.ensures.keeps honest_1).others other apart ∙ c.in_ok-volume.ensures.device.same honest other

pub returns-in_err-volume-clause-answers : goal.returns-in_err-volume-clause-answers
returns-in_err-volume-clause-answers g c = λ honest trusted.
    let p = err_from_is_err_and c.from_residual-in_err-volume.result c.from_residual-in_err-volume.ensures.1 in
    let shelf = (g.D.Driver.meaning c.args.driver.now).shelf in
    let shows = shows_nothing c.in_ok-reader.reader shelf c.in_ok-reader.ensures.bytes in
    let e = c.in_err-volume.ensures in
    rw (p.1, p.2) (record {
      adopts = tt;
      due = e.due honest shows trusted;
      refuses = λ fault due. refuses_due c.in_err-volume.field-0.0 fault c.args.name.now c.args.media.now c.args.start_time shelf (e.due honest shows trusted) due;
      keeps = KeepsWholeBlocks-same c.args.name.now _ _ (e.device.same honest) e.device.lasts;
      only_reads = λ fault due. e.device;
    })

pub returns-in_err-cut_back-clause-answers : goal.returns-in_err-cut_back-clause-answers
returns-in_err-cut_back-clause-answers g c = λ honest trusted.
    let name = c.args.name.now in
    let media = c.args.media.now in
    let start = c.args.start_time in
    let shelf_0 = (g.D.Driver.meaning c.args.driver.now).shelf in
    let shelf_1 = (g.D.Driver.meaning c.survey.new.driver).shelf in
    let shelf_2 = (g.D.Driver.meaning c.cut_back.new.driver).shelf in
    let v = c.in_ok-volume.volume in
    let found = c.in_ok-volume.ensures in
    let shows = shows_nothing c.in_ok-reader.reader shelf_0 c.in_ok-reader.ensures.bytes in
    let there = found.there honest in
    let end_is = ap (λ (x : VolumeView). x.end) c.volume.view_is in
    let honest_1 = subst IsTrue (sym found.device.counted.honest) honest in
    let p = err_from_is_err_and c.from_residual-in_err-cut_back.result c.from_residual-in_err-cut_back.ensures.1 in
    let is = found.adoptable honest shows trusted there.0 there.1 in
    let e = c.in_err-cut_back.ensures in
    rw (p.1, p.2) (record {
      adopts = tt;
      due = cut_due c.in_err-cut_back.field-0.0 name media start shelf_0 e.faults (λ f. sym (found.device.same honest name) ∙ e.not_there honest_1 (ap Err f));
      refuses = λ fault due. absurd (not_due fault name media start shelf_0 there.0 v there.1 is due);
      keeps = KeepsWholeBlocks-cut name media start v c.volume.inside.end shelf_0 shelf_1 shelf_2 there.0 there.1 is end_is
          (found.device.same honest) found.device.lasts (e.keeps honest_1) e.lasts_below;
      only_reads = λ fault due. absurd (not_due fault name media start shelf_0 there.0 v there.1 is due);
    })

pub returns-clause-answers : goal.returns-clause-answers
returns-clause-answers g c = λ honest trusted.
    let name = c.args.name.now in
    let media = c.args.media.now in
    let start = c.args.start_time in
    let shelf_0 = (g.D.Driver.meaning c.args.driver.now).shelf in
    let shelf_1 = (g.D.Driver.meaning c.survey.new.driver).shelf in
    let shelf_2 = (g.D.Driver.meaning c.cut_back.new.driver).shelf in
    let v = c.in_ok-volume.volume in
    let found = c.in_ok-volume.ensures in
    let shows = shows_nothing c.in_ok-reader.reader shelf_0 c.in_ok-reader.ensures.bytes in
    let there = found.there honest in
    let end_is = ap (λ (x : VolumeView). x.end) c.volume.view_is in
    let honest_1 = subst IsTrue (sym found.device.counted.honest) honest in
    let is = found.adoptable honest shows trusted there.0 there.1 in
    let e = c.in_ok-cut_back.ensures in
    record {
      adopts = adopts_of name media start v shelf_0 shelf_1 shelf_2 there.0 there.1 is found.name found.media
          (found.device.same honest) (subst (λ to. CutsAt to name shelf_1 shelf_2) end_is (e.ok honest_1));
      due = tt;
      refuses = λ fault due. absurd (not_due fault name media start shelf_0 there.0 v there.1 is due);
      keeps = KeepsWholeBlocks-cut name media start v c.volume.inside.end shelf_0 shelf_1 shelf_2 there.0 there.1 is end_is
          (found.device.same honest) found.device.lasts (e.keeps honest_1) e.lasts_below;
      only_reads = λ fault due. absurd (not_due fault name media start shelf_0 there.0 v there.1 is due);
    }

pub returns-clause-cuts : goal.returns-clause-cuts
returns-clause-cuts g c = λ honest.
    let name = c.args.name.now in
    let media = c.args.media.now in
    let start = c.args.start_time in
    let shelf_0 = (g.D.Driver.meaning c.args.driver.now).shelf in
    let shelf_1 = (g.D.Driver.meaning c.survey.new.driver).shelf in
    let shelf_2 = (g.D.Driver.meaning c.cut_back.new.driver).shelf in
    let v = c.in_ok-volume.volume in
    let found = c.in_ok-volume.ensures in
    let shows = shows_nothing c.in_ok-reader.reader shelf_0 c.in_ok-reader.ensures.bytes in
    let there = found.there honest in
    let end_is = ap (λ (x : VolumeView). x.end) c.volume.view_is in
    let honest_1 = subst IsTrue (sym found.device.counted.honest) honest in
    cuts_found name media start v shelf_0 shelf_1 shelf_2 there.0 there.1 (found.found honest shows there.0 there.1)
    (found.device.same honest) (subst (λ to. CutsAt to name shelf_1 shelf_2) end_is (c.in_ok-cut_back.ensures.ok honest_1))

pub returns-in_err-cut_back-clause-keeps : goal.returns-in_err-cut_back-clause-keeps
returns-in_err-cut_back-clause-keeps g c = λ honest.
    let name = c.args.name.now in
    let media = c.args.media.now in
    let start = c.args.start_time in
    let shelf_0 = (g.D.Driver.meaning c.args.driver.now).shelf in
    let shelf_1 = (g.D.Driver.meaning c.survey.new.driver).shelf in
    let shelf_2 = (g.D.Driver.meaning c.cut_back.new.driver).shelf in
    let v = c.in_ok-volume.volume in
    let found = c.in_ok-volume.ensures in
    let shows = shows_nothing c.in_ok-reader.reader shelf_0 c.in_ok-reader.ensures.bytes in
    let there = found.there honest in
    let end_is = ap (λ (x : VolumeView). x.end) c.volume.view_is in
    let honest_1 = subst IsTrue (sym found.device.counted.honest) honest in
    let e = c.in_err-cut_back.ensures in
    inr (
      there.0,
      v,
      there.1,
      found.found honest shows there.0 there.1,
      KeepsUpTo-lower v.end c.volume.inside.end name shelf_0 shelf_1 shelf_2 (omega (arith, end_is)) (found.device.same honest) (e.keeps honest_1),
      StillLastsBelow-trans v.end name shelf_0 shelf_1 shelf_2 (StillLastsBelow-of v.end name shelf_0 shelf_1 found.device.lasts)
          (StillLastsBelow-lower v.end c.volume.inside.end name shelf_1 shelf_2 (omega (arith, end_is)) e.lasts_below),
    )

pub returns-clause-keeps : goal.returns-clause-keeps
returns-clause-keeps g c = λ honest.
    let name = c.args.name.now in
    let media = c.args.media.now in
    let start = c.args.start_time in
    let shelf_0 = (g.D.Driver.meaning c.args.driver.now).shelf in
    let shelf_1 = (g.D.Driver.meaning c.survey.new.driver).shelf in
    let shelf_2 = (g.D.Driver.meaning c.cut_back.new.driver).shelf in
    let v = c.in_ok-volume.volume in
    let found = c.in_ok-volume.ensures in
    let shows = shows_nothing c.in_ok-reader.reader shelf_0 c.in_ok-reader.ensures.bytes in
    let there = found.there honest in
    let end_is = ap (λ (x : VolumeView). x.end) c.volume.view_is in
    let honest_1 = subst IsTrue (sym found.device.counted.honest) honest in
    let e = c.in_ok-cut_back.ensures in
    inr (
      there.0,
      v,
      there.1,
      found.found honest shows there.0 there.1,
      KeepsUpTo-lower v.end c.volume.inside.end name shelf_0 shelf_1 shelf_2 (omega (arith, end_is)) (found.device.same honest) (e.keeps honest_1),
      StillLastsBelow-trans v.end name shelf_0 shelf_1 shelf_2 (StillLastsBelow-of v.end name shelf_0 shelf_1 found.device.lasts)
          (StillLastsBelow-lower v.end c.volume.inside.end name shelf_1 shelf_2 (omega (arith, end_is)) e.lasts_below),
    )
