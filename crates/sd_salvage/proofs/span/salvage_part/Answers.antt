use Rattle.std.proofs.Common.{◌≡◌, ◌++◌, ◌+◌, ◌∷◌, [], List, ℕ, ap, arith, drop, length, refl, sym, subst, ◌∙◌, Some}
use Rattle.std.specs.Prelude.{IsTrue}
use Rattle.std.proofs.lemmas.Result.{err_from_is_err_and}
use Rattle.sd_volume.proofs.DeviceLemmas.{OnlyReads-as, OnlyReads-trans}
use Rattle.sd_readback.proofs.DeviceLemmas.{OnlyReads-reading, OnlyReads-refl}
use Rattle.sd_scan.proofs.RunLemmas.{block_long, size_of_block}
use Rattle.sd_salvage.specs.Readable.{Piece, Read, Stored, before, place, rest_of, stored}
use Rattle.sd_salvage.specs.Salvage.{Takes}
use Rattle.sd_salvage.proofs.ReadableLemmas.{GoesFrom, from_end, from_next, from_start}
use Rattle.sd_salvage.proofs.SalvageLemmas.{takes_as, takes_none, takes_then}
use Rattle.sd_salvage.proofs.span.salvage_part.Goals as goal

pub loop-whole-init : goal.loop-whole-init
loop-whole-init g c = record {
  key = refl;
  name = refl;
  device = OnlyReads-refl (g.D.Driver.meaning c.args.driver.now);
  shows = λ honest shows. shows;
  takes = λ honest shows held there size. ([], from_start c.args.span.now.volume held.bytes c.args.span.now.start c.args.span.now.end, takes_none c.args.salvager.now.key c.args.salvager.now _ _);
}

pub loop-whole-preserved : goal.loop-whole-preserved
loop-whole-preserved g c =
    let so_far = c.loop-whole.invariant in
    let next = c.in_ok-whole.ensures in
    let volume = (g.D.Driver.meaning c.loop-whole.driver).shelf.volume in
    let shown = c.next_within.new.volume.shown in
    let b : Stored = stored c.in-Some.whole.at c.in-Some.whole.head (drop 24 shown) in
    let key = c.args.salvager.now.key in
    record {
      key = c.in_ok-take.ensures.key ∙ c.tell_before.ensures.key ∙ so_far.key;
      name = next.name ∙ so_far.name;
      device = OnlyReads-trans _ _ _ _ _ (λ n. n) so_far.device (OnlyReads-as _ _ _ _ (λ f. cc) (λ f. absurd f) next.device);
      shows = λ honest shows. next.shows (subst IsTrue (sym so_far.device.counted.honest) honest) (so_far.shows honest shows);
      takes = λ honest shows held there size.
          let honest_1 = subst IsTrue (sym so_far.device.counted.honest) honest in
          let there_1 : volume c.loop-whole.volume.name ≡ Some held = ap volume so_far.name ∙ (so_far.device.same honest _ ∙ there) in
          let (done, goes, takes) = so_far.takes honest shows held there size in
          let is_next = rw c.in-Some.is at (next.next honest_1 (so_far.shows honest shows) held there_1) in
          let body : c.split_at.result.1.now ≡ drop 24 shown = c.split_at.ensures.back ∙ ap (drop 24) c.shown.ensures.shown in
          let block_size = size_of_block shown c.in-Some.whole.head (rw c.in-Some.is at next.block) in
          let gap = before c.args.span.now.volume c.loop-whole.at c.loop-whole.last b in
          let tell = takes_as c.loop-whole.salvager.key key so_far.key c.tell_before.ensures.takes in
          let take = takes_as c.tell_before.new.salvager.key key (c.tell_before.ensures.key ∙ so_far.key) c.in_ok-take.ensures.takes in
          let read = subst (λ (l : List ℕ). Takes key c.tell_before.new.salvager c.take.new.self (Read (place c.args.span.now.volume c.in-Some.whole.at) (record { key = c.in-Some.whole.head.key; body = l }) ∷ [])
          (g.S.Salvaged.got c.tell_before.new.sink) (g.S.Salvaged.got c.take.new.sink) (g.S.Salvaged.lost c.tell_before.new.sink) (g.S.Salvaged.lost c.take.new.sink)) body take in (
            done ++ (gap ++ Read (place c.args.span.now.volume c.in-Some.whole.at) b.block ∷ []),
            subst (λ (n : ℕ). GoesFrom c.args.span.now.volume held.bytes c.args.span.now.start c.args.span.now.end (c.in-Some.whole.at + n) (Some c.in-Some.whole.head.number)
                (done ++ (gap ++ Read (place c.args.span.now.volume c.in-Some.whole.at) b.block ∷ []))) (sym block_size)
                (from_next c.args.span.now.volume held.bytes c.args.span.now.start c.args.span.now.end c.loop-whole.at c.loop-whole.last done b goes is_next),
            takes_then key c.args.salvager.now c.loop-whole.salvager c.take.new.self done (gap ++ Read (place c.args.span.now.volume c.in-Some.whole.at) b.block ∷ []) _ _ _ _ _ _ takes
                (takes_then key c.loop-whole.salvager c.tell_before.new.salvager c.take.new.self gap (Read (place c.args.span.now.volume c.in-Some.whole.at) b.block ∷ []) _ _ _ _ _ _ tell read),
          );
    }

pub returns-in_err-whole-clause-device : goal.returns-in_err-whole-clause-device
returns-in_err-whole-clause-device g c =
    let p = err_from_is_err_and c.from_residual.result c.from_residual.ensures.1 in
    rw (p.1, p.2) (OnlyReads-trans _ _ _ _ _ (λ n. n) c.loop-whole.invariant.device (OnlyReads-reading {T = _} c.in_err-whole.field-0.0 _ _ c.in_err-whole.ensures.faults c.in_err-whole.ensures.device))

pub returns-in_err-take-clause-device : goal.returns-in_err-take-clause-device
returns-in_err-take-clause-device g c =
    let p = err_from_is_err_and c.from_residual-in_err-take.result c.from_residual-in_err-take.ensures.1 in
    rw (p.1, p.2) (OnlyReads-trans _ _ _ _ _ (λ n. n) c.loop-whole.invariant.device (OnlyReads-as _ _ _ _ (λ f. cc) (λ f. cc) c.in_ok-whole.ensures.device))

pub returns-clause-device : goal.returns-clause-device
returns-clause-device g c =
    OnlyReads-trans _ _ _ _ _ (λ n. n) c.loop-whole.invariant.device (OnlyReads-as _ _ _ _ (λ f. cc) (λ f. cc) c.in_ok-whole.ensures.device)

pub returns-clause-takes : goal.returns-clause-takes
returns-clause-takes g c = λ honest shows held there size.
    let so_far = c.loop-whole.invariant in
    let next = c.in_ok-whole.ensures in
    let volume = (g.D.Driver.meaning c.loop-whole.driver).shelf.volume in
    let honest_1 = subst IsTrue (sym so_far.device.counted.honest) honest in
    let there_1 : volume c.loop-whole.volume.name ≡ Some held = ap volume so_far.name ∙ (so_far.device.same honest _ ∙ there) in
    let (done, goes, takes) = so_far.takes honest shows held there size in
    let none = rw c.in_default.is at (next.none honest_1 (so_far.shows honest shows) held there_1 (omega (arith, c.min-limit.ensures, size))) in
    let all = from_end c.args.span.now.volume held.bytes c.args.span.now.start c.args.span.now.end c.loop-whole.at c.loop-whole.last done goes none in
    let key = c.args.salvager.now.key in
    let rest = takes_as c.loop-whole.salvager.key key so_far.key c.tell_rest.ensures.takes in (
      all.0,
      all.1,
      subst (λ (l : List Piece). Takes key c.args.salvager.now c.tell_rest.new.salvager l (g.S.Salvaged.got c.args.sink.now) (g.S.Salvaged.got c.tell_rest.new.sink) (g.S.Salvaged.lost c.args.sink.now) (g.S.Salvaged.lost c.tell_rest.new.sink))
          (sym all.2)
          (takes_then key c.args.salvager.now c.loop-whole.salvager c.tell_rest.new.salvager done (rest_of c.args.span.now.volume c.loop-whole.at c.args.span.now.end) _ _ _ _ _ _ takes rest),
    )

pub split_at-requires : goal.split_at-requires
split_at-requires g c =
    let block = rw c.in-Some.is at c.in_ok-whole.ensures.block in
    omega (arith, block_long c.next_within.new.volume.shown c.in-Some.whole.head block, ap length c.shown.ensures.shown)
