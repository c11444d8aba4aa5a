use Rattle.std.proofs.Common.{List, [], ◌∷◌, ◌++◌, None, refl, ap, ◌∙◌, inl, inr}
use Rattle.sd_events.proofs.SeekLemmas.{fails_later}
use Rattle.sd_world.proofs.SeekLemmas.{next_free}
use Rattle.sd_events.proofs.seeking.seek.Goals as goal

pub returns-in_default : goal.returns-in_default
returns-in_default g c = λ queue. (None, (c.in_default.ensures, refl))

pub returns-in-Ok : goal.returns-in-Ok
returns-in-Ok g c = λ queue.
    let wants = c.in-Some.ensures in
    let next = rw c.volumes.ensures at c.in-Some-next_volume.ensures in
    let m = c.in-Ok.ensures queue in
    (m.0, ((wants.0, c.in-Some.pool, wants.1, next.0, next.1, next.2), m.1))

pub returns-in-Err : goal.returns-in-Err
returns-in-Err g c = λ queue.
    let wants = c.in-Some.ensures in
    let next = rw c.volumes.ensures at c.in-Some-next_volume.ensures in
    let name = c.in-Some-next_volume.name in
    let due = next_free c.args.at.now c.in-Some.pool name next.0 next.1 c.know.ensures.differ wants.0 wants.1 next.2 in
    let m = c.in-Err.ensures queue in (
      m.0,
      inr (name, (wants.0, c.in-Some.pool, wants.1, next.0, next.1, next.2), fails_later (λ x. g.D.Driver.meaning x) name c.in-Err.why _ _ due m.1),
    )

pub returns-in-Ok-ask : goal.returns-in-Ok-ask
returns-in-Ok-ask g c = λ queue.
    let wants = c.in-Some.ensures in
    let none = rw c.volumes.ensures at c.in-None.ensures in
    let e = c.in-Ok-ask.ensures in
    let media = c.copy-media.ensures ∙ c.media.ensures in (
      None,
      record {
        pool = c.in-Some.pool;
        none = (wants.0, wants.1, none);
        asks = record {
          claims = e.claims;
          first = λ not_yet. e.asked not_yet
              ∙ ap (λ (m : List _). c.args.desk.now.requests ++ record { drive = c.args.drive; pool = c.in-Some.pool; media = m } ∷ []) media;
          again = e.again;
        };
        is = refl;
      },
    )

pub returns-in-Err-ask : goal.returns-in-Err-ask
returns-in-Err-ask g c = λ queue.
    let wants = c.in-Some.ensures in
    let none = rw c.volumes.ensures at c.in-None.ensures in
    let e = c.in-Err-ask.ensures in (
      None,
      inl (
        (c.in-Some.pool, (wants.0, wants.1, none)),
        (λ at r within same. (let never = e.again_ok (λ asked. asked at r within same) in cc never)),
        refl,
        (record { claims = e.claims; requests = e.err }, refl),
      ),
    )
