use Rattle.std.proofs.Common.{◌∙◌, refl, arith}
use Rattle.std.proofs.lemmas.Option.{slice_get_read}
use Rattle.sd_base.proofs.ChoiceLemmas.{none_more, none_all}
use Rattle.sd_desk.specs.Next.{TakesBlocksOf}
use Rattle.sd_desk.proofs.next.next_volume.Goals as goal

pub loop-volume-init : goal.loop-volume-init
loop-volume-init c = λ place x below at is. absurd (omega arith)

pub returns-then-is_appendable_for : goal.returns-then-is_appendable_for
returns-then-is_appendable_for c =
    let takes = c.is_appendable_for.ensures.0 c.if-is_appendable_for.true in (
      c.loop-volume.volume-index,
      record {
        first = c.volume-item.result;
        there = slice_get_read _ _ _ _ refl c.loop-volume-test.true c.volume-item.is;
        is_candidate = record { appendable = takes.0; pool_is = takes.1 };
        before = λ other x below at is. c.loop-volume.invariant other x below at is;
        behind = λ other x past at is never. never;
      },
      c.copy.ensures ∙ c.name.ensures,
    )

pub loop-volume-preserved : goal.loop-volume-preserved
loop-volume-preserved c = none_more (TakesBlocksOf c.args.pool.now) _ _ c.volume-item.result c.loop-volume.invariant
    (slice_get_read _ _ _ _ refl c.loop-volume-test.true c.volume-item.is)
    (λ takes. let t = c.is_appendable_for.ensures.1 (takes.appendable, takes.pool_is) in let f = c.if-is_appendable_for.false in cc)

pub returns : goal.returns
returns c = none_all (TakesBlocksOf c.args.pool.now) _ _ (omega arith) c.loop-volume.invariant
