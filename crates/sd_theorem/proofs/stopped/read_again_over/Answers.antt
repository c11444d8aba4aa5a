use Rattle.std.proofs.Common.{refl, []}
use Rattle.sd_theorem.specs.Lists.{over}
use Rattle.sd_theorem.proofs.stopped.read_again_over.Goals as goal

pub returns : goal.returns
returns g c = λ start w was left since runs adopted later none.
    let t = c.stop_theorem.ensures (over g.D.Driver.meaning g.S.SpoolStore.meaning) start c.args.key c.args.spans.now w was in (
      t.m,
      t.run,
      t.has,
      t.returns.comes_back left left [] c.args.world.now c.read.new.self _ _ c.read.result (since t.bay_then t.d_then t.online_then) refl runs adopted later none c.read.ensures,
    )
