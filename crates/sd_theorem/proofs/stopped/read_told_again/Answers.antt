use Rattle.std.proofs.Common.{refl, subst, List, []}
use Rattle.std.specs.Global.{Global}
use Rattle.sd_base.specs.declared.number.SessionKey.{SessionKey}
use Rattle.sd_span.specs.declared.span.Span.{Span}
use Rattle.sd_theorem.specs.Lists.{over}
use Rattle.sd_theorem.specs.Returns.{Returns}
use Rattle.sd_theorem.proofs.stopped.read_told_again.Goals as goal

pub returns : goal.returns
returns g c = λ table time side part close was honest store same left since runs adopted later none.
    let is = over g.D.Driver.meaning g.S.SpoolStore.meaning in
    let then = (is.device close.drive.device).shelf in
    let now = (is.device side.drive.device).shelf in
    let told = c.told_closes_come_back.ensures is table time side part close was honest store in
    let of_key : Returns Global is c.args.key close.receipt.spans part.told then now =
    subst (λ (k : SessionKey). Returns Global is k close.receipt.spans part.told then now) same.0 told in
    let t : Returns Global is c.args.key c.args.spans.now part.told then now =
    subst (λ (l : List Span). Returns Global is c.args.key l part.told then now) same.1 of_key in
    t.comes_back left left [] c.args.world.now c.read.new.self _ _ c.read.result since refl runs adopted later none c.read.ensures
