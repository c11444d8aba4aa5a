use Rattle.std.proofs.Common.{◌≡◌, ◌++◌, ◌∙◌, true, false, ap, ap₂, subst, sym}
use Rattle.std.specs.Prelude.{Bool, ◌&&◌}
use Rattle.sd_base.specs.Key.{is_key}
use Rattle.sd_readback.proofs.ReaderLemmas.{other_key, own_key}
use Rattle.sd_collect.specs.Collect.{Collecting, GoesOn}
use Rattle.sd_salvage.specs.Readable.{place}
use Rattle.sd_salvage.specs.Salvage.{told_unless}
use Rattle.sd_salvage.specs.declared.salvager.Salvager.{Salvager}
use Rattle.sd_salvage.proofs.SalvageLemmas.{body_comes, takes_other, takes_own}
use Rattle.sd_salvage.proofs.salvager.Salvager.take.Goals as goal

pub returns-then-ne-clause-takes : goal.returns-then-ne-clause-takes
returns-then-ne-clause-takes g c =
    let other : is_key c.args.self.now.key c.args.key ≡ false = other_key _ c.ne.result c.ne.ensures c.if-ne.true in
    takes_other c.args.self.now.key c.args.self.now (place c.args.volume.now c.args.at) (record { key = c.args.key; body = c.args.body.now }) _ _ other

pub returns-clause-key : goal.returns-clause-key
returns-clause-key g c = ap (λ (s : Salvager). s.key) c.follows.ensures.rest

pub returns-clause-takes : goal.returns-clause-takes
returns-clause-takes g c =
    let own : is_key c.args.self.now.key c.args.key ≡ true = own_key _ c.ne.result c.ne.ensures c.if-ne.false in
    let (tokens, records, are, got, lost, goes) = c.in_ok-whole.ensures in
    let whole = c.in_ok-whole.whole in
    let follows = c.in_ok-follows.follows in
    let at = place c.args.volume.now c.args.at in
    let rest = c.follows.ensures.rest in
    let after : Salvager = record c.follows.new.self { sound = c.both-self.result } in
    let sound_is : c.both-self.result ≡ (c.args.self.now.sound && (whole && follows)) =
    c.both-self.ensures ∙ ap₂ (λ (a b : Bool). a && b) (ap (λ (s : Salvager). s.sound) rest) c.both-goes_on.ensures in
    takes_own c.args.self.now.key c.args.self.now after at (record { key = c.args.key; body = c.args.body.now }) whole (whole && follows) tokens records _ _ _ _ own are
    (body_comes c.args.self.now after at c.args.body.now whole follows sound_is (ap (λ (s : Salvager). s.found) rest) c.in_ok-follows.ensures.lost c.in_ok-follows.ensures.course)
    (c.tell_body.ensures.got ∙ got) (c.tell_body.ensures.told ∙ ap₂ (λ l b. l ++ told_unless b at) lost c.both-goes_on.ensures)
    (subst (λ (x : Collecting). GoesOn c.args.self.now.collector x tokens records) (sym (ap (λ (s : Salvager). s.collector) rest)) goes)
