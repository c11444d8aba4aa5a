use Rattle.std.proofs.Common.{◌≡◌, true, false, subst}
use Rattle.std.proofs.lemmas.Result.{err_from_is_err_and, IfErr-weaker, on_err_weaker}
use Rattle.sd_base.specs.declared.number.SessionKey.{SessionKey}
use Rattle.sd_base.specs.Key.{is_key}
use Rattle.sd_readback.proofs.ReaderLemmas.{other_key, own_key, reads_other, reads_own, refused_added, refused_uncountable, if_err, on_ok_three}
use Rattle.sd_readback.proofs.HandsOverLemmas.{block_front}
use Rattle.sd_readback.proofs.reader.Reader.read_block.Goals as goal

pub returns-then-ne-clause-ok : goal.returns-then-ne-clause-ok
returns-then-ne-clause-ok g c =
    let other : is_key c.args.self.now.key c.args.block.now.key ≡ false = other_key _ c.ne.result c.ne.ensures c.if-ne.true in
    reads_other c.args.self.now (g.S.Sink.got c.args.sink.now) _ (λ key e. subst (λ (k : SessionKey). is_key k c.args.block.now.key ≡ false) e other)

pub returns-in_err-add-clause-refused : goal.returns-in_err-add-clause-refused
returns-in_err-add-clause-refused g c =
    let same : is_key c.args.self.now.key c.args.block.now.key ≡ true = own_key _ c.ne.result c.ne.ensures c.if-ne.false in
    let p = err_from_is_err_and c.from_residual.result c.from_residual.ensures.1 in
    if_err c.from_residual.result p.0 _ p.1
    (λ other key before taken r. refused_added c.in_err-add.field-0.0 p.0 key before taken c.args.self.now _ p.2 other r
    (subst (λ (k : SessionKey). is_key k c.args.block.now.key ≡ true) r.key_is same) c.in_err-add.ensures.no_cutting)

pub returns-clause-ok : goal.returns-clause-ok
returns-clause-ok g c =
    let same : is_key c.args.self.now.key c.args.block.now.key ≡ true = own_key _ c.ne.result c.ne.ensures c.if-ne.false in
    on_ok_three c.hand_over.result
    (λ sink is counted. reads_own c.args.self.now c.hand_over.new.self (g.S.Sink.got c.args.sink.now) (g.S.Sink.got c.hand_over.new.sink) c.add.new.self _
    (λ key e. subst (λ (k : SessionKey). is_key k c.args.block.now.key ≡ true) e same)
    c.in_ok-add.ensures.unpacks (c.in_ok-add.ensures.undamaged.1) sink is counted)
    c.hand_over.ensures.sink c.hand_over.ensures.reader c.hand_over.ensures.counted

pub returns-clause-refused : goal.returns-clause-refused
returns-clause-refused g c =
    let same : is_key c.args.self.now.key c.args.block.now.key ≡ true = own_key _ c.ne.result c.ne.ensures c.if-ne.false in
    IfErr-weaker c.hand_over.result _ _
    (λ fault why other key before taken r.
    let many = why other in (
      many.0,
      refused_uncountable key before taken c.args.self.now c.add.new.self _ r (subst (λ (k : SessionKey). is_key k c.args.block.now.key ≡ true) r.key_is same)
          (c.in_ok-add.ensures.unpacks _ taken r.unpacks) many.1,
    ))
    c.hand_over.ensures.uncountable

pub returns-clause-handed_over : goal.returns-clause-handed_over
returns-clause-handed_over g c =
    let same : is_key c.args.self.now.key c.args.block.now.key ≡ true = own_key _ c.ne.result c.ne.ensures c.if-ne.false in
    on_err_weaker c.hand_over.result
    (block_front c.args.self.now (g.S.Sink.got c.args.sink.now) (g.S.Sink.got c.hand_over.new.sink) c.add.new.self _
    (λ key e. subst (λ (k : SessionKey). is_key k c.args.block.now.key ≡ true) e same) c.in_ok-add.ensures.unpacks)
    c.hand_over.ensures.handed_over
