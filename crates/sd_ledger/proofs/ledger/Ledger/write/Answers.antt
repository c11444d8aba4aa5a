use Rattle.std.proofs.Common.{◌≡◌, refl, ap, ◌∙◌, arith, [], ◌∷◌, ◌++◌}
use mathlib.Core.Option.{some-injective}
use Rattle.atomic_table.specs.Table.Act.{keeps}
use Rattle.sd_ledger.specs.Ledger.{KnownIs}
use Rattle.sd_ledger.proofs.Rule.{writes}
use Rattle.sd_ledger.proofs.ledger.Ledger.write.Goals as goal

pub compare_exchange_with-requires : goal.compare_exchange_with-requires
compare_exchange_with-requires g c =
    let me = c.self.inside.seat.me in (
      c.self.invariant.here,
      omega (arith, c.self.invariant.words),
      λ s rule long here word. (
        record { written = me.0.written ++ c.args.entry.now ∷ []; shown = me.0.shown },
        keeps,
        tt,
        writes s.views c.self.inside.seat.id me.0 c.args.entry.now c.self.invariant.first rule here,
        λ x is. ap (λ e. let w : KnownIs _ = record { written = me.0.written ++ e ∷ []; shown = me.0.shown } in (w, me.1)) (some-injective _ _ is),
      ),
    )

pub invariant_of-self : goal.invariant_of-self
invariant_of-self g c =
    let step = c.compare_exchange_with in
    let after = step.ensures.2 c.args.entry.now refl in
    record {
      here = step.ensures.0 ∙ c.self.invariant.here;
      words = c.self.invariant.words;
      first = step.ensures.1 ∙ c.self.invariant.first;
      none = ap (λ (p : KnownIs _ × _). p.1) after ∙ c.self.invariant.none;
      idle = ap (λ (p : KnownIs _ × _). p.0.shown) after ∙ c.self.invariant.idle;
    }
