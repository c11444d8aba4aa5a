use Rattle.std.proofs.Common.{◌≡◌, refl, sym, ap, subst, ◌∙◌, arith}
use Rattle.atomic_table.specs.Table.Act.{keeps}
use Rattle.sd_ledger.specs.Ledger.{IsAmong, KnownIs, LedgerIs, TokenIs}
use Rattle.sd_ledger.proofs.Rule.{hands, looks, stays, takes}
use Rattle.sd_ledger.proofs.ledger.Ledger.know.Goals as goal

pub join_seat-requires : goal.join_seat-requires
join_seat-requires g c =
    let me = c.self.inside.seat.me in
    let one : c.token.inside.seat.table_id ≡ c.self.inside.seat.table_id =
    ap (λ (t : TokenIs _). t.id) c.token.view_is ∙ c.requires ∙ sym (ap (λ (l : LedgerIs _). l.id) c.self.view_is) in (
      c.self.invariant.here,
      one ∙ c.self.invariant.here,
      c.token.invariant.none,
      omega (arith, c.self.invariant.words),
      λ s rule here apart there.
          takes s.views c.self.inside.seat.id me.0 c.token.inside.seat.id c.token.inside.seat.me.0 c.self.invariant.first rule here apart there,
    )

pub load-requires : goal.load-requires
load-requires g c =
    let step = c.join_seat in
    let first = step.ensures.1 ∙ c.self.invariant.first in (
      step.ensures.0 ∙ c.self.invariant.here,
      omega (arith, c.self.invariant.words),
      λ s rule long here word. (
        step.new.seat.me.0,
        keeps,
        tt,
        stays s.views step.new.seat.id step.new.seat.me.0 rule here,
        (refl, looks s.views step.new.seat.id step.new.seat.me.0 first rule here),
      ),
    )

pub split_seat-seat-requires : goal.split_seat-seat-requires
split_seat-seat-requires g c =
    let step = c.load in (
      step.ensures.0 ∙ c.join_seat.ensures.0 ∙ c.self.invariant.here,
      omega (arith, c.self.invariant.words),
      λ s rule here.
          hands s.views step.new.seat.id step.new.seat.me.0 (step.ensures.1 ∙ c.join_seat.ensures.1 ∙ c.self.invariant.first) rule here,
    )

pub returns-clause-among : goal.returns-clause-among
returns-clause-among g c = λ x m.
    let me = c.self.inside.seat.me in
    let joined : c.join_seat.new.seat.me.0 ≡ record { written = me.0.written; shown = c.token.inside.seat.me.0.shown } = ap (λ (p : KnownIs _ × _). p.0) c.join_seat.ensures.2 in
    let shown : c.join_seat.new.seat.me.0.shown ≡ c.args.token.shown = ap (λ (k : KnownIs _). k.shown) joined ∙ ap (λ (t : TokenIs _). t.shown) c.token.view_is in
    let written : c.join_seat.new.seat.me.0.written ≡ c.args.self.now.entries = ap (λ (k : KnownIs _). k.written) joined ∙ ap (λ (l : LedgerIs _). l.entries) c.self.view_is in
    subst (λ l. IsAmong x l) written (c.load.ensures.2.1 x (subst (λ l. IsAmong x l) (sym shown) m))
