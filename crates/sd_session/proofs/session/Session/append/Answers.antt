use Rattle.std.proofs.Common.{◌+◌, length, ap, ◌∙◌, sym, subst, arith}
use Rattle.std.proofs.lemmas.List.{nil_from_length}
use Rattle.sd_base.specs.Record.{Record}
use Rattle.sd_session.specs.Session.{SessionView, MayTake}
use Rattle.sd_session.proofs.SessionLemmas.{takes_record}
use Rattle.sd_session.proofs.PackedLemmas.{packed_record}
use Rattle.sd_session.proofs.session.Session.append.Goals as goal

pub returns-clause-ok : goal.returns-clause-ok
returns-clause-ok g c =
    let s = c.self.inside in
    let is = c.self.view_is in
    let r = c.args.rec.now in
    takes_record _ c.args.self.now r c.in-Some.totals.records c.in-Some.totals.bytes c.rec.inside.index c.put.new.self is
    (ap (λ (v : SessionView). v.status) is ∙ c.in_ok-active.ensures.ok)
    (subst (λ (v : SessionView). MayTake v.count v.bytes v.last r) (sym is) c.in-Some.ensures.0)
    (nil_from_length s.packer.waiting (omega arith))
    (c.in-Some.ensures.1 ∙ ap (λ (v : SessionView). v.count + 1) (sym is))
    (c.in-Some.ensures.2 ∙ ap (λ (v : SessionView). v.bytes + length r.bytes) (sym is))
    (ap (λ (v : Record). v.index) c.rec.view_is)
    (c.in_default-put.ensures.packs (c.self.invariant.active_open (ap (λ (v : SessionView). v.status) is ∙ c.in_ok-active.ensures.ok)))
    c.in_default-put.ensures.adds c.in_default-put.ensures.opens
    c.put.ensures.room

pub invariant_of-self-2 : goal.invariant_of-self-2
invariant_of-self-2 g c =
    let s = c.self.inside in
    let active = ap (λ (v : SessionView). v.status) c.self.view_is ∙ c.in_ok-active.ensures.ok in
    let has = c.self.invariant.active_open active in
    record {
      active_open = λ _. c.in_default-put.ensures.opens;
      else_closed = λ other. absurd (other active);
      whole = c.self.invariant.whole;
      packed = λ running. packed_record _ c.args.rec.now c.in-Some.totals.records c.in-Some.totals.bytes c.rec.inside.index c.put.new.self (c.self.invariant.packed running) active
          (c.in-Some.ensures.1 ∙ ap (λ (v : SessionView). v.count + 1) (sym c.self.view_is))
          (c.in-Some.ensures.2 ∙ ap (λ (v : SessionView). v.bytes + length c.args.rec.now.bytes) (sym c.self.view_is))
          (c.in_default-put.ensures.packs has) c.put.ensures.room;
    }
