use Rattle.std.proofs.Common.{[], ◌∷◌, ◌∙◌, sym, ap}
use Rattle.sd_machine.specs.declared.event.Event.TheVariants.{Place, Seek}
use Rattle.sd_core.specs.Rounds.{IsPlacing, placing}
use Rattle.sd_core.proofs.Played.{Are, on_step, on_and, on_kind, placing_once, placing_sought}
use Rattle.sd_core.proofs.turns.place.Goals as goal

pub returns-in_default : goal.returns-in_default
returns-in_default g c =
    let M = g.D.Driver.meaning in
    let d = c.args.drive in
    on_kind M (Are (Place d ∷ []) (c.step-placed.result ∷ [])) (IsPlacing d) _ _ _
    (on_step M _ _ (Place d) _ c.of-first.result c.step-placed.ensures c.of-first.ensures)
    (λ es rs p. p.0 ∙ sym (placing_once d c.step-placed.result c.in_default.not-NeedVolume) ∙ ap (placing d) (sym p.1))

pub returns-in_default-sought : goal.returns-in_default-sought
returns-in_default-sought g c =
    let M = g.D.Driver.meaning in
    let d = c.args.drive in
    let placed = on_step M _ _ (Place d) _ c.of-first.result c.step-placed.ensures c.of-first.ensures in
    let sought = on_step M _ _ (Seek d) _ c.of.result c.step-sought.ensures c.of.ensures in
    on_and M (Are (Place d ∷ []) (c.step-placed.result ∷ [])) (Are (Seek d ∷ []) (c.step-sought.result ∷ [])) (IsPlacing d) _ _ _ _ _ _
    placed sought c.and-both.ensures.moved c.and-both.ensures.placed
    (λ es fs rs ss p q. rw (p.0, p.1, q.0, q.1, c.in-NeedVolume.is) (sym (placing_sought d c.step-sought.result c.in_default-sought.not-Mounted)))

pub returns : goal.returns
returns g c =
    let M = g.D.Driver.meaning in
    let d = c.args.drive in
    let placed = on_step M _ _ (Place d) _ c.of-first.result c.step-placed.ensures c.of-first.ensures in
    let sought = on_step M _ _ (Seek d) _ c.of.result c.step-sought.ensures c.of.ensures in
    let again = on_step M _ _ (Place d) _ c.of-2.result c.step-again.ensures c.of-2.ensures in
    let Both = Are (Place d ∷ Seek d ∷ []) (c.step-placed.result ∷ c.step-sought.result ∷ []) in
    let both = on_and M (Are (Place d ∷ []) (c.step-placed.result ∷ [])) (Are (Seek d ∷ []) (c.step-sought.result ∷ [])) Both _ _ _ _ _ _
    placed sought c.and-both.ensures.moved c.and-both.ensures.placed
    (λ es fs rs ss p q. (rw (p.0, q.0), rw (p.1, q.1))) in
    on_and M Both (Are (Place d ∷ []) (c.step-again.result ∷ [])) (IsPlacing d) _ _ _ _ _ _
    both again c.and.ensures.moved c.and.ensures.placed
    (λ es fs rs ss p q. rw (p.0, p.1, q.0, q.1, c.in-NeedVolume.is, c.in-Mounted.is))
