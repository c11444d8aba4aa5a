use Rattle.std.proofs.Common.{◌≡◌, List, [], ◌∷◌, sym, subst}
use Rattle.sd_machine.specs.declared.event.Event.{Event}
use Rattle.sd_machine.specs.declared.event.Event.TheVariants.{Take, Sync}
use Rattle.sd_machine.specs.declared.reply.Reply.{Reply}
use Rattle.sd_core.specs.Rounds.{AreTurns, IsPlacing, IsTurn, PlaysOn, online_flags, placing}
use Rattle.sd_core.proofs.Played.{Are, on_step, on_and, on_kind, on_none}
use Rattle.sd_core.proofs.RoundParts.{online_one, take_answered, take_refused, turn_offline, turn_online}
use Rattle.sd_core.proofs.turns.turn.Goals as goal

pub returns-in-Refused : goal.returns-in-Refused
returns-in-Refused g c =
    let M = g.D.Driver.meaning in
    let old = c.args.world.now in
    let flags = online_flags old in
    let d = c.args.drive in
    let refused = take_refused M old c.step-took.new.self d c.in-Refused.field-0 (rw c.in-Refused.is at c.step-took.ensures.moves) in
    let none = on_none M (AreTurns (online_one flags d)) old c.new.result c.new.ensures (turn_offline flags d refused.0) in
    subst (λ w. PlaysOn M (AreTurns (online_one flags d)) old c.new.result w) (sym refused.1) none

pub returns : goal.returns
returns g c =
    let M = g.D.Driver.meaning in
    let old = c.args.world.now in
    let flags = online_flags old in
    let d = c.args.drive in
    let on = take_answered M old c.step-took.new.self d c.step-took.result c.in_default.not-Refused c.step-took.ensures.moves in
    let Took = Are (Take d ∷ []) (c.step-took.result ∷ []) in
    let Synced = Are (Sync d ∷ []) (c.step-synced.result ∷ []) in
    let Passed : List Event → List Reply → Type 0 = λ es rs. (placed : List Reply) × (es ≡ Take d ∷ placing d placed) × (rs ≡ c.step-took.result ∷ placed) in
    let took = on_step M _ _ (Take d) _ c.of.result c.step-took.ensures c.of.ensures in
    let synced = on_step M _ _ (Sync d) _ c.of-2.result c.step-synced.ensures c.of-2.ensures in
    let passed = on_and M Took (IsPlacing d) Passed _ _ _ _ _ _ took c.place-placed.ensures c.and-passed.ensures.moved c.and-passed.ensures.placed
    (λ es fs rs ss p q. (ss, rw (p.0, q), rw p.1)) in
    let turn = on_and M Passed Synced (IsTurn d) _ _ _ _ _ _ passed synced c.and.ensures.moved c.and.ensures.placed
    (λ es fs rs ss p q. record { took = c.step-took.result; placed = p.0; synced = c.step-synced.result; events_are = rw (p.1, q.0); replies_are = rw (p.2, q.1) }) in
    on_kind M (IsTurn d) (AreTurns (online_one flags d)) _ _ _ turn (λ es rs t. turn_online flags d es rs on t)
