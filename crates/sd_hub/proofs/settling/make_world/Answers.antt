use Rattle.std.proofs.Common.{sym, subst, arith}
use Rattle.sd_drive.specs.Shelf.{Kept}
use Rattle.sd_events.specs.View.{world_of}
use Rattle.sd_hub.specs.Settles.{SettledIs}
use Rattle.sd_world.specs.World.{WorldView}
use Rattle.sd_hub.specs.Claimed.{ClaimsOwn}
use Rattle.sd_hub.specs.Machines.{MatchesTold}
use Rattle.sd_hub.proofs.Becomes.{count_is, have_tickets, settled_from, world_rules}
use Rattle.sd_hub.proofs.settling.make_world.Goals as goal

pub world_parts-requires-clause-tickets : goal.world_parts-requires-clause-tickets
world_parts-requires-clause-tickets g c κs within =
    have_tickets (λ d. g.D.Driver.meaning d) g.N.Naming.table g.N.Naming.time c.args.checked c.take_apart-settled.result c.take_apart-settled.ensures

pub world_parts-requires-clause-told : goal.world_parts-requires-clause-told
world_parts-requires-clause-told g c κs within =
    let count = count_is (λ d. g.D.Driver.meaning d) g.N.Naming.table g.N.Naming.time c.args.checked c.take_apart-settled.result c.take_apart-settled.ensures in
    let room = c.requires.told.1 in
    (c.requires.told.0, omega (arith, count, room))

pub world_parts-requires-clause-entries : goal.world_parts-requires-clause-entries
world_parts-requires-clause-entries g c κs within =
    let count = count_is (λ d. g.D.Driver.meaning d) g.N.Naming.table g.N.Naming.time c.args.checked c.take_apart-settled.result c.take_apart-settled.ensures in
    let room = c.requires.entries.1 in
    (c.requires.entries.0, omega (arith, count, room))

pub of_parts-requires-clause-rules : goal.of_parts-requires-clause-rules
of_parts-requires-clause-rules g c κs within =
    let becomes = c.world_parts.ensures.becomes in
    world_rules (λ d. g.D.Driver.meaning d) g.N.Naming.table g.N.Naming.time c.args.checked c.take_apart-settled.result becomes.0 (world_of c.world_parts.result) c.take_apart-settled.ensures becomes.1
    (subst (λ (s : SettledIs _). Kept (g.D.Driver.meaning s.drive.device) s.drive.volumes s.drive.loaded s.drive.journal) c.settled.view_is c.know.ensures)

pub returns-clause-matches : goal.returns-clause-matches
returns-clause-matches g c =
    let becomes = c.world_parts.ensures.becomes in
    subst (λ (w : WorldView _). MatchesTold (λ d. g.D.Driver.meaning d) g.N.Naming.table g.N.Naming.time c.args.checked.line c.args.checked.ends c.args.checked.receipts w)
    (sym c.of_parts.ensures.parts)
    (settled_from (λ d. g.D.Driver.meaning d) g.N.Naming.table g.N.Naming.time c.args.checked c.take_apart-settled.result becomes.0 (world_of c.world_parts.result) c.take_apart-settled.ensures becomes.1
    (subst (λ (s : SettledIs _). Kept (g.D.Driver.meaning s.drive.device) s.drive.volumes s.drive.loaded s.drive.journal) c.settled.view_is c.know.ensures))

pub returns-clause-claimed : goal.returns-clause-claimed
returns-clause-claimed g c = subst (λ (w : WorldView _). ClaimsOwn w) (sym c.of_parts.ensures.parts) c.world_parts.ensures.claimed
