-- What an event does to a world, by its reply.
use Rattle.std.specs.Prelude.{◌≡◌}
use Rattle.sd_driver.specs.Meaning.{Meaning}
use Rattle.sd_machine.specs.declared.event.Event.{Event}
use Rattle.sd_machine.specs.declared.event.Event.TheVariants.{Open, Append, End, Close, Cancel, Spool, Despool, Take, Place, Sync, Label, Adopt, Mount, Unmount, Seek, Retire, Purge, Media}
use Rattle.sd_machine.specs.declared.reply.Reply.{Reply}
use Rattle.sd_machine.specs.declared.reply.Reply.TheVariants.{Refused, Opened, Taken, Ended, Closed, Cancelled, Spooled, SpoolFull, Nothing, NoSpool, Sent, LaneFull, NotDue, Retired, Purged, Media as Spans}
use Rattle.sd_session.specs.Session.{TakesRecord, AppendRefused, EndsSession, EndRefused, DropsParts, NotRunning}
use Rattle.sd_session.specs.Spooling.{Spools, SpoolRefused}
use Rattle.sd_session.specs.Sending.{DespoolRefused}
use Rattle.sd_session.specs.declared.answer.Spooling.TheVariants as spooling
use Rattle.sd_session.specs.declared.answer.Despooled.TheVariants as despooled
use Rattle.sd_session.specs.declared.status.Status.TheVariants.{Cancelled as IsCancelled}
use Rattle.sd_volume.specs.declared.volume.VolumeStatus.TheVariants as volume
use Rattle.sd_world.specs.World.{WorldView, WorldSession, HasTicket}
use Rattle.sd_world.specs.Sessions.{TicketRefused, ChangesSession, RefusedWith, OpensSession, OpenRefused, DespoolsSession, ClosesAt, CloseCauses, SpansAt, MediaCauses}
use Rattle.sd_world.specs.Drives.{MovesDrive, RetiresDrive, RetireRefused, PurgesVolume, PurgeRefused}

-- From `old` the world answers the event with this reply and is `new` then. There is nothing for any other pair of event
-- and reply. `meaning` tells what a device is.
abbrev pub Moves : {D : Type 0} → (D → Meaning) → WorldView D → Event → Reply → WorldView D → Type 0
Moves meaning old (Open job pool media moment) (Opened ticket drive) new = OpensSession old job pool media moment ticket drive new
Moves meaning old (Open job pool media moment) (Refused why) new = OpenRefused old pool media why new
Moves meaning old (Append ticket r) (Taken n) new = ChangesSession old ticket new (λ s t. TakesRecord s r n t)
Moves meaning old (Append ticket r) (Refused why) new = TicketRefused old ticket why (λ e. AppendRefused e.session r why) × (new ≡ old)
Moves meaning old (End ticket moment) Ended new = ChangesSession old ticket new (λ s t. EndsSession s moment t)
Moves meaning old (End ticket moment) (Refused why) new = TicketRefused old ticket why (λ e. EndRefused e.session why) × (new ≡ old)
Moves meaning old (Close ticket) (Closed key spans) new = ClosesAt old ticket key spans new
Moves meaning old (Close ticket) (Refused why) new = TicketRefused old ticket why (CloseCauses old why) × (new ≡ old)
Moves meaning old (Cancel ticket) Cancelled new = ChangesSession old ticket new (λ s t. DropsParts s IsCancelled t)
Moves meaning old (Cancel ticket) (Refused why) new = TicketRefused old ticket why (λ e. NotRunning e.session why) × (new ≡ old)
Moves meaning old (Spool ticket) Spooled new = ChangesSession old ticket new (Spools spooling.Spooled)
Moves meaning old (Spool ticket) SpoolFull new = ChangesSession old ticket new (Spools spooling.SpoolFull)
Moves meaning old (Spool ticket) Nothing new = ChangesSession old ticket new (Spools spooling.Nothing)
Moves meaning old (Spool ticket) NoSpool new = ChangesSession old ticket new (Spools spooling.NoSpool)
Moves meaning old (Spool ticket) (Refused why) new = RefusedWith old ticket why new (λ s t. SpoolRefused s why t)
Moves meaning old (Despool ticket) Sent new = DespoolsSession despooled.Sent old ticket new
Moves meaning old (Despool ticket) LaneFull new = DespoolsSession despooled.LaneFull old ticket new
Moves meaning old (Despool ticket) Nothing new = DespoolsSession despooled.Nothing old ticket new
Moves meaning old (Despool ticket) NotDue new = DespoolsSession despooled.NotDue old ticket new
Moves meaning old (Despool ticket) (Refused why) new = RefusedWith old ticket why new (λ s t. DespoolRefused s why t)
Moves meaning old (Take drive) reply new = MovesDrive meaning old drive (Take drive) reply new
Moves meaning old (Place drive) reply new = MovesDrive meaning old drive (Place drive) reply new
Moves meaning old (Sync drive) reply new = MovesDrive meaning old drive (Sync drive) reply new
Moves meaning old (Label drive name pool media moment) reply new = MovesDrive meaning old drive (Label drive name pool media moment) reply new
Moves meaning old (Adopt drive name) reply new = MovesDrive meaning old drive (Adopt drive name) reply new
Moves meaning old (Mount drive name) reply new = MovesDrive meaning old drive (Mount drive name) reply new
Moves meaning old (Unmount drive) reply new = MovesDrive meaning old drive (Unmount drive) reply new
Moves meaning old (Seek drive) reply new = MovesDrive meaning old drive (Seek drive) reply new
Moves meaning old (Retire drive) Retired new = RetiresDrive old drive new
Moves meaning old (Retire drive) (Refused why) new = RetireRefused old drive why new
Moves meaning old (Purge drive name) Purged new = PurgesVolume meaning ⊥ volume.Append old drive name new
Moves meaning old (Purge drive name) (Refused why) new = PurgeRefused meaning old drive name why new
Moves meaning old (Media ticket) (Spans spans) new = ((e : WorldSession) × HasTicket old ticket e × SpansAt old e spans) × (new ≡ old)
Moves meaning old (Media ticket) (Refused why) new = TicketRefused old ticket why (MediaCauses old why) × (new ≡ old)
Moves meaning old event reply new = ⊥
