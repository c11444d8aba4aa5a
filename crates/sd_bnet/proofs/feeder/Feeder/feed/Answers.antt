use Rattle.std.proofs.Common.{◌≡◌, ◌++◌, ap, sym, ◌∙◌, pos}
use Rattle.sd_base.specs.Field.{i32_bytes}
use Rattle.sd_bnet.specs.Due.{state_of}
use Rattle.sd_bnet.specs.Feeder.FeederState.{Failed}
use Rattle.sd_bnet.proofs.FeederLemmas.{failed_more, fits_more}
use Rattle.sd_bnet.proofs.feeder.Feeder.feed.Goals as goal

pub returns-in-TooLong-clause-packets : goal.returns-in-TooLong-clause-packets
returns-in-TooLong-clause-packets c =
    let failed : c.args.self.now ≡ Failed = sym c.self.view_is ∙ ap state_of c.in-TooLong.is in
    λ bytes packets h. rw (c.in-TooLong.is, c.nothing.ensures.packets) (failed_more bytes c.args.piece.now packets (rw failed at h))

pub returns-in_ok-taken-in-Length-clause-packets : goal.returns-in_ok-taken-in-Length-clause-packets
returns-in_ok-taken-in-Length-clause-packets c =
    let state : state_of c.self.inside.due ≡ c.args.self.now = c.self.view_is in
    let found = c.in_ok-taken-in-Length.ensures.packets in
    λ bytes packets h. rw (c.hand_out.ensures.due, c.hand_out.ensures.packets)
    (fits_more _ c.in-Length.begun bytes c.args.piece.now packets c.in_ok-taken-in-Length.taken.packets.items (rw (← state, c.in-Length.is) at h) found)

pub returns-in_ok-taken-in-Payload-clause-packets : goal.returns-in_ok-taken-in-Payload-clause-packets
returns-in_ok-taken-in-Payload-clause-packets c =
    let state : state_of c.self.inside.due ≡ c.args.self.now = c.self.view_is in
    let begun = i32_bytes (pos c.in-Payload.pending.size) ++ c.in-Payload.pending.bytes.items in
    let found = c.in_ok-taken-in-Payload.ensures.packets in
    λ bytes packets h. rw (c.hand_out-in-Payload.ensures.due, c.hand_out-in-Payload.ensures.packets)
    (fits_more _ begun bytes c.args.piece.now packets c.in_ok-taken-in-Payload.taken.packets.items (rw (← state, c.in-Payload.is) at h) found)
