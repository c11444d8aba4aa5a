use Rattle.std.proofs.Common.{List, Vec, inl, inr, subst}
use Rattle.std.specs.Prelude.{All}
use Rattle.std.specs.Global.{Global}
use Rattle.sd_driver.specs.Meaning.{IsHonest}
use Rattle.sd_lane.specs.Queue.{PlainView}
use Rattle.sd_spool.specs.Meaning.{IsHonest as IsHonestStore}
use Rattle.sd_world.specs.Deeds.{answered, events_in}
use Rattle.sd_machine.specs.Machine.{empty_machine}
use Rattle.sd_machine.specs.Step.{Run}
use Rattle.sd_machine.specs.declared.event.Event.{Event}
use Rattle.sd_machine.specs.declared.reply.Reply.{Reply}
use Rattle.sd_theorem.specs.Start.{IsMadeOf, Start, StartsHonest}
use Rattle.sd_theorem.specs.Lists.{over}
use Rattle.sd_theorem.proofs.DeviceLemmas.{at_all}
use Rattle.sd_theorem.proofs.given.run_and_read_over.Goals as goal

pub returns : goal.returns
returns g c =
    let M = g.D.Driver.meaning in
    let N = g.S.SpoolStore.meaning in
    let start : Start _ PlainView _ Global = record {
      conf = c.args.conf;
      time = c.args.time;
      devices = c.args.devices.items;
      queues = c.args.queues.items;
      spools = c.args.stores.items;
    } in
    let made : IsMadeOf (over M N) start c.in-Ok.world = record { fresh = c.in-Ok.ensures.fresh; sound = c.in-Ok.ensures.sound } in
    let honest : StartsHonest (over M N) start = record { devices = λ at device there. at_all (λ d. IsHonest (M d)) c.args.devices.items at device c.requires.honest there; stores = λ at place stores store there here. at_all (λ s. IsHonestStore (N s)) stores.items place store (at_all (λ (ls : Vec _ _). All (λ s. IsHonestStore (N s)) ls.items) c.args.stores.items at stores c.requires.honest_stores there) here } in
    let events = c.args.events.items in
    let replies = c.in-Ok-run.replies.items in
    let lead = c.steps_lead.ensures M c.in-Ok.world c.run.new.self events replies c.in-Ok-run.ensures.steps in
    let h = c.headline.ensures (over M N) start c.in-Ok.world c.run.new.self (answered events replies) made lead.0 in
    let E : List Event → Type 0 = λ es. Run (empty_machine c.args.time) es replies h.m in
    let R : List Reply → Type 0 = λ rs. Run (empty_machine c.args.time) (events_in (answered events replies)) rs h.m in
    record {
      lists = (
        h.m,
        subst E lead.1 (subst R lead.2 h.run),
        λ told.
            let r = h.closed honest c.args.key c.args.spans.now told c.read-end.new.self _ _ c.read-end.result c.read-end.ensures in
            record {
              s = r.s;
              there = r.has;
              key_is = r.key_is;
              gives = elim r.reads [
                | inl x ↦ inl (x.0, x.1.gives)
                | inr (inl x) ↦ inr (inl x.1)
                | inr (inr x) ↦ inr (inr (x.0, x.1.0))
              ];
            },
      );
    }
