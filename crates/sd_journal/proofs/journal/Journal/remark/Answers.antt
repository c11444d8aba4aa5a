use Rattle.std.proofs.Common.{◌≡◌, ◌∙◌, [], cond, ap, ap₂, sym, arith, subst, refl, rules}
use Rattle.std.proofs.lemmas.Fn.{filter_same}
use Rattle.std.proofs.lemmas.List.Sums.{fold_push}
use Rattle.sd_base.specs.declared.number.SessionKey.{SessionKey}
use Rattle.sd_journal.specs.Journal.{placements, is_purged}
use Rattle.sd_journal.specs.Kept.{after, replay, marked}
use Rattle.sd_journal.specs.Names.{name_at}
use Rattle.sd_journal.specs.Share.{share_of, lies, with_marks}
use Rattle.sd_journal.proofs.NameLemmas.{no_place_is}
use Rattle.sd_journal.proofs.NotedLemmas.{view_with}
use Rattle.sd_journal.proofs.EntryLemmas.{marked_placements}
use Rattle.sd_journal.proofs.ShareLemmas.{shares_marked, room_marked, all_marked}
use Rattle.sd_journal.proofs.LyingLemmas.{entries_off, marked_off, without_place, awaits_marked, lying_without, has_marked}
use Rattle.sd_journal.proofs.journal.Journal.remark.Goals as goal

pub returns-in_default : goal.returns-in_default
returns-in_default c =
    let es = replay c.self.inside.told.items in
    let names = c.self.inside.names.names in
    let volume = c.args.volume.now in
    let off = entries_off names volume c.self.inside.cells.noted es (λ place below. no_place_is names volume place c.in_default.ensures below) c.self.invariant.named c.self.invariant.placed in
    let same = subst (λ l. marked c.args.mark volume l ≡ l) (ap (λ v. v.entries) c.self.view_is) (marked_off c.args.mark volume es off) in
    ap (λ l. view_with l c.args.self.now.ready) (sym same)

pub invariant_of-self : goal.invariant_of-self
invariant_of-self c =
    let mark = c.args.mark in
    let volume = c.args.volume.now in
    let place = c.in-Some.place in
    let before = c.self.inside in
    let names = before.names.names in
    let ns = before.cells.noted in
    let es = replay before.told.items in
    let at = c.in-Some.ensures in
    let entries : replay c.and-self-inside.result.items ≡ marked mark volume es =
    ap replay c.and-self-inside.ensures ∙ fold_push after [] before.told.items _ ∙ ap (λ v. marked mark v es) c.copy.ensures in
    let kept : c.retain.new.self.items ≡ without_place place before.awaiting.items = filter_same _ _ _ (λ x b f' k. search rules) _ _ c.retain.ensures.filtered in
    let len = c.retain.ensures.bound in
    let capacity = c.retain.ensures.capacity in
    let awaiting_room = c.self.invariant.awaiting_room in
    let all : (q : SessionKey) → share_of c.mark_those.new.shares q ≡ with_marks mark place (share_of before.shares q) =
    all_marked mark names volume place at ns es before.on.items before.awaiting.items before.shares c.mark_those.new.shares c.self.invariant.shares
    (λ q. c.self.invariant.awaits q place (at.there place refl).0) (λ q. c.self.invariant.lie q place (at.there place refl).0)
    (λ q. c.mark_those.ensures q ∙ ap₂ (λ a b. cond (lies q place (cond (is_purged mark) a b)) (with_marks mark place (share_of before.shares q)) (share_of before.shares q)) c.deref.ensures.value c.deref-2.ensures.value) in
    record {
      named = c.self.invariant.named;
      placed = c.self.invariant.placed ∙ sym (ap placements entries ∙ marked_placements _ mark es);
      room = c.self.invariant.room;
      names_room = c.self.invariant.names_room;
      rooms = λ q among. room_marked mark place before.shares c.mark_those.new.shares all q (c.self.invariant.rooms q among);
      awaiting_room = omega (arith, len, capacity, awaiting_room);
      on_room = c.self.invariant.on_room;
      shares = rw entries (shares_marked mark c.requires names volume place at ns es before.shares c.mark_those.new.shares all c.self.invariant.shares);
      awaiting_named = rw kept (lying_without names place before.awaiting.items c.self.invariant.awaiting_named);
      awaits = rw (kept, entries) (awaits_marked mark c.requires names es before.awaiting.items volume place at c.self.invariant.awaits);
      lie = rw entries (λ q v below is. c.self.invariant.lie q v below (sym (has_marked mark q volume (name_at names v) es) ∙ is));
    }

pub returns : goal.returns
returns c =
    let mark = c.args.mark in
    ap₂ view_with
    (ap replay c.and-self-inside.ensures ∙ fold_push after [] c.self.inside.told.items _ ∙ ap₂ (λ v l. marked mark v l) c.copy.ensures (ap (λ v. v.entries) c.self.view_is))
    (ap (λ v. v.ready) c.self.view_is)
