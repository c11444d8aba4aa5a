use Rattle.std.proofs.Common.{◌≡◌, ◌≢◌, ◌∙◌, ◌<◌, ◌++◌, ◌∷◌, [], Bool, true, ap, ap₂, sym, arith, rules, length, subst, refl, Some}
use Rattle.std.specs.Prelude.{AllPairs}
use Rattle.std.specs.List.{list_any}
use Rattle.std.proofs.lemmas.Fn.{filter_same}
use Rattle.std.proofs.lemmas.List.Sums.{fold_push}
use Rattle.sd_base.specs.Key.{is_key}
use Rattle.sd_journal.specs.declared.noted.Noted.{Noted}
use Rattle.sd_journal.specs.Journal.{noted, without_key}
use Rattle.sd_journal.specs.Kept.{after, replay}
use Rattle.sd_journal.specs.Names.{name_at, with_name, IsPlaceOf}
use Rattle.sd_journal.specs.Noted.{placement_of}
use Rattle.sd_journal.specs.Share.{share_of, lies}
use Rattle.sd_journal.proofs.NameLemmas.{found_is}
use Rattle.sd_journal.proofs.ShareLemmas.{some_with_room, share_fits, share_on, placed_le, shares_named, shares_noted, room_noted}
use Rattle.sd_journal.proofs.NotedLemmas.{placed_more, named_more, without_one, without_other, view_with}
use Rattle.sd_journal.proofs.LyingLemmas.{awaits_noted, lying_noted, lie_noted}
use Rattle.sd_journal.proofs.journal.Journal.note.Goals as goal

pub note-was-requires-clause-fits : goal.note-was-requires-clause-fits
note-was-requires-clause-fits c = λ x is.
    let es = replay c.self.inside.told.items in
    let names = c.self.inside.names.names in
    let ns = c.self.inside.cells.noted in
    let key = c.args.placement.key in
    let most = placed_le names ns es key x c.self.invariant.placed (share_fits names ns es key c.self.inside.shares x c.self.invariant.shares is) in
    let few = c.last_volume.ensures in
    omega (arith, most, few)

pub invariant_of-self : goal.invariant_of-self
invariant_of-self c =
    let placement = c.args.placement in
    let key = placement.key in
    let before = c.self.inside in
    let es = replay before.told.items in
    let names = before.names.names in
    let ns = before.cells.noted in
    let volume = c.index_of-volume.result in
    let names' = with_name placement.volume names in
    let grown = c.index_of-volume.ensures.names in
    let n : Noted = record { key = key; start = placement.start; length = placement.length; volume = volume; first = placement.first; last = placement.last } in
    let within : volume < length names' = subst (λ l. volume < length l) grown c.index_of-volume.ensures.within in
    let at : name_at names' volume ≡ placement.volume = sym (ap (λ l. name_at l volume) grown) ∙ c.index_of-volume.ensures.named in
    let different : AllPairs (λ a b. a ≢ b) names' = subst (AllPairs (λ a b. a ≢ b)) grown c.index_of-volume.ensures.different in
    let is : placement_of names' n ≡ placement = ap (λ v. record placement { volume = v }) at in
    let blocks = ap (λ v. v.noted) c.push.ensures in
    let entries : replay c.and-self-inside.result.items ≡ es ++ noted placement ∷ [] = ap replay c.and-self-inside.ensures ∙ fold_push after [] before.told.items _ in
    let kept : c.retain.new.self.items ≡ without_key key before.ready.items = filter_same _ _ _ (λ x b f' k. search rules) _ _ c.retain.ensures.filtered in
    let was : list_any (is_key key) before.ready.items ≡ true = ap (λ v. list_any (is_key key) v.ready) c.self.view_is ∙ c.requires.ready in
    let less = without_one key before.ready.items was in
    let same = ap length kept in
    let cells_room = c.self.invariant.room in
    let left = ap (λ v. v.room) c.push.ensures in
    let names_room = c.self.invariant.names_room in
    let names_left = c.index_of-volume.ensures.room in
    let awaiting_room = c.self.invariant.awaiting_room in
    let awaiting_count = c.add_unless.ensures.count in
    let awaiting_capacity = c.add_unless.ensures.capacity in
    let on_room = c.self.invariant.on_room in
    let on_count = c.add_if.ensures.count in
    let on_capacity = c.add_if.ensures.capacity in
    let shares = shares_named placement.volume names ns es before.shares c.self.invariant.shares in
    let own = some_with_room (share_of before.shares key) (c.self.invariant.rooms key was) in
    let place : IsPlaceOf names' placement.volume (Some volume) = found_is names' placement.volume volume different (within, at) in
    let there : Bool = lies key volume before.awaiting.items in
    record {
      named = rw (blocks, grown) (named_more placement.volume names ns n c.self.invariant.named within);
      placed = rw (blocks, grown, entries) (placed_more placement.volume names ns es n placement c.self.invariant.named c.self.invariant.placed is);
      room = omega (arith, less, same, cells_room, left);
      names_room = omega (arith, less, same, names_room, names_left);
      rooms = λ q among.
          let parts = without_other key q before.ready.items (sym (ap (list_any (is_key q)) kept) ∙ among) in
          room_noted n before.shares c.note-was.new.self c.note-was.ensures.share q parts.0 (c.self.invariant.rooms q parts.1);
      awaiting_room = omega (arith, less, same, awaiting_room, awaiting_count, awaiting_capacity);
      on_room = omega (arith, less, same, on_room, on_count, on_capacity);
      shares = rw (blocks, grown, entries ∙ ap (λ p. es ++ noted p ∷ []) (sym is))
          (shares_noted names' different ns es n within before.shares c.note-was.new.self c.note-was.ensures.share (c.self.invariant.rooms key was) shares);
      awaiting_named = rw (c.add_unless.ensures.items, grown) (lying_noted names placement.volume before.awaiting.items _ there within c.self.invariant.awaiting_named);
      awaits = rw (c.add_unless.ensures.items, grown, entries)
          (awaits_noted names ns es before.awaiting.items placement volume there different within at c.self.invariant.named c.self.invariant.placed c.self.invariant.awaiting_named c.self.invariant.awaits refl);
      lie = rw (c.add_if.ensures.items, grown, entries)
          (lie_noted names ns es before.on.items placement volume c.note-was.result.1 different within at c.self.invariant.named c.self.invariant.placed c.self.invariant.lie
          (λ ends. sym (share_on names' placement.volume volume place ns es key own.0 (share_fits names' ns es key before.shares own.0 shares own.1)) ∙ c.note-was.ensures.on own.0 own.1 ends));
    }

pub returns : goal.returns
returns c =
    let placement = c.args.placement in
    let key = placement.key in
    let before = c.self.inside in
    let kept : c.retain.new.self.items ≡ without_key key before.ready.items = filter_same _ _ _ (λ x b f' k. search rules) _ _ c.retain.ensures.filtered in
    ap₂ view_with
    (ap replay c.and-self-inside.ensures ∙ fold_push after [] before.told.items _ ∙ ap (λ v. v.entries ++ noted placement ∷ []) c.self.view_is)
    (kept ∙ ap (λ v. without_key key v.ready) c.self.view_is)
