use Rattle.std.proofs.Common.{◌≡◌, ◌++◌, ◌∷◌, [], false, ℕ, List, length, refl, sym, ap, subst, ◌∙◌}
use Rattle.std.proofs.lemmas.Option.{slice_get_read, slice_get_within}
use Rattle.sd_base.specs.Key.{is_key}
use Rattle.sd_scan.specs.Found.{Found}
use Rattle.sd_scan.specs.Session.{StandsFor}
use Rattle.sd_scan.specs.Sessions.{KeepsBy}
use Rattle.sd_scan.specs.declared.session.Session.{Session}
use Rattle.sd_scan.proofs.SessionLemmas.{on_ok}
use Rattle.sd_scan.proofs.TableLemmas.{TakesOn, keeps_first, keeps_own, same_item}
use Rattle.sd_scan.proofs.sessions.Sessions.take.Goals as goal

pub returns-in-Some : goal.returns-in-Some
returns-in-Some c =
    let items = c.args.self.now.found.items in
    let p = c.placement_of-placement.result in
    let old = c.index_mut.result.now in
    let some = c.in-Some.ensures.some in
    let there = slice_get_read items (length items) c.in-Some.at old refl (slice_get_within items c.in-Some.at some.0 some.1) c.index_mut.ensures.value in
    let same : old ≡ some.0 = same_item items c.in-Some.at c.in-Some.at old some.0 refl there some.1 in
    let own : old.key ≡ c.args.block.now.block.key = ap (λ (s : Session). s.key) same ∙ some.2 ∙ ap (λ (f : Found). f.block.key) c.block.view_is in
    on_ok c.take.result
    (λ stands found keeps. (
      keeps.0 ++ p ∷ [],
      keeps_own found keeps.0 c.args.block.now p items c.in-Some.at old c.take.new.self keeps.1 c.placement_of-placement.ensures there own c.take.ensures.key
          (subst (λ (body : List ℕ). TakesOn p body old c.take.new.self) (ap (λ (f : Found). f.block.body) c.block.view_is) stands),
    ))
    c.take.ensures.stands

pub returns-in-None : goal.returns-in-None
returns-in-None c =
    let items = c.args.self.now.found.items in
    let p = c.placement_of-placement.result in
    let block = c.args.block.now in
    let key = ap (λ (f : Found). f.block.key) c.block.view_is in
    let body = ap (λ (f : Found). f.block.body) c.block.view_is in
    on_ok c.begin.result
    (λ began found keeps. (
      keeps.0 ++ p ∷ [],
      subst (KeepsBy (found ++ block ∷ []) (keeps.0 ++ p ∷ [])) (sym began.3)
          (keeps_first found keeps.0 block p items began.0 keeps.1 c.placement_of-placement.ensures
          (λ at one e. subst (λ k. is_key k one.key ≡ false) key (c.in-None.ensures.none at one e))
          (began.1 ∙ c.placement_of-placement.ensures.key_is)
          (subst (λ (l : List ℕ). StandsFor l (p ∷ []) (l ∷ []) began.0) body began.2)),
    ))
    c.begin.ensures
