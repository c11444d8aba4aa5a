use Rattle.std.proofs.Common.{◌≡◌, ◌⊎◌, inl, inr, ℕ, List, Option, refl, ap, sym, ◌∙◌, rules, [], subst, Err}
use Rattle.sd_base.specs.declared.refusal.Refusal.{Refusal}
use Rattle.sd_base.specs.declared.refusal.Refusal.TheVariants as refusal
use Rattle.sd_volume.specs.declared.fault.AdoptFault.{AdoptFault}
use Rattle.sd_volume.specs.declared.fault.AdoptFault.TheVariants as adopt
use Rattle.std.specs.Prelude.{IfSome}
use Rattle.sd_driver.specs.Shelf.{Shelf}
use Rattle.sd_note.specs.declared.note.Note.{Note}
use Rattle.sd_volume.specs.Fault.{adopt_refusal}
use Rattle.sd_volume.specs.Noted.{IsTrueNote, IsTrusted}
use Rattle.sd_volume.proofs.DeviceLemmas.{OnlyReads-as}
use Rattle.sd_volume.proofs.DueLemmas.{KeepsWholeBlocks-same}
use Rattle.sd_volume.proofs.NotedLemmas.{IsTrusted-known}
use Rattle.sd_drive.proofs.LoadLemmas.{is_device}
use Rattle.sd_volume.proofs.DeviceLemmas.{err_is}
use Rattle.sd_drive.proofs.VolumeLists.{kept_more, kept_called, pieces_called, same_but, on_others, IsFresh}
use Rattle.sd_drive.proofs.drive.Drive.add_adopted.Goals as goal

-- a note that is true if the device is honest
trusted_when : {P : Type 0} (note : Option Note) (name : List ℕ) (start : ℕ) (shelf : Shelf) → (P → IfSome note (λ given. IsTrueNote given name shelf)) → P → IsTrusted note name start shelf
trusted_when note name start shelf known p = IsTrusted-known note name start shelf (known p)

pub invariant_of-self-in-Ok-adopt_by : goal.invariant_of-self-in-Ok-adopt_by
invariant_of-self-in-Ok-adopt_by g c =
    let e = c.in-Ok-adopt_by.ensures in
    let vs = c.self.inside.volumes.items in
    let js = c.self.inside.journal.entries in
    let name = c.args.name.now in
    let v = c.in-Ok-adopt_by.volume in
    let fresh = rw (← c.self.view_is) at c.requires.fresh in
    let none = rw (← c.self.view_is) at c.requires.loaded in
    let known = rw (← c.self.view_is) at c.requires.known in
    let trusted = trusted_when c.args.note c.args.name.now c.self.inside.limits.time (g.D.Driver.meaning c.self.inside.driver).shelf known in
    let own : IsFresh vs v.name = subst (IsFresh vs) (sym e.name) fresh in
    let old = (g.D.Driver.meaning c.self.inside.driver).shelf in
    let new = (g.D.Driver.meaning c.adopt_by.new.driver).shelf in
    record {
      kept = kept_more (g.D.Driver.meaning c.self.inside.driver) (g.D.Driver.meaning c.adopt_by.new.driver) vs _ c.self.inside.loaded js v
          c.self.invariant.kept none (let p = c.push_reserved.ensures.items in let r = c.reserve.ensures.items in search rules) own e.counted.honest e.unloaded e.counted.moment
          (λ o. on_others vs name 0 old new fresh e.others_last) (λ o. same_but vs name old new fresh (e.others o)) (λ o. (let a = (e.answers o (trusted o)).adopts in record { label = a.found.label; blocks = a.found.blocks; tail = []; stands = a.stands }));
      limit = c.self.invariant.limit;
    }

pub invariant_of-self-in-Err : goal.invariant_of-self-in-Err
invariant_of-self-in-Err g c =
    let e = c.in-Err.ensures in
    let vs = c.self.inside.volumes.items in
    let js = c.self.inside.journal.entries in
    let name = c.args.name.now in
    let fresh = rw (← c.self.view_is) at c.requires.fresh in
    let none = rw (← c.self.view_is) at c.requires.loaded in
    let old = (g.D.Driver.meaning c.self.inside.driver).shelf in
    let new = (g.D.Driver.meaning c.adopt_by.new.driver).shelf in
    record {
      kept = rw c.reserve.ensures.items (kept_called (g.D.Driver.meaning c.self.inside.driver) (g.D.Driver.meaning c.adopt_by.new.driver) vs c.self.inside.loaded js
          c.self.invariant.kept none e.counted.honest e.unloaded e.counted.moment (λ o. on_others vs name 0 old new fresh e.others_last) (λ o. same_but vs name old new fresh (e.others o)));
      limit = c.self.invariant.limit;
    }

pub returns-in-Ok-adopt_by-clause-keeps : goal.returns-in-Ok-adopt_by-clause-keeps
returns-in-Ok-adopt_by-clause-keeps g c =
    let e = c.in-Ok-adopt_by.ensures in
    let vs = c.self.inside.volumes.items in
    let fresh = rw (← c.self.view_is) at c.requires.fresh in
    rw (← c.self.view_is) (pieces_called (g.D.Driver.meaning c.self.inside.driver) (g.D.Driver.meaning c.adopt_by.new.driver) vs c.self.inside.loaded c.self.inside.journal.entries c.self.inside.hand
    c.self.invariant.kept e.counted.honest (λ o. same_but vs c.args.name.now (g.D.Driver.meaning c.self.inside.driver).shelf (g.D.Driver.meaning c.adopt_by.new.driver).shelf fresh (e.others o)))

pub returns-in-Err-clause-keeps : goal.returns-in-Err-clause-keeps
returns-in-Err-clause-keeps g c =
    let e = c.in-Err.ensures in
    let vs = c.self.inside.volumes.items in
    let fresh = rw (← c.self.view_is) at c.requires.fresh in
    rw (← c.self.view_is) (pieces_called (g.D.Driver.meaning c.self.inside.driver) (g.D.Driver.meaning c.adopt_by.new.driver) vs c.self.inside.loaded c.self.inside.journal.entries c.self.inside.hand
    c.self.invariant.kept e.counted.honest (λ o. same_but vs c.args.name.now (g.D.Driver.meaning c.self.inside.driver).shelf (g.D.Driver.meaning c.adopt_by.new.driver).shelf fresh (e.others o)))

pub returns-in_default-clause-whole_blocks : goal.returns-in_default-clause-whole_blocks
returns-in_default-clause-whole_blocks g c =
    let shelf = (g.D.Driver.meaning c.self.inside.driver).shelf in
    rw (← c.self.view_is) (λ honest. KeepsWholeBlocks-same c.args.name.now shelf shelf (λ name. refl) (λ since name bytes lasts. lasts))

pub returns-in-Ok-adopt_by-clause-whole_blocks : goal.returns-in-Ok-adopt_by-clause-whole_blocks
returns-in-Ok-adopt_by-clause-whole_blocks g c =
    let known = rw (← c.self.view_is) at c.requires.known in
    let trusted = trusted_when c.args.note c.args.name.now c.self.inside.limits.time (g.D.Driver.meaning c.self.inside.driver).shelf known in
    rw (← c.self.view_is) (λ honest. (c.in-Ok-adopt_by.ensures.answers honest (trusted honest)).keeps)

pub returns-in-Err-clause-whole_blocks : goal.returns-in-Err-clause-whole_blocks
returns-in-Err-clause-whole_blocks g c =
    let known = rw (← c.self.view_is) at c.requires.known in
    let trusted = trusted_when c.args.note c.args.name.now c.self.inside.limits.time (g.D.Driver.meaning c.self.inside.driver).shelf known in
    rw (← c.self.view_is) (λ honest. (c.in-Err.ensures.answers honest (trusted honest)).keeps)

pub returns-in-Err-clause-refused_last : goal.returns-in-Err-clause-refused_last
returns-in-Err-clause-refused_last g c =
    rw (← c.self.view_is) (λ other. c.in-Err.ensures.refused_last (λ device. other (c.refusal.ensures ∙ ap adopt_refusal device)))

pub returns-in-Ok-adopt_by-clause-others : goal.returns-in-Ok-adopt_by-clause-others
returns-in-Ok-adopt_by-clause-others g c = rw (← c.self.view_is) c.in-Ok-adopt_by.ensures.others

pub returns-in-Err-clause-others : goal.returns-in-Err-clause-others
returns-in-Err-clause-others g c = rw (← c.self.view_is) c.in-Err.ensures.others

pub returns-in-Ok-adopt_by-clause-only_reads : goal.returns-in-Ok-adopt_by-clause-only_reads
returns-in-Ok-adopt_by-clause-only_reads g c =
    let known = rw (← c.self.view_is) at c.requires.known in
    let trusted = trusted_when c.args.note c.args.name.now c.self.inside.limits.time (g.D.Driver.meaning c.self.inside.driver).shelf known in
    rw (← c.self.view_is) (λ honest cause due. OnlyReads-as _ _ (g.D.Driver.meaning c.self.inside.driver) (g.D.Driver.meaning c.adopt_by.new.driver) (λ f. cc) (λ f. cc) ((c.in-Ok-adopt_by.ensures.answers honest (trusted honest)).only_reads cause due))

pub returns-in-Err-clause-only_reads : goal.returns-in-Err-clause-only_reads
returns-in-Err-clause-only_reads g c =
    let known = rw (← c.self.view_is) at c.requires.known in
    let trusted = trusted_when c.args.note c.args.name.now c.self.inside.limits.time (g.D.Driver.meaning c.self.inside.driver).shelf known in
    rw (← c.self.view_is) (λ honest cause due. OnlyReads-as _ _ (g.D.Driver.meaning c.self.inside.driver) (g.D.Driver.meaning c.adopt_by.new.driver)
    (λ f. ap Err (c.refusal.ensures ∙ ap adopt_refusal (err_is f))) (λ f. ap Err (is_device c.in-Err.fault (sym c.refusal.ensures ∙ err_is f))) ((c.in-Err.ensures.answers honest (trusted honest)).only_reads cause due))

pub returns-in-Ok-adopt_by-clause-refuses : goal.returns-in-Ok-adopt_by-clause-refuses
returns-in-Ok-adopt_by-clause-refuses g c =
    let known = rw (← c.self.view_is) at c.requires.known in
    let trusted = trusted_when c.args.note c.args.name.now c.self.inside.limits.time (g.D.Driver.meaning c.self.inside.driver).shelf known in
    rw (← c.self.view_is) (λ honest cause due. absurd ((c.in-Ok-adopt_by.ensures.answers honest (trusted honest)).refuses cause due))

pub returns-in-Err-clause-due : goal.returns-in-Err-clause-due
returns-in-Err-clause-due g c =
    let known = rw (← c.self.view_is) at c.requires.known in
    let trusted = trusted_when c.args.note c.args.name.now c.self.inside.limits.time (g.D.Driver.meaning c.self.inside.driver).shelf known in
    rw (← c.self.view_is) (λ honest device memory. (
      c.in-Err.fault,
      c.refusal.ensures,
      (c.in-Err.ensures.answers honest (trusted honest)).due (λ f. device (c.refusal.ensures ∙ ap adopt_refusal f)) (λ f. memory (c.refusal.ensures ∙ ap adopt_refusal f)),
    ))

pub returns-in-Err-clause-refuses : goal.returns-in-Err-clause-refuses
returns-in-Err-clause-refuses g c =
    let known = rw (← c.self.view_is) at c.requires.known in
    let trusted = trusted_when c.args.note c.args.name.now c.self.inside.limits.time (g.D.Driver.meaning c.self.inside.driver).shelf known in
    rw (← c.self.view_is) (λ honest cause due. refused_as c.in-Err.fault cause c.refusal.result c.refusal.ensures ((c.in-Err.ensures.answers honest (trusted honest)).refuses cause due))
  where
    refused_as : (answer cause : AdoptFault) (fault : Refusal) → fault ≡ adopt_refusal answer → (answer ≡ cause) ⊎ (answer ≡ adopt.Device) ⊎ (answer ≡ adopt.Memory)
        → (fault ≡ adopt_refusal cause) ⊎ (fault ≡ refusal.DeviceFault) ⊎ (fault ≡ refusal.Memory)
    refused_as answer cause fault is (inl e) = inl (is ∙ ap adopt_refusal e)
    refused_as answer cause fault is (inr (inl e)) = inr (inl (is ∙ ap adopt_refusal e))
    refused_as answer cause fault is (inr (inr e)) = inr (inr (is ∙ ap adopt_refusal e))
