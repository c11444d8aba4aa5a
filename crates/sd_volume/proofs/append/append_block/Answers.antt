use Rattle.std.proofs.Common.{◌≡◌, refl, ap, sym, subst, ◌∙◌, Err, Result, List, ℕ}
use Rattle.sd_base.specs.Limits.{most_block}
use Rattle.sd_block.specs.Image.{IsBlockImage}
use Rattle.sd_driver.specs.declared.driver.DriverFault.TheVariants.{NoRoom}
use Rattle.sd_volume.specs.declared.volume.VolumeStatus.TheVariants.{Full, Error}
use Rattle.sd_volume.specs.Volume.{VolumeView}
use Rattle.sd_volume.proofs.DeviceLemmas.{counted_call, Counted-as, device_fault}
use Rattle.sd_volume.proofs.VolumeLemmas.{block_added, blocks_kept}
use Rattle.sd_volume.proofs.append.append_block.Goals as goal

pub returns-in_default-clause-adds : goal.returns-in_default-clause-adds
returns-in_default-clause-adds g c = λ honest label blocks stands.
    let v = c.args.volume.now in
    let body = c.args.body.now.bytes in
    let number : c.volume.inside.next_number ≡ v.next_number = ap (λ (view : VolumeView). view.next_number) c.volume.view_is in
    let sealed : IsBlockImage most_block c.as_block.result.now c.args.key c.volume.inside.next_number body =
    subst (λ (i : List ℕ). IsBlockImage most_block i c.args.key c.volume.inside.next_number body) (sym c.as_block.ensures) c.seal.ensures.image in
    let image = subst (λ n. IsBlockImage most_block c.as_block.result.now c.args.key n body) number sealed in
    block_added v c.advance.new.self (g.D.Driver.meaning c.args.driver.now).shelf (g.D.Driver.meaning c.append.new.self).shelf (g.D.Driver.meaning c.args.driver.now).loaded label blocks
    (record { key = c.args.key; body = body }) c.as_block.result.now _ c.requires.loaded image refl (rw c.len.ensures at c.advance.ensures.volume) (c.in_default.ensures.ok honest) stands

pub returns-in-NoRoom-clause-keeps : goal.returns-in-NoRoom-clause-keeps
returns-in-NoRoom-clause-keeps g c = λ honest label blocks tail stands.
    blocks_kept _ Full (g.D.Driver.meaning c.args.driver.now).shelf (g.D.Driver.meaning c.append.new.self).shelf (g.D.Driver.meaning c.args.driver.now).loaded label blocks tail
    (rw (← c.volume.view_is) at c.requires.loaded) (λ e. cc) (c.in-Err.ensures.err honest) (rw (← c.volume.view_is) at stands)

pub returns-in_default-fault-clause-counted : goal.returns-in_default-fault-clause-counted
returns-in_default-fault-clause-counted g c =
    let device = device_fault c.in-Err.fault c.in-Err.ensures.faults.0 c.in-Err.ensures.faults.1 c.in_default-fault.not-NoRoom c.in_default-fault.not-Memory in
    let room : c.append.result ≡ Err NoRoom → ⊥ = λ e. c.in_default-fault.not-NoRoom (err_is (sym c.in-Err.is ∙ e)) in
    Counted-as _ _ _ _ (g.D.Driver.meaning c.args.driver.now) (g.D.Driver.meaning c.append.new.self) (λ f. refl) (λ f. c.in-Err.is ∙ ap Err device) (λ n. absurd (room n)) (λ n. cc) (counted_call c.append.result _ _ c.append.ensures.counts c.append.ensures.passes)
  where
    err_is : {T E : Type 0} {a b : E} → ◌≡◌ {A = Result T E} (Err a) (Err b) → a ≡ b
    err_is e = cc

pub returns-in_default-fault-clause-keeps : goal.returns-in_default-fault-clause-keeps
returns-in_default-fault-clause-keeps g c = λ honest label blocks tail stands.
    blocks_kept _ Error (g.D.Driver.meaning c.args.driver.now).shelf (g.D.Driver.meaning c.append.new.self).shelf (g.D.Driver.meaning c.args.driver.now).loaded label blocks tail
    (rw (← c.volume.view_is) at c.requires.loaded) (λ e. cc) (c.in-Err.ensures.err honest) (rw (← c.volume.view_is) at stands)
