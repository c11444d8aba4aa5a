use Rattle.std.proofs.Common.{◌∙◌, inl, inr, arith}
use Rattle.std.proofs.lemmas.Result.{err_from_is_err_and}
use Rattle.sd_base.specs.declared.refusal.Refusal.TheVariants.{Memory}
use Rattle.sd_world.specs.Sessions.{CloseCauses}
use Rattle.sd_events.proofs.Found.{found_within, read_found}
use Rattle.sd_events.specs.View.{world_of}
use Rattle.sd_events.proofs.Changes.{refuses_one, refuses_read}
use Rattle.sd_events.proofs.Seats.{sits_within, seated, online_at}
use Rattle.sd_events.proofs.Closes.{asked, close_causes, close_memory, closes_at, is_some_copied}
use Rattle.sd_events.proofs.closing.close.Goals as goal

pub index_mut-entry-requires : goal.index_mut-entry-requires
index_mut-entry-requires g c = omega (arith, found_within _ _ _ c.in_ok-at.ensures.ok, c.deref.ensures.len)

pub returns-in_err-running : goal.returns-in_err-running
returns-in_err-running g c =
    let w = world_of c.args.parts.now in
    let f = read_found c.args.ticket _ _ _ _ _ c.in_ok-at.ensures.ok c.deref.ensures.value c.index_mut-entry.ensures.value c.entry.view_is in
    let not = c.in_err-running.ensures.why in
    record {
      moves = (let p = err_from_is_err_and c.from_residual-in_err-running.result c.from_residual-in_err-running.ensures.1 in rw (p.1, p.2)
          (refuses_read w c.args.ticket _ _ _ c.in_err-running.field-0.0 (CloseCauses w c.in_err-running.field-0.0) f c.entry.view_is (inl ((λ ended. not.0 (inr ended)), not.1))));
    }

pub index-bay-requires : goal.index-bay-requires
index-bay-requires g c =
    let within = sits_within (world_of c.args.parts.now) c.args.ticket _ _ _ _ _ c.requires.world c.in_ok-at.ensures.ok c.deref.ensures.value c.index_mut-entry.ensures.value c.entry.view_is c.index_of-place.ensures in
    omega (arith, within, c.args.parts.now.bays.ok.0)

pub unwrap-drive-requires : goal.unwrap-drive-requires
unwrap-drive-requires g c =
    let s = seated (world_of c.args.parts.now) c.args.ticket _ _ _ _ _ _ _ c.requires.world c.in_ok-at.ensures.ok c.deref.ensures.value c.index_mut-entry.ensures.value c.entry.view_is c.index_of-place.ensures c.index-bay.ensures c.bay.view_is in
    let on = online_at s c.in_ok-running.ensures.ok in
    is_some_copied c.as_ref.result on.0 (c.as_ref.ensures.value ∙ on.1.online)

pub returns-in_err-may_close : goal.returns-in_err-may_close
returns-in_err-may_close g c =
    let w = world_of c.args.parts.now in
    let s = seated (world_of c.args.parts.now) c.args.ticket _ _ _ _ _ _ _ c.requires.world c.in_ok-at.ensures.ok c.deref.ensures.value c.index_mut-entry.ensures.value c.entry.view_is c.index_of-place.ensures c.index-bay.ensures c.bay.view_is in
    let a = asked c.as_ref.result c.unwrap-drive.result c.key-key.result c.progress-progress.result s c.as_ref.ensures.value c.unwrap-drive.ensures c.progress-progress.ensures c.key-key.ensures in
    let why = c.in_err-may_close.field-0.0 in
    record {
      moves = (let p = err_from_is_err_and c.from_residual-in_err-may_close.result c.from_residual-in_err-may_close.ensures.1 in rw (p.1, p.2)
          (refuses_read w c.args.ticket _ _ _ why (CloseCauses w why) s.read c.entry.view_is (close_causes why a c.in_err-may_close.ensures.why)));
    }

pub returns-in_default : goal.returns-in_default
returns-in_default g c =
    let w = world_of c.args.parts.now in
    let s = seated (world_of c.args.parts.now) c.args.ticket _ _ _ _ _ _ _ c.requires.world c.in_ok-at.ensures.ok c.deref.ensures.value c.index_mut-entry.ensures.value c.entry.view_is c.index_of-place.ensures c.index-bay.ensures c.bay.view_is in
    let a = asked c.as_ref.result c.unwrap-drive.result c.key-key.result c.progress-progress.result s c.as_ref.ensures.value c.unwrap-drive.ensures c.progress-progress.ensures c.key-key.ensures in
    record { moves = refuses_read w c.args.ticket _ _ _ Memory (CloseCauses w Memory) s.read c.entry.view_is (close_memory a c.in_ok-may_close.ensures.ok) }

pub returns : goal.returns
returns g c =
    let s = seated (world_of c.args.parts.now) c.args.ticket _ _ _ _ _ _ _ c.requires.world c.in_ok-at.ensures.ok c.deref.ensures.value c.index_mut-entry.ensures.value c.entry.view_is c.index_of-place.ensures c.index-bay.ensures c.bay.view_is in
    let a = asked c.as_ref.result c.unwrap-drive.result c.key-key.result c.progress-progress.result s c.as_ref.ensures.value c.unwrap-drive.ensures c.progress-progress.ensures c.key-key.ensures in
    record { moves = closes_at c.close.new.self c.key-key.result c.in-Ok.spans a s.read c.in_ok-close.ensures.ok c.key-key.ensures c.in-Ok.ensures }

pub returns-in_err-close : goal.returns-in_err-close
returns-in_err-close g c =
    let w = world_of c.args.parts.now in
    let s = seated (world_of c.args.parts.now) c.args.ticket _ _ _ _ _ _ _ c.requires.world c.in_ok-at.ensures.ok c.deref.ensures.value c.index_mut-entry.ensures.value c.entry.view_is c.index_of-place.ensures c.index-bay.ensures c.bay.view_is in
    let a = asked c.as_ref.result c.unwrap-drive.result c.key-key.result c.progress-progress.result s c.as_ref.ensures.value c.unwrap-drive.ensures c.progress-progress.ensures c.key-key.ensures in
    let why = c.in_err-close.field-0.0 in
    record {
      moves = (let p = err_from_is_err_and c.from_residual-in_err-close.result c.from_residual-in_err-close.ensures.1 in rw (p.1, p.2)
          (refuses_one w c.args.ticket _ _ c.close.new.self why (CloseCauses w why) s.read (close_causes why a c.in_err-close.ensures.why) c.in_err-close.ensures.err));
    }
