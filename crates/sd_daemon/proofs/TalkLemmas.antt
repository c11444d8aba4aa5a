-- That threads may share what holds the talks of a run, if they may share the run and its hub.
use Prim.Native.Nat.{ℕ}
use denote.Builtin.{One}
use denote.Param.Send.{AllSync, Common, IsSync, recorded_sync, shr_sync, struct_sync}
use denote.RattleType.{RattleType}
use denote.Ref.{NamedLft}
use denote.Struct.Declared.{shape}
use denote.Struct.Field.{shr_ref_field}
use Rattle.sd_line.specs.declared.naming.Naming as naming
use Rattle.sd_daemon.specs.contracts.metering.Metering as metering
use Rattle.sd_daemon.specs.contracts.talks.FileTalks as talks
use Rattle.sd_daemon.proofs.metering.Metering.TheSendSync as crossing

pub ref_sync : (ℓ : NamedLft) (R : RattleType) (one : One R.mir) → ((x : R.Denot) (b o : ℕ) → Common (R.shr_at x b o)) → IsSync (shr_ref_field ℓ R one).row
ref_sync ℓ R one s = shr_sync ℓ.mir ℓ.lft R (record { shared = s })

-- threads may share what the figures are written by
sync_of : (ℓ : NamedLft) → IsSync (metering.the_row ℓ)
sync_of ℓ = search (crossing.the_sync)

pub metering_sync : (ℓ : NamedLft) → IsSync (shr_ref_field ℓ (metering.the_row ℓ) tt).row
metering_sync ℓ = ref_sync ℓ (metering.the_row ℓ) tt (sync_of ℓ).shared

pub talks_sync : (ℓ : NamedLft) (N W L : RattleType) (n : naming.Ghosts N.Denot) → AllSync (shape (talks.the_type ℓ N W L n)).fields → IsSync (talks.the_row ℓ N W L n)
talks_sync ℓ N W L n all =
    recorded_sync (talks.the_field ℓ N W L n).row _ _ (talks.the_type ℓ N W L n).to_one (struct_sync (shape (talks.the_type ℓ N W L n)) all)
