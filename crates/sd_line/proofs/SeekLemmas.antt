-- A drive that seeks a volume.
use Rattle.std.proofs.Common.{◌≡◌, ℕ, None, List, sym, subst, inl, inr}
use Rattle.sd_drive.specs.Moves.{mount_due}
use Rattle.sd_driver.specs.Meaning.{Meaning}
use Rattle.sd_machine.specs.declared.event.Event.TheVariants.{Mount, Seek}
use Rattle.sd_machine.specs.declared.reply.Reply.{Reply}
use Rattle.sd_machine.specs.declared.reply.Reply.TheVariants.{Refused, Mounted}
use Rattle.sd_world.specs.DriveMoves.{DriveMoves}
use Rattle.sd_world.specs.Operators.{NextIs, MountsAt}
use Rattle.sd_world.specs.Stations.{Station, Outcome}

-- a seek that mounts the next volume, for which no refusal is due, answers as that mount
pub seeks_by : {D : Type 0} (meaning : D → Meaning) (own : ℕ) (name : List ℕ) (reply : Reply) (s : Station D) (o : Outcome D)
    → mount_due s.drive name ≡ None → NextIs name s.drive → DriveMoves meaning own (Mount own name) reply s o → DriveMoves meaning own (Seek own) reply s o
seeks_by meaning own name (Mounted mounted) s o due next m =
    subst (λ n. NextIs n s.drive × MountsAt meaning own n s o) (sym m.0) (next, m.1)
seeks_by meaning own name (Refused why) s o due next (inl r) = absurd (let is = r.0 in cc (due, is))
seeks_by meaning own name (Refused why) s o due next (inr fails) = inr (name, next, fails)
seeks_by meaning own name reply s o due next m = absurd m
