-- What drives adopt at a start, one volume after another; and that they stay the drives of their configuration.
use Rattle.std.proofs.Common.{◌≡◌, inl, inr, ℕ, zero, suc, ◌<◌, sym, ap, subst, ◌∙◌, arith, List, [], ◌∷◌, ◌++◌, All, Contains, length, slice_index_or}
use Rattle.std.specs.List.{AllZip}
use Rattle.std.proofs.lemmas.List.{append_assoc, append-nil}
use Rattle.std.proofs.lemmas.List.Elements.{All-append, Contains-append_left, Contains-push}
use Rattle.sd_conf.specs.declared.conf.Conf.{Conf}
use Rattle.sd_conf.specs.declared.conf.DriveConf.{DriveConf}
use Rattle.sd_filedrive.specs.declared.drive.FolderDrive.{FolderDrive}
use Rattle.sd_folder.specs.declared.folder.Folder.{Ghosts}
use Rattle.sd_lines.specs.Unused.{UnusedIs}
use Rattle.sd_volume.specs.Volume.{VolumeView}
use Rattle.sd_daemon.specs.Adopting.{AdoptsOne, AdoptsPlanned, IsPlannedFor, KeepsSetup}
use Rattle.sd_daemon.specs.Setup.{IsUnknown, IsUnusedOf}
use Rattle.sd_daemon.specs.declared.planning.Planned.{Planned}

none : {X : Type 0} (P : X → Type 0) → All P []
none P k d lt = absurd (omega arith)

single : {X : Type 0} (P : X → Type 0) (x : X) → P x → All P (x ∷ [])
single P x p zero d lt = p
single P x p (suc k) d lt = absurd (omega arith)

-- what is so of two is so of what they are
pub moved : {X : Type 0} (R : X → X → Type 0) (a a' b b' : X) → a ≡ a' → b ≡ b' → R a b → R a' b'
moved R a a' b b' e f r = subst (λ x. R x b') e (subst (R a) f r)

-- none came
pub adopts_none : {D : Type 0} (at : ℕ) (planned : List Planned) (u v : UnusedIs D) → v.volumes ≡ u.volumes → AdoptsPlanned at planned u v
adopts_none at planned u v same = ([], same ∙ sym (append-nil u.volumes), none (IsPlannedFor at planned))

planned_more : (at : ℕ) (planned front : List Planned) (last : Planned) (w : VolumeView) → planned ≡ front ++ last ∷ [] → IsPlannedFor at front w → IsPlannedFor at planned w
planned_more at planned front last w are is =
    (is.0, subst (λ l. Contains l is.0) (sym are) (Contains-append_left front (last ∷ []) is.0 is.1), is.2, is.3, is.4)

-- what came of the first ones that are planned is planned
pub adopts_first : {D : Type 0} (at : ℕ) (planned front : List Planned) (last : Planned) (u v : UnusedIs D) → planned ≡ front ++ last ∷ [] → AdoptsPlanned at front u v
    → AdoptsPlanned at planned u v
adopts_first at planned front last u v are a =
    (a.0, a.1, λ k d lt. planned_more at planned front last (slice_index_or a.0 k d) are (a.2 k d lt))

-- and so is the last one
pub adopts_last : {D : Type 0} (at : ℕ) (planned front : List Planned) (last : Planned) (u m v : UnusedIs D) → planned ≡ front ++ last ∷ [] → last.drive ≡ at
    → AdoptsPlanned at front u m → AdoptsOne last m v → AdoptsPlanned at planned u v
adopts_last at planned front last u m v are here a (inl same) =
    let first = adopts_first at planned front last u m are a in (first.0, same ∙ first.1, first.2)
adopts_last at planned front last u m v are here a (inr (is, inl same)) =
    let first = adopts_first at planned front last u m are a in (first.0, same ∙ first.1, first.2)
adopts_last at planned front last u m v are here a (inr (is, inr (w, name, added))) =
    let first = adopts_first at planned front last u m are a in
    let its : IsPlannedFor at planned w = (last, subst (λ l. Contains l last) (sym are) (Contains-push front last), here, is, name) in (
      first.0 ++ w ∷ [],
      added ∙ ap (λ l. l ++ w ∷ []) first.1 ∙ append_assoc u.volumes first.0 (w ∷ []),
      All-append (IsPlannedFor at planned) first.0 (w ∷ []) first.2 (single (IsPlannedFor at planned) w its),
    )

kept : {F H : Type 0} {g : Ghosts F H} (conf : Conf) (time : ℕ) (d : DriveConf) (u v : UnusedIs (FolderDrive F H g)) → IsUnusedOf conf time d u → KeepsSetup u v → IsUnusedOf conf time d v
kept conf time d u v is keeps = record {
  media_is = keeps.media_is ∙ is.media_is;
  lanes_are = keeps.lanes_are ∙ is.lanes_are;
  room_is = keeps.room_is ∙ is.room_is;
  limits_are = keeps.limits_are ∙ is.limits_are;
  unknown = keeps.honest_is ∙ is.unknown;
}

-- drives that keep their setup are those of their configuration
pub all_kept : {F H : Type 0} {g : Ghosts F H} (conf : Conf) (time : ℕ) (ds : List DriveConf) (us vs : List (UnusedIs (FolderDrive F H g))) → length vs ≡ length us
    → ((at : ℕ) (u : UnusedIs (FolderDrive F H g)) → at < length us → KeepsSetup (slice_index_or us at u) (slice_index_or vs at u))
    → AllZip (IsUnusedOf conf time) ds us → AllZip (IsUnusedOf conf time) ds vs
all_kept conf time [] [] [] long keeps zip = tt
all_kept conf time [] [] (v ∷ vs) long keeps zip = absurd (cc long)
all_kept conf time [] (u ∷ us) vs long keeps zip = absurd zip
all_kept conf time (d ∷ ds) [] vs long keeps zip = absurd zip
all_kept conf time (d ∷ ds) (u ∷ us) [] long keeps zip = absurd (cc long)
all_kept conf time (d ∷ ds) (u ∷ us) (v ∷ vs) long keeps zip = (
  kept conf time d u v zip.0 (keeps 0 u (omega arith)),
  all_kept conf time ds us vs (omega (arith, long)) (λ at w lt. keeps (suc at) w (omega (arith, lt))) zip.1,
)

-- nothing is known of what is in their folders
pub all_unknown : {F H : Type 0} {g : Ghosts F H} (conf : Conf) (time : ℕ) (ds : List DriveConf) (us : List (UnusedIs (FolderDrive F H g))) → AllZip (IsUnusedOf conf time) ds us
    → All IsUnknown us
all_unknown conf time [] [] zip k u lt = absurd (omega arith)
all_unknown conf time [] (v ∷ us) zip k u lt = absurd zip
all_unknown conf time (d ∷ ds) [] zip k u lt = absurd zip
all_unknown conf time (d ∷ ds) (v ∷ us) zip zero u lt = zip.0.unknown
all_unknown conf time (d ∷ ds) (v ∷ us) zip (suc k) u lt = all_unknown conf time ds us zip.1 k u (omega (arith, lt))
