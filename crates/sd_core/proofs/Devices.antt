-- The devices of the drives that are online.
use Rattle.std.proofs.Common.{◌≡◌, ◌++◌, ◌∷◌, [], List, None, Some, ap, sym, ◌∙◌}
use Rattle.std.proofs.lemmas.List.{append-nil, append_assoc}
use Rattle.sd_drive.specs.View.{DriveIs}
use Rattle.sd_world.specs.World.{BayView}
use Rattle.sd_core.specs.View.{device_of, devices_of}

-- those of one bay more come after the others
pub devices_push : {D : Type 0} (bays : List (BayView D)) (bay : BayView D) → devices_of (bays ++ bay ∷ []) ≡ devices_of bays ++ device_of bay.drive
devices_push [] bay = append-nil (device_of bay.drive)
devices_push (b ∷ bs) bay = ap (λ l. device_of b.drive ++ l) (devices_push bs bay) ∙ sym (append_assoc (device_of b.drive) (devices_of bs) (device_of bay.drive))

-- if the last bay has a drive, or none
pub devices_some : {D : Type 0} (bays front : List (BayView D)) (bay read : BayView D) (d : DriveIs D) (had : List D) → bays ≡ front ++ read ∷ []
    → bay ≡ read → bay.drive ≡ Some d → (had ++ devices_of front) ++ d.device ∷ [] ≡ had ++ devices_of bays
devices_some bays front bay read d had is same drive =
    append_assoc had (devices_of front) (d.device ∷ [])
    ∙ ap (λ l. had ++ (devices_of front ++ l)) (sym (ap device_of (ap (λ (b : BayView _). b.drive) (sym same) ∙ drive)))
    ∙ ap (λ l. had ++ l) (sym (devices_push front read))
    ∙ ap (λ l. had ++ devices_of l) (sym is)

pub devices_none : {D : Type 0} (bays front : List (BayView D)) (bay read : BayView D) (had : List D) → bays ≡ front ++ read ∷ []
    → bay ≡ read → bay.drive ≡ None → had ++ devices_of front ≡ had ++ devices_of bays
devices_none bays front bay read had is same drive =
    ap (λ l. had ++ l) (sym (append-nil (devices_of front)))
    ∙ ap (λ l. had ++ (devices_of front ++ l)) (sym (ap device_of (ap (λ (b : BayView _). b.drive) (sym same) ∙ drive)))
    ∙ ap (λ l. had ++ l) (sym (devices_push front read))
    ∙ ap (λ l. had ++ devices_of l) (sym is)
