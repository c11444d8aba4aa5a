-- The lines that a world shows, one by one.
use Rattle.std.proofs.Common.{◌≡◌, ℕ, zero, suc, ◌+◌, ◌<◌, ◌≤◌, sym, ap, ◌∙◌, arith, List, [], ◌∷◌, ◌++◌, length, map, take, get_or}
use Rattle.std.proofs.lemmas.List.{take_more, map-append, append_assoc, append-nil, length-take}
use Rattle.sd_machine.specs.declared.view.DriveLine.{DriveLine}
use Rattle.sd_machine.specs.declared.view.VolumeLine.{VolumeLine}
use Rattle.sd_world.specs.Rules.{NumbersRise}
use Rattle.sd_world.specs.World.{WorldSession, BayView}
use Rattle.sd_world.proofs.Pairs.{least_below}
use Rattle.sd_core.specs.View.{drive_line, drive_lines, lines_of, volume_lines}

-- one line more, of one item more
pub mapped_more : {X Y : Type 0} (f : X → Y) (had so after : List Y) (xs : List X) (n : ℕ) (read : X) (y : Y) → so ≡ had ++ map f (take n xs)
    → read ≡ get_or xs n read → n < length xs → y ≡ f read → after ≡ so ++ y ∷ [] → after ≡ had ++ map f (take (n + 1) xs)
mapped_more f had so after xs n read y told is within one more =
    more ∙ ap (λ l. l ++ y ∷ []) told ∙ ap (λ z. (had ++ map f (take n xs)) ++ z ∷ []) (one ∙ ap f is)
    ∙ append_assoc had (map f (take n xs)) (f (get_or xs n read) ∷ [])
    ∙ ap (λ l. had ++ l) (sym (ap (map f) (take_more xs n read within) ∙ map-append f (take n xs) (get_or xs n read ∷ [])))

-- the line of a drive after those of others
lines_push : {D : Type 0} (es : List WorldSession) (from : ℕ) (bays : List (BayView D)) (bay : BayView D)
    → drive_lines es from (bays ++ bay ∷ []) ≡ drive_lines es from bays ++ drive_line es (from + length bays) bay ∷ []
lines_push es from [] bay = let same : from ≡ from + 0 = omega arith in ap (λ n. drive_line es n bay ∷ []) same
lines_push es from (b ∷ bs) bay =
    let same : (from + 1) + length bs ≡ from + suc (length bs) = omega arith in
    ap (λ l. drive_line es from b ∷ l) (lines_push es (from + 1) bs bay ∙ ap (λ n. drive_lines es (from + 1) bs ++ drive_line es n bay ∷ []) same)

pub drives_more : {D : Type 0} (es : List WorldSession) (bays : List (BayView D)) (n at : ℕ) (read : BayView D) (line : DriveLine) (so after : List DriveLine)
    → so ≡ drive_lines es 0 (take n bays) → read ≡ get_or bays n read → n < length bays → at ≡ n → line ≡ drive_line es at read → after ≡ so ++ line ∷ []
    → after ≡ drive_lines es 0 (take (n + 1) bays)
drives_more es bays n at read line so after told is within place one more =
    let first = take n bays in
    let long : at ≡ 0 + length first = let t = length-take n bays in omega (arith, t) in
    more ∙ ap (λ l. l ++ line ∷ []) told
    ∙ ap (λ z. drive_lines es 0 first ++ z ∷ []) (one ∙ ap (λ k. drive_line es k read) long ∙ ap (drive_line es (0 + length first)) is)
    ∙ sym (ap (drive_lines es 0) (take_more bays n read within) ∙ lines_push es 0 first (get_or bays n read))

-- the lines of a drive's volumes after those of others
volumes_push : {D : Type 0} (bays : List (BayView D)) (bay : BayView D) → volume_lines (bays ++ bay ∷ []) ≡ volume_lines bays ++ lines_of bay.drive
volumes_push [] bay = append-nil (lines_of bay.drive)
volumes_push (b ∷ bs) bay = ap (λ l. lines_of b.drive ++ l) (volumes_push bs bay) ∙ sym (append_assoc (lines_of b.drive) (volume_lines bs) (lines_of bay.drive))

pub volumes_more : {D : Type 0} (bays : List (BayView D)) (n : ℕ) (read : BayView D) (so after : List VolumeLine)
    → so ≡ volume_lines (take n bays) → read ≡ get_or bays n read → n < length bays → after ≡ so ++ lines_of read.drive → after ≡ volume_lines (take (n + 1) bays)
volumes_more bays n read so after told is within more =
    more ∙ ap (λ l. l ++ lines_of read.drive) told ∙ ap (λ b. volume_lines (take n bays) ++ lines_of b.drive) is
    ∙ sym (ap volume_lines (take_more bays n read within) ∙ volumes_push (take n bays) (get_or bays n read))

-- what the numbers of sessions say of the one at a place
pub numbered_at : (time least next : ℕ) (es : List WorldSession) (at : ℕ) (d : WorldSession) → NumbersRise time least next es → at < length es
    → (least ≤ (get_or es at d).session.key.id) × ((get_or es at d).session.key.id < next)
numbered_at time least next [] at d rise within = absurd (omega (arith, within))
numbered_at time least next (e ∷ es) zero d rise within =
    let up = least_below time (e.session.key.id + 1) next es rise.2 in (rise.1, omega (arith, up))
numbered_at time least next (e ∷ es) (suc at) d rise within =
    let low : least ≤ e.session.key.id = rise.1 in
    let more = numbered_at time (e.session.key.id + 1) next es at d rise.2 (omega (arith, within)) in
    let first = more.0 in
    (omega (arith, low, first), more.1)
