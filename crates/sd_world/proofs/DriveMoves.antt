-- A world keeps its rules when a drive is called, and when a sync of it fails.
use Rattle.std.proofs.Common.{◌≡◌, ◌≢◌, ℕ, ◌+◌, ◌==◌, refl, sym, ap, ap₂, subst, ◌∙◌, inl, inr, true, false, true≢false, Bool, Option, Some, None, List}
use Rattle.std.specs.Prelude.{◌||◌, ◌&&◌}
use Rattle.std.proofs.lemmas.Bool.{eq-eqb}
use Rattle.std.specs.Option.{option_map}
use Rattle.sd_desk.specs.Desk.{DeskView, claim_of, claimed_by, purged_claim, tells_purged, is_purged_at, SameClaims}
use Rattle.sd_desk.specs.declared.claim.Claim.{Claim}
use Rattle.sd_drive.specs.View.{DriveIs}
use Rattle.sd_driver.proofs.Names.{name_cases}
use Rattle.sd_driver.specs.Meaning.{Meaning}
use Rattle.sd_journal.specs.Journal.{fails_with}
use Rattle.sd_world.specs.World.{WorldView, WorldSession, BayView, IsOnline, session_at}
use Rattle.sd_world.specs.Rules.{IsWorld}
use Rattle.sd_world.specs.Drives.{FailsWhere, is_running, loses_by}
use Rattle.sd_world.specs.Operators.{ClaimsName, NotesPurge}
use Rattle.sd_world.proofs.DriveSteps.{DriveGoesOn, DriveAdds, DriveLoses, fails_to_sync}
use Rattle.sd_world.proofs.Framed.{LosesIn, with_desk}
use Rattle.sd_world.proofs.Pairs.{FallsWhere, fail_pairs, numbers_fail}
use Rattle.sd_world.proofs.Views.{runs, failed_over, fails as session_fails}
use Rattle.sd_world.proofs.Worlds.{whole_same, pair_map, GoesOnBy, drive_world, calm_world, claimed_on}

-- the desk's claims stay
abbrev pub ClaimsStay : DeskView → DeskView → Type 0
ClaimsStay old new = (name : List ℕ) (drive : ℕ) → claimed_by old name ≡ Some drive → claimed_by new name ≡ Some drive

-- a name with the same claim is at the same drive
same_drive : (old new : DeskView) (name : List ℕ) → claim_of new name ≡ claim_of old name → claimed_by new name ≡ claimed_by old name
same_drive old new name same = ap (option_map (λ (c : Claim). c.drive)) same

-- and so is one that is noted as purged
noted_drive : (o : Option Claim) → option_map (λ (c : Claim). c.drive) (option_map purged_claim o) ≡ option_map (λ (c : Claim). c.drive) o
noted_drive None = refl
noted_drive (Some c) = refl

pub same_claims : (old new : DeskView) → SameClaims old new → ClaimsStay old new
same_claims old new same name drive claimed = same_drive old new name (same name) ∙ claimed

pub name_claimed : (name : List ℕ) (drive : ℕ) (old new : DeskView) → ClaimsName name drive old new → ClaimsStay old new
name_claimed name drive old new c other number claimed =
    same_drive old new other
    (c.others other (λ same. let none : claimed_by old other ≡ None = ap (claimed_by old) same ∙ c.unclaimed in cc (sym none ∙ claimed))) ∙ claimed

pub noted_claims : (name : List ℕ) (old new : DeskView) → NotesPurge name old new → ClaimsStay old new
noted_claims name old new n other number claimed = elim (name_cases other name) [
  | inl same ↦
      ap (claimed_by new) same ∙ ap (option_map (λ (c : Claim). c.drive)) n.noted ∙ noted_drive (claim_of old name) ∙ ap (claimed_by old) (sym same) ∙ claimed
  | inr apart ↦ same_drive old new other (n.others other apart) ∙ claimed
]

-- what is noted as purged was before
abbrev pub PurgedStay : DeskView → DeskView → Type 0
PurgedStay old new = (name : List ℕ) → is_purged_at new name ≡ true → is_purged_at old name ≡ true

pub same_purged : (old new : DeskView) → SameClaims old new → PurgedStay old new
same_purged old new same name purged = ap tells_purged (sym (same name)) ∙ purged

pub name_purged : (name : List ℕ) (drive : ℕ) (old new : DeskView) → ClaimsName name drive old new → PurgedStay old new
name_purged name drive old new c other purged = elim (name_cases other name) [
  | inl same ↦ absurd (true≢false (sym purged ∙ ap (is_purged_at new) same ∙ ap tells_purged c.claimed))
  | inr apart ↦ ap tells_purged (sym (c.others other apart)) ∙ purged
]

pub noted_purged : (name : List ℕ) (old new : DeskView) → NotesPurge name old new → (other : List ℕ) → other ≢ name
    → is_purged_at new other ≡ true → is_purged_at old other ≡ true
noted_purged name old new n other apart purged = ap tells_purged (sym (n.others other apart)) ∙ purged

-- Drives.

-- a drive goes on, with another desk
pub goes_on_knowing : {D : Type 0} (w : WorldView D) (drive at : ℕ) (bay : BayView D) (d after : DriveIs D) (desk : DeskView) → IsWorld w → IsOnline w drive at bay d
    → DriveGoesOn d after → ClaimsStay w.desk desk → IsWorld (with_desk at bay after desk w)
goes_on_knowing w drive at bay d after desk h online goes claims =
    calm_world w at bay d after desk h online.there online.online goes.stays goes.fails goes.gone claims
    (claimed_on w at bay d after desk h online.there online.online goes.names claims)

-- a drive gets a volume, whose name is claimed for it
pub gets_volume : {D : Type 0} (w : WorldView D) (drive at : ℕ) (bay : BayView D) (d after : DriveIs D) (desk : DeskView) (name : List ℕ) → IsWorld w → IsOnline w drive at bay d
    → DriveAdds name d after → ClaimsName name drive w.desk desk → IsWorld (with_desk at bay after desk w)
gets_volume w drive at bay d after desk name h online more claims =
    let stay = name_claimed name drive w.desk desk claims in
    calm_world w at bay d after desk h online.there online.online more.stays more.fails more.gone stay
    (λ place v there. elim (more.names place v there) [
      | inl old ↦ stay v.name (at + 1) ((h.bays at bay online.there).claimed d online.online place v old)
      | inr new ↦ ap (claimed_by desk) new ∙ ap (option_map (λ (c : Claim). c.drive)) claims.claimed ∙ ap Some online.number
    ])

-- A sync that fails.

and_second : (a b : Bool) → (a && b) ≡ false → a ≡ true → b ≡ false
and_second true b none is = none
and_second false b none is = absurd (true≢false (sym is))

-- the session that loses a block doesn't go on
pub falls : {D : Type 0} (drive at : ℕ) (name : List ℕ) (d after : DriveIs D) (x y : WorldSession) (b : Bool) → drive ≡ at + 1 → DriveLoses name d after
    → loses_by drive name d.journal x ≡ b → FailsWhere b x y → GoesOnBy at d after x y
falls drive at name d after x y true number loses is (s, failed, becomes) =
    subst (GoesOnBy at d after x) (sym becomes)
    ((refl, session_fails x.session s failed), λ r. absurd (failed_over x.session s failed r))
falls drive at name d after x y false number loses is becomes =
    subst (GoesOnBy at d after x) (sym becomes) (
      whole_same x x refl,
      λ r here none.
          let own = eq-eqb x.drive drive (here ∙ sym number) in
          let none_with = and_second (is_running x.session.status) (fails_with x.session.key name d.journal)
          (and_second (x.drive == drive) (is_running x.session.status && fails_with x.session.key name d.journal) is own) (runs x.session.status r) in
          loses.fails x.session.key ∙ ap₂ (λ p q. p || q) none none_with,
    )

pub loses_blocks : {D : Type 0} (meaning : D → Meaning) (w w' : WorldView D) (drive : ℕ) → IsWorld w → LosesIn meaning w drive w' → IsWorld w'
loses_blocks meaning w w' drive h l =
    let loses = fails_to_sync l.d l.after l.fails in
    let there = l.online.there in
    let on = l.online.online in
    let name = l.fails.volume.name in
    let chooses = loses_by drive name l.d.journal in
    subst IsWorld (sym l.new_is)
    (drive_world w l.at l.bay l.d l.after w.desk l.sessions h there on loses.stays loses.gone (λ other number claimed. claimed)
    (claimed_on w l.at l.bay l.d l.after w.desk h there on loses.names (λ other number claimed. claimed))
    (λ ticket. pair_map (FallsWhere chooses) (GoesOnBy l.at l.d l.after) (session_at ticket w.sessions) (session_at ticket l.sessions)
    (λ x y found q. falls drive l.at name l.d l.after x y (chooses x) l.online.number loses refl q)
    (fail_pairs chooses w.sessions l.sessions l.fail ticket))
    (numbers_fail chooses w.limits.time 1 w.next w.sessions l.sessions l.fail h.numbers))
