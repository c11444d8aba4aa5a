-- The desk beside a drive: names that are claimed, and volumes that have them.
use Rattle.std.proofs.Common.{◌≡◌, ◌≢◌, ℕ, Bool, true, false, List, Option, Some, None, refl, sym, ap, ◌∙◌}
use Rattle.std.specs.Option.{option_map}
use Rattle.std.specs.Str.{bytes_eq}
use Rattle.std.proofs.lemmas.Slice.Eq.{bytes_eq-Decides}
use Rattle.sd_desk.specs.Desk.{DeskView, claim_of, claimed_by, OtherClaimsStay}
use Rattle.sd_desk.specs.declared.claim.Claim.{Claim}
use Rattle.sd_drive.specs.View.{DriveIs}
use Rattle.sd_drive.specs.Moves.{label_due, adopt_due, index_of}
use Rattle.sd_drive.proofs.FindLemmas.{place_there}
use Rattle.sd_world.specs.Operators.{SameDesk}
use Rattle.sd_events.specs.AtStations.{AreClaimed}

-- a drive has no volume of a name that isn't claimed
pub no_volume : {D : Type 0} (own : ℕ) (d : DriveIs D) (desk : DeskView) (name : List ℕ) → AreClaimed own d desk → claimed_by desk name ≡ None
    → index_of d.volumes name ≡ None
no_volume own d desk name claims unclaimed = from (index_of d.volumes name) refl
  where
    from : (o : Option ℕ) → index_of d.volumes name ≡ o → index_of d.volumes name ≡ None
    from None is = is
    from (Some k) is =
        let stands = place_there d.volumes name k is in
        let named : claimed_by desk name ≡ Some own = ap (claimed_by desk) (sym stands.2) ∙ claims k stands.0 stands.1 in
        absurd (cc (named, unclaimed))

-- no refusal of a label is due
pub label_free : {D : Type 0} (d : DriveIs D) (name media : List ℕ) → media ≡ d.media → d.loaded ≡ None → index_of d.volumes name ≡ None
    → label_due d name media ≡ None
label_free d name media same loaded none =
    let is : bytes_eq d.media media ≡ true = (bytes_eq-Decides d.media media).1 (sym same) in
    rw (is, loaded, none)

-- no refusal of an adoption is due
pub adopt_free : {D : Type 0} (d : DriveIs D) (name : List ℕ) → d.loaded ≡ None → index_of d.volumes name ≡ None → adopt_due d name ≡ None
adopt_free d name loaded none = rw (none, loaded)

-- a name that isn't claimed has no claim
none_claimed : (o : Option Claim) → option_map (λ (c : Claim). c.drive) o ≡ None → o ≡ None
none_claimed None is = refl
none_claimed (Some c) is = absurd (cc is)

-- a name that was claimed and released
pub released : (name : List ℕ) (old mid new : DeskView) → claimed_by old name ≡ None → OtherClaimsStay name old mid → OtherClaimsStay name mid new
    → claim_of new name ≡ None → mid.requests ≡ old.requests → new.requests ≡ mid.requests → SameDesk old new
released name old mid new unclaimed first second gone asked asked' = record {
  claims = λ other. from other (bytes_eq other name) refl;
  requests = asked' ∙ asked;
}
  where
    from : (other : List ℕ) (b : Bool) → bytes_eq other name ≡ b → claim_of new other ≡ claim_of old other
    from other true is =
        let same = (bytes_eq-Decides other name).0 is in
        ap (claim_of new) same ∙ gone ∙ sym (none_claimed (claim_of old name) unclaimed) ∙ ap (claim_of old) (sym same)
    from other false is =
        let differs : other ≢ name = λ same. (let t = (bytes_eq-Decides other name).1 same in cc (t, is)) in
        second other differs ∙ first other differs
