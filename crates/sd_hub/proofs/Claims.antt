-- The names of volumes are claimed one after another.
use Rattle.std.proofs.Common.{◌≡◌, ◌≢◌, ℕ, ◌+◌, ◌<◌, ◌≤◌, sym, ap, subst, ◌∙◌, inl, inr, arith, false, Some, None, List, [], length, slice_get}
use Rattle.std.specs.Option.{option_map}
use Rattle.std.proofs.lemmas.Bool.{cases_lt}
use Rattle.std.proofs.lemmas.Option.{slice_get-map, slice_get_within}
use Rattle.sd_base.proofs.ChoiceLemmas.{same_some}
use Rattle.sd_desk.specs.Desk.{DeskView, OtherClaimsStay, claim_of, claimed_by, is_purged_at, new_claim, tells_purged}
use Rattle.sd_desk.specs.declared.claim.Claim.{Claim}
use Rattle.sd_drive.specs.Shelf.{NamesDiffer}
use Rattle.sd_drive.specs.View.{names}
use Rattle.sd_driver.proofs.Names.{name_cases}
use Rattle.sd_volume.specs.Volume.{VolumeView}
use Rattle.sd_hub.specs.Claimed.{AreClaimed}

-- the names of the first so many of these volumes are claimed for the drive 1, and no other; none was purged, and none asked for
pub record ClaimedTo (volumes : List VolumeView) (count : ℕ) (desk : DeskView) : Type 0 where
  pub claimed : (place : ℕ) (v : VolumeView) → place < count → slice_get volumes place ≡ Some v → claim_of desk v.name ≡ Some (new_claim 1)
  pub free : (name : List ℕ) → ((place : ℕ) (v : VolumeView) → place < count → slice_get volumes place ≡ Some v → v.name ≢ name) → claim_of desk name ≡ None
  pub unpurged : (name : List ℕ) → is_purged_at desk name ≡ false
  pub none_asked : desk.requests ≡ []

-- the name of a volume is at its place among the names
name_at : (volumes : List VolumeView) (place : ℕ) (v : VolumeView) → slice_get volumes place ≡ Some v → slice_get (names volumes) place ≡ Some v.name
name_at volumes place v there = slice_get-map (λ (x : VolumeView). x.name) volumes place ∙ ap (option_map (λ (x : VolumeView). x.name)) there

module _ (volumes : List VolumeView) (at : ℕ) (v : VolumeView) (differ : NamesDiffer volumes) (there : slice_get volumes at ≡ Some v) where
  -- the volumes before it have other names
  apart : (place : ℕ) (u : VolumeView) → place < at → slice_get volumes place ≡ Some u → u.name ≢ v.name
  apart place u below stands same =
      let one = differ place at v.name (name_at volumes place u stands ∙ ap Some same) (name_at volumes at v there) in
      absurd (omega (arith, one, below))

  -- so its name is not claimed yet
  pub is_free : (desk : DeskView) → ClaimedTo volumes at desk → claimed_by desk v.name ≡ None
  is_free desk h = ap (option_map (λ (c : Claim). c.drive)) (h.free v.name apart)

  -- and once it is, one more is
  pub one_more : (old new : DeskView) → ClaimedTo volumes at old → claim_of new v.name ≡ Some (new_claim 1) → OtherClaimsStay v.name old new → new.requests ≡ old.requests
      → ClaimedTo volumes (at + 1) new
  one_more old new h claims others requests = record {
    claimed = λ place u below stands. elim (cases_lt place at) [
      | inl before ↦ others u.name (apart place u before stands) ∙ h.claimed place u before stands
      | inr last ↦ (let here : place ≡ at = omega (arith, last, below) in
          let same : v ≡ u = same_some (sym there ∙ (ap (slice_get volumes) (sym here) ∙ stands)) in
          subst (λ (x : VolumeView). claim_of new x.name ≡ Some (new_claim 1)) same claims)
    ];
    free = λ name none. (
        let own : name ≢ v.name = λ same. none at v (omega arith) there (sym same) in
        others name own ∙ h.free name (λ place u below stands. none place u (omega (arith, below)) stands));
    unpurged = λ name. elim (name_cases name v.name) [
      | inl same ↦ ap tells_purged (ap (claim_of new) same ∙ claims)
      | inr other ↦ ap tells_purged (others name other) ∙ h.unpurged name
    ];
    none_asked = requests ∙ h.none_asked;
  }

-- all of them are claimed in the end
pub all_claimed : (volumes : List VolumeView) (count : ℕ) (desk : DeskView) → ClaimedTo volumes count desk → length volumes ≤ count → AreClaimed volumes desk
all_claimed volumes count desk h all = record {
  claims = λ place v there. (let within = slice_get_within volumes place v there in ap (option_map (λ (c : Claim). c.drive)) (h.claimed place v (omega (arith, within, all)) there));
  others = λ name none. ap (option_map (λ (c : Claim). c.drive)) (h.free name (λ place v below there. none place v there));
  unpurged = h.unpurged;
  none_asked = h.none_asked;
}
