-- What the operator's desk knows: at which drive each volume is, and which drives asked for a volume.
use Rattle.std.specs.Prelude.{◌≡◌, ◌≢◌, ℕ, Bool, true, false, List, map, Option, None, Some, All, String}
use Rattle.std.specs.BTreeMap.{is_at}
use Rattle.std.specs.Cmp.Lexicographic.{slice_cmp}
use Rattle.std.specs.Map.{lookup}
use Rattle.std.specs.Option.{option_map}
use Rattle.std.specs.Ordering.{nat_cmp}
use Rattle.std.specs.String.{string_bytes}
use Rattle.sd_desk.specs.declared.claim.Claim.{Claim}
use Rattle.sd_desk.specs.declared.request.Request.{Request}

-- all that clauses say of a desk: the names of volumes, each with its claim, and the requests in the order asked
pub record DeskView : Type 0 where
  pub claims : List (List ℕ × Claim)
  pub requests : List Request

-- the names as bytes, each with its claim
abbrev pub claims_of : {A : Type 0} → List (String A × Claim) → List (List ℕ × Claim)
claims_of entries = map (λ e. (string_bytes e.0, e.1)) entries

-- the claim of a name, if there is one
abbrev pub claim_of : DeskView → List ℕ → Option Claim
claim_of desk name = lookup (is_at (slice_cmp nat_cmp name)) desk.claims

-- the drive at which a name is, if it is claimed
abbrev pub claimed_by : DeskView → List ℕ → Option ℕ
claimed_by desk name = option_map (λ (c : Claim). c.drive) (claim_of desk name)

-- the claim tells that its volume was purged since it was claimed
abbrev pub tells_purged : Option Claim → Bool
tells_purged None = false
tells_purged (Some claim) = claim.purged

-- the volume of this name was purged since it was claimed
abbrev pub is_purged_at : DeskView → List ℕ → Bool
is_purged_at desk name = tells_purged (claim_of desk name)

-- a name that was just claimed for a drive
abbrev pub new_claim : ℕ → Claim
new_claim drive = record { drive = drive; purged = false }

-- the claim once its volume was purged
abbrev pub purged_claim : Claim → Claim
purged_claim claim = record claim { purged = true }

-- every name is where it was
abbrev pub SameClaims : DeskView → DeskView → Type 0
SameClaims old new = (name : List ℕ) → claim_of new name ≡ claim_of old name

-- every name but this one is where it was
abbrev pub OtherClaimsStay : List ℕ → DeskView → DeskView → Type 0
OtherClaimsStay name old new = (other : List ℕ) → other ≢ name → claim_of new other ≡ claim_of old other

-- no request is this drive's
abbrev pub HasNotAsked : ℕ → List Request → Type 0
HasNotAsked drive requests = All (λ r. r.drive ≢ drive) requests
