-- What is wrong with the bytes from a place on.
use Rattle.std.proofs.Common.{◌≡◌, ◌≢◌, ◌⊎◌, inl, inr, ℕ, ◌+◌, ◌≤◌, List, length, take, refl, sym, ap, ◌∙◌, subst}
use Rattle.std.specs.Prelude.{IsErrOf, IsOkAnd, Result, Err}
use Rattle.std.proofs.lemmas.List.{length-take-le}
use Rattle.sd_base.specs.Limits.{most_block}
use Rattle.sd_base.specs.declared.number.SessionKey.{SessionKey}
use Rattle.sd_block.specs.Fault.{IsShort, HasBadId, HasBadSize}
use Rattle.sd_block.specs.Head.{HasHeader, HasId, IsHeadOf}
use Rattle.sd_block.specs.Image.{IsBlockImage, IsImage}
use Rattle.sd_block.specs.declared.fault.BlockFault.{BlockFault}
use Rattle.sd_block.specs.declared.fault.BlockFault.TheVariants as block
use Rattle.sd_block.specs.declared.head.Head.{Head}
use Rattle.sd_block.specs.declared.opened.Opened.{Opened}
use Rattle.sd_volume.proofs.BlockLemmas.{none_there}
use Rattle.sd_volume.proofs.ImageLemmas.{length-image}
use Rattle.sd_scan.specs.Kind.{IsKind, kind_of}
use Rattle.sd_scan.specs.declared.kind.Kind.{Kind}
use Rattle.sd_scan.specs.declared.kind.Kind.TheVariants as kinds

-- a header that is no block's is of the kind of its fault
pub head_kind : (bytes : List ℕ) (fault : BlockFault)
    → (IsErrOf {T = Head} (Err fault) block.Short → IsShort (take 24 bytes))
    → (IsErrOf {T = Head} (Err fault) block.BadId → HasHeader (take 24 bytes) × HasBadId (take 24 bytes))
    → (IsErrOf {T = Head} (Err fault) block.BadSize → HasHeader (take 24 bytes) × HasId (take 24 bytes) × HasBadSize most_block (take 24 bytes))
    → ◌≢◌ {A = Result Head BlockFault} (Err fault) (Err block.BadSum) → IsKind bytes (kind_of fault)
head_kind bytes block.Short short id size sum = inl (short refl)
head_kind bytes block.BadId short id size sum = id refl
head_kind bytes block.BadSize short id size sum = size refl
head_kind bytes block.BadSum short id size sum = absurd (sum refl)

-- so many of the bytes are a block: it begins them
pub whole_there : (bytes shown : List ℕ) (head : Head) → IsHeadOf most_block (take 24 bytes) head → shown ≡ take head.size bytes → head.size ≤ length bytes
    → IsImage most_block shown → IsKind bytes kinds.BadNumber
whole_there bytes shown head is shown_is within image =
    let long : length shown ≡ 24 + length image.body = length-image shown image.key image.number image.body image.block in
    let size : length shown ≡ head.size = ap length shown_is ∙ length-take-le head.size bytes within in (
      image.key,
      image.number,
      image.body,
      subst (λ l. IsBlockImage most_block l image.key image.number image.body) (shown_is ∙ ap (λ n. take n bytes) (sym size ∙ long)) image.block,
    )

-- they are none: nor does any other number of bytes
pub no_whole_there : (bytes shown : List ℕ) (head : Head) → IsHeadOf most_block (take 24 bytes) head → shown ≡ take head.size bytes → head.size ≤ length bytes
    → ¬ IsImage most_block shown → IsKind bytes kinds.BadSum
no_whole_there bytes shown head is shown_is within none =
    ((head, is, within), none_there bytes shown head is shown_is (λ key number body image. none (record { key = key; number = number; body = body; block = image })))

-- if opening the bytes failed, they are no block
pub none_opened : (bytes : List ℕ) (fault : BlockFault)
    → ((key : SessionKey) (number : ℕ) (body : List ℕ) → IsBlockImage most_block bytes key number body
    → IsOkAnd {T = Opened} {E = BlockFault} (Err fault) (λ block. (block.key ≡ key) × (block.number ≡ number) × (block.body.now ≡ body)))
    → ¬ IsImage most_block bytes
none_opened bytes fault found image = found image.key image.number image.body image.block

-- The kind at a place, by what was read there.

pub shown_kind : (bytes shown : List ℕ) (head : Head) (kind : Kind) → IsHeadOf most_block (take 24 bytes) head → shown ≡ take head.size bytes → head.size ≤ length bytes
    → ((kind ≡ kinds.BadNumber) × IsImage most_block shown) ⊎ ((kind ≡ kinds.BadSum) × ¬ IsImage most_block shown) → IsKind bytes kind
shown_kind bytes shown head kind is shown_is within (inl whole) = subst (IsKind bytes) (sym whole.0) (whole_there bytes shown head is shown_is within whole.1)
shown_kind bytes shown head kind is shown_is within (inr none) = subst (IsKind bytes) (sym none.0) (no_whole_there bytes shown head is shown_is within none.1)
