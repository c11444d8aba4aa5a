use Rattle.std.proofs.Common.{◌≡◌, ◌≢◌, ℕ, ◌+◌, ◌-◌, List, length, take, drop, refl, ap, arith, Err}
use Rattle.std.proofs.lemmas.Result.{err_from_is_err_and}
use Rattle.std.proofs.lemmas.List.{take_rest, length-drop}
use Rattle.sd_block.specs.Image.{IsBlockImage}
use Rattle.sd_block.specs.Head.{HasHeader, HasId, IsHeadOf}
use Rattle.sd_block.specs.Fault.{IsShort, HasBadId, HasBadSize, HasWrongSize, HasRightSize, HasSum}
use Rattle.sd_block.specs.declared.head.Head.{Head}
use Rattle.sd_block.specs.declared.fault.BlockFault.{BlockFault}
use Rattle.sd_block.specs.declared.fault.BlockFault.TheVariants.{Short, BadId, BadSize, BadSum}
use Rattle.sd_block.proofs.HeaderLemmas.{SaysSize-same, SaysFields-same}
use Rattle.sd_block.proofs.ImageLemmas.{IsHeadOf-image, HasSum-image, image_from_fields, one_block}
use Rattle.sd_block.proofs.opened.open_block.Goals as goal

-- what is known if `read_head` found a fault
record IsFaultOf (max : ℕ) (bytes : List ℕ) (fault : BlockFault) : Type 0 where
  short : fault ≡ Short → IsShort bytes
  bad_id : fault ≡ BadId → HasBadId bytes
  bad_size : fault ≡ BadSize → HasBadSize max bytes
  no_sum : fault ≢ BadSum

-- it finds none if the header, the form and the size are right
right_header : (max : ℕ) (bytes : List ℕ) (fault : BlockFault) → IsFaultOf max bytes fault → HasHeader bytes → HasId bytes → HasRightSize max bytes → ⊥
right_header max bytes Short is long form size = let few = is.short refl in omega arith
right_header max bytes BadId is long form size = is.bad_id refl form
right_header max bytes BadSize is long form size =
    let bad = is.bad_size refl in
    let same = SaysSize-same bytes bad.0 (length bytes) bad.1.0 size.0 in
    let outside = bad.1.1 in
    omega (arith, outside)
right_header max bytes BadSum is long form size = is.no_sum refl

pub returns-in_err-head-clause-found : goal.returns-in_err-head-clause-found
returns-in_err-head-clause-found c = λ key number body is.
    let found = c.in_err-head.ensures.found _ (IsHeadOf-image c.args.max c.args.bytes.now c.args.bytes.now key number body is refl) in cc

pub returns-in_err-head-clause-bad_sum : goal.returns-in_err-head-clause-bad_sum
returns-in_err-head-clause-bad_sum c =
    let clauses = c.in_err-head.ensures in
    let fault = c.in_err-head.field-0.0 in
    let known : IsFaultOf c.args.max c.args.bytes.now fault = record {
      short = λ e. clauses.short.0 (ap Err e);
      bad_id = λ e. (clauses.bad_id.0 (ap Err e)).1;
      bad_size = λ e. (clauses.bad_size.0 (ap Err e)).2;
      no_sum = λ e. clauses.no_sum (ap Err e);
    } in
    let p = err_from_is_err_and c.from_residual.result c.from_residual.ensures.1 in
    rw (p.1, p.2) (λ e. absurd (known.no_sum cc), λ h. absurd (right_header c.args.max c.args.bytes.now fault known h.0 h.1 h.2))

pub returns-then-head-bytes-clause-found : goal.returns-then-head-bytes-clause-found
returns-then-head-bytes-clause-found c = λ key number body is.
    let own = IsHeadOf-image c.args.max c.args.bytes.now c.args.bytes.now key number body is refl in
    let same = SaysFields-same c.args.bytes.now c.in_ok-head.head _ c.in_ok-head.ensures.head.fields own.fields in
    c.if-head-bytes.true (ap (λ (head : Head). head.size) same)

pub returns-then-head-bytes-clause-bad_sum : goal.returns-then-head-bytes-clause-bad_sum
returns-then-head-bytes-clause-bad_sum c =
    let says = c.in_ok-head.ensures.head.fields in
    (λ e. cc, λ h. absurd (c.if-head-bytes.true (SaysSize-same c.args.bytes.now c.in_ok-head.head.size (length c.args.bytes.now) (says.fits.size_fits, says.size) h.2.0)))

pub returns-then-not-is_sum_right-clause-found : goal.returns-then-not-is_sum_right-clause-found
returns-then-not-is_sum_right-clause-found c = λ key number body is.
    let right : HasSum c.args.bytes.now = rw is.image_is (HasSum-image key number body) in
    let no = c.if-not-is_sum_right.ensures.1 right in cc

-- a size that the header says is that of the head that was read
right_size : (max : ℕ) (bytes : List ℕ) (head : Head) → IsHeadOf max bytes head → head.size ≡ length bytes → HasWrongSize max bytes → ⊥
right_size max bytes head is whole wrong =
    let same = SaysSize-same bytes wrong.0 head.size wrong.1.0 (is.fields.fits.size_fits, is.fields.size) in
    let least = is.least in
    let most = is.most in
    let outside = wrong.1.1 in
    omega (arith, outside)

pub returns-then-not-is_sum_right-clause-bad_size : goal.returns-then-not-is_sum_right-clause-bad_size
returns-then-not-is_sum_right-clause-bad_size c =
    (λ e. cc, λ h. absurd (right_size c.args.max c.args.bytes.now c.in_ok-head.head c.in_ok-head.ensures.head c.if-head-bytes.false h.2))

-- the bytes are the image of what was read
opened_image : (max : ℕ) (bytes : List ℕ) (head : Head) → IsHeadOf max bytes head → head.size ≡ length bytes → HasSum bytes
    → IsBlockImage max bytes head.key head.number (take (length bytes - 24) (drop 24 bytes))
opened_image max bytes head is whole sum =
    let size_is : head.size ≡ 24 + length (drop 24 bytes) = omega (arith, is.header, whole, length-drop 24 bytes) in
    rw (take_rest bytes 24) (record {
      image_is = image_from_fields bytes head is.header is.block_id is.fields whole sum;
      fits = rw (← size_is) is.fields.fits;
      least = omega (arith, is.least, size_is);
      most = omega (arith, is.most, size_is);
    })

pub returns-clause-block : goal.returns-clause-block
returns-clause-block c =
    opened_image c.args.max c.args.bytes.now c.in_ok-head.head c.in_ok-head.ensures.head c.if-head-bytes.false (c.if-not-is_sum_right.ensures.0 refl)

pub returns-clause-found : goal.returns-clause-found
returns-clause-found c = λ key number body is.
    one_block c.args.max c.args.max c.args.bytes.now _ key _ number _ body
    (opened_image c.args.max c.args.bytes.now c.in_ok-head.head c.in_ok-head.ensures.head c.if-head-bytes.false (c.if-not-is_sum_right.ensures.0 refl))
    is

pub returns-clause-bad_size : goal.returns-clause-bad_size
returns-clause-bad_size c =
    (λ e. cc, λ h. absurd (right_size c.args.max c.args.bytes.now c.in_ok-head.head c.in_ok-head.ensures.head c.if-head-bytes.false h.2))
