-- The parts of an image, taken apart and put together.
use Rattle.std.proofs.Common.{◌≡◌, ℕ, ◌+◌, ◌≤◌, List, ◌++◌, length, take, drop, codes, refl, ap, ap₂, sym, ◌∙◌, arith}
use Rattle.std.proofs.lemmas.List.{append_assoc, take_at, drop_at, drop-drop, drop-take, take-take, take-append-drop, take-append-le, length-append, length-take, length-drop}
use Rattle.sd_base.specs.Field.{u32_bytes}
use Rattle.sd_base.specs.declared.number.SessionKey.{SessionKey}
use Rattle.sd_base.proofs.FieldLemmas.{length-u32_bytes}
use Rattle.sd_crc.specs.Crc32.{crc32_of}
use Rattle.sd_block.specs.Image.{header_fields, summed_bytes, block_image, FitsHeader, IsBlockImage, IsImage}
use Rattle.sd_block.specs.Head.{field_at, HasHeader, HasId, SaysFields, IsHeadOf}
use Rattle.sd_block.specs.Fault.{HasSum}
use Rattle.sd_block.specs.declared.head.Head.{Head}
use Rattle.sd_block.proofs.HeaderLemmas.{SaysFields-same}

-- a field that comes first, and one that comes after another
field_first : (field rest : List ℕ) → length field ≡ 4 → field_at 0 (field ++ rest) ≡ field
field_first field rest four = take_at field rest 4 four

drop_field : (at : ℕ) (field rest : List ℕ) → length field ≡ 4 → drop (4 + at) (field ++ rest) ≡ drop at rest
drop_field at field rest four = sym (drop-drop at 4 (field ++ rest)) ∙ ap (drop at) (drop_at field rest 4 four)

field_behind : (at : ℕ) (field rest : List ℕ) → length field ≡ 4 → field_at (4 + at) (field ++ rest) ≡ field_at at rest
field_behind at field rest four = ap (take 4) (drop_field at field rest four)

-- the bytes from a place on are the field there and what comes after it
split_field : (at : ℕ) (bytes : List ℕ) → drop at bytes ≡ field_at at bytes ++ drop (at + 4) bytes
split_field at bytes = sym (take-append-drop 4 (drop at bytes)) ∙ ap (λ rest. field_at at bytes ++ rest) (drop-drop 4 at bytes)

-- the same front has the same fields
pub take_within : (m n : ℕ) (bytes : List ℕ) → take m (drop n (take (n + m) bytes)) ≡ take m (drop n bytes)
take_within m n bytes = ap (take m) (drop-take n m bytes) ∙ take-take m m (drop n bytes) (omega arith)

field_within : (at : ℕ) (bytes other : List ℕ) → at + 4 ≤ 24 → take 24 bytes ≡ take 24 other → field_at at bytes ≡ field_at at other
field_within at bytes other within same =
    let shorter : take (at + 4) bytes ≡ take (at + 4) other = sym (take-take (at + 4) 24 bytes within) ∙ ap (take (at + 4)) same ∙ take-take (at + 4) 24 other within in
    sym (take_within 4 at bytes) ∙ ap (λ front. take 4 (drop at front)) shorter ∙ take_within 4 at other

-- six fields one after another, and what comes after them
pub record SixFields (bytes a b c d e f rest : List ℕ) : Type 0 where
  pub at_0 : field_at 0 bytes ≡ a
  pub at_4 : field_at 4 bytes ≡ b
  pub at_8 : field_at 8 bytes ≡ c
  pub at_12 : field_at 12 bytes ≡ d
  pub at_16 : field_at 16 bytes ≡ e
  pub at_20 : field_at 20 bytes ≡ f
  pub behind : drop 24 bytes ≡ rest

six_fields : (a b c d e f rest : List ℕ) → length a ≡ 4 → length b ≡ 4 → length c ≡ 4 → length d ≡ 4 → length e ≡ 4 → length f ≡ 4
    → SixFields (a ++ (b ++ (c ++ (d ++ (e ++ (f ++ rest)))))) a b c d e f rest
six_fields a b c d e f rest la lb lc ld le lf = record {
  at_0 = field_first a _ la;
  at_4 = field_behind 0 a _ la ∙ field_first b _ lb;
  at_8 = field_behind 4 a _ la ∙ (field_behind 0 b _ lb ∙ field_first c _ lc);
  at_12 = field_behind 8 a _ la ∙ (field_behind 4 b _ lb ∙ (field_behind 0 c _ lc ∙ field_first d _ ld));
  at_16 =
      field_behind 12 a _ la ∙ (field_behind 8 b _ lb ∙ (field_behind 4 c _ lc ∙ (field_behind 0 d _ ld ∙ field_first e _ le)));
  at_20 =
      field_behind 16 a _ la ∙ (field_behind 12 b _ lb ∙ (field_behind 8 c _ lc ∙ (field_behind 4 d _ ld ∙ (field_behind 0 e _ le ∙ field_first f _ lf))));
  behind =
      drop_field 20 a _ la ∙ (drop_field 16 b _ lb ∙ (drop_field 12 c _ lc ∙ (drop_field 8 d _ ld ∙ (drop_field 4 e _ le ∙ drop_at f rest 4 lf))));
}

-- an image, field by field
image_parts : (key : SessionKey) (number : ℕ) (body : List ℕ)
    → block_image key number body
    ≡ u32_bytes (crc32_of (summed_bytes key number body)) ++ (u32_bytes (24 + length body) ++ (u32_bytes number ++ (codes "BB02" ++ (u32_bytes key.id ++ (u32_bytes key.time ++ body)))))
unfolding block_image header_fields
image_parts key number body = simp append_assoc

pub length-header_fields : (key : SessionKey) (number size : ℕ) → length (header_fields key number size) ≡ 20
unfolding header_fields
length-header_fields key number size = simp (length-append, length-u32_bytes)

pub length-block_image : (key : SessionKey) (number : ℕ) (body : List ℕ) → length (block_image key number body) ≡ 24 + length body
length-block_image key number body =
    ap length (image_parts key number body) ∙ simp (length-append, length-u32_bytes) (omega arith)

pub image_fields : (key : SessionKey) (number : ℕ) (body : List ℕ)
    → SixFields (block_image key number body) (u32_bytes (crc32_of (summed_bytes key number body))) (u32_bytes (24 + length body)) (u32_bytes number) (codes "BB02") (u32_bytes key.id) (u32_bytes key.time) body
image_fields key number body =
    rw (image_parts key number body) (six_fields _ _ _ _ _ _ body (length-u32_bytes _) (length-u32_bytes _) (length-u32_bytes _) refl (length-u32_bytes _) (length-u32_bytes _))

-- bytes with the front of an image say its fields
pub SaysFields-image : (bytes : List ℕ) (key : SessionKey) (number : ℕ) (body : List ℕ) → FitsHeader key number (24 + length body)
    → take 24 bytes ≡ take 24 (block_image key number body)
    → SaysFields bytes (record { key = key; number = number; size = 24 + length body })
SaysFields-image bytes key number body fits same =
    let is = image_fields key number body in
    record {
      fits = fits;
      size = field_within 4 bytes _ (omega arith) same ∙ is.at_4;
      number = field_within 8 bytes _ (omega arith) same ∙ is.at_8;
      session_id = field_within 16 bytes _ (omega arith) same ∙ is.at_16;
      session_time = field_within 20 bytes _ (omega arith) same ∙ is.at_20;
    }

pub IsHeadOf-image : (max : ℕ) (image bytes : List ℕ) (key : SessionKey) (number : ℕ) (body : List ℕ)
    → IsBlockImage max image key number body → take 24 bytes ≡ take 24 image
    → IsHeadOf max bytes (record { key = key; number = number; size = length image })
IsHeadOf-image max image bytes key number body is same =
    let long : length image ≡ 24 + length body = ap length is.image_is ∙ length-block_image key number body in
    let front : take 24 bytes ≡ take 24 (block_image key number body) = same ∙ ap (take 24) is.image_is in
    rw long (record {
      header = omega (arith, ap length same, length-take 24 bytes, length-take 24 image);
      block_id = field_within 12 bytes _ (omega arith) front ∙ (image_fields key number body).at_12;
      fields = SaysFields-image bytes key number body is.fits front;
      least = omega (arith, is.least);
      most = is.most;
    })

-- a field, and what comes after it
next_field : (at : ℕ) (bytes field rest : List ℕ) → field_at at bytes ≡ field → drop (at + 4) bytes ≡ rest → drop at bytes ≡ field ++ rest
next_field at bytes field rest here behind = split_field at bytes ∙ ap₂ (λ (f r : List ℕ). f ++ r) here behind

-- bytes whose size and checksum are right are the image of what they say
pub image_from_fields : (bytes : List ℕ) (head : Head) → HasHeader bytes → HasId bytes → SaysFields bytes head → head.size ≡ length bytes → HasSum bytes
    → bytes ≡ block_image head.key head.number (drop 24 bytes)
unfolding block_image header_fields
image_from_fields bytes head long form says whole sum =
    let body = drop 24 bytes in
    let size_is : head.size ≡ 24 + length body = omega (arith, length-drop 24 bytes) in
    let joined = next_field 4 bytes _ _ says.size (next_field 8 bytes _ _ says.number (next_field 12 bytes _ _ form (next_field 16 bytes _ _ says.session_id (next_field 20 bytes _ _ says.session_time refl)))) in
    let summed : drop 4 bytes ≡ summed_bytes head.key head.number body = joined ∙ rw size_is (simp append_assoc) in
    sym (take-append-drop 4 bytes) ∙ ap₂ (λ (f r : List ℕ). f ++ r) (sum ∙ ap (λ behind. u32_bytes (crc32_of behind)) summed) summed

-- an image has its checksum
HasSum-front : (summed : List ℕ) → HasSum (u32_bytes (crc32_of summed) ++ summed)
HasSum-front summed =
    let four = length-u32_bytes (crc32_of summed) in
    take_at _ summed 4 four ∙ ap (λ behind. u32_bytes (crc32_of behind)) (sym (drop_at _ summed 4 four))

pub HasSum-image : (key : SessionKey) (number : ℕ) (body : List ℕ) → HasSum (block_image key number body)
unfolding block_image
HasSum-image key number body = HasSum-front (summed_bytes key number body)

-- the body comes after the header
pub body_of_image : (max : ℕ) (image : List ℕ) (key : SessionKey) (number : ℕ) (body : List ℕ) → IsBlockImage max image key number body → drop 24 image ≡ body
body_of_image max image key number body is = ap (drop 24) is.image_is ∙ (image_fields key number body).behind

pub one_block : (max max' : ℕ) (image : List ℕ) (key key' : SessionKey) (number number' : ℕ) (body body' : List ℕ)
    → IsBlockImage max image key number body → IsBlockImage max' image key' number' body'
    → (key ≡ key') × (number ≡ number') × (body ≡ body')
one_block max max' image key key' number number' body body' is is' =
    let head = IsHeadOf-image max image image key number body is refl in
    let head' = IsHeadOf-image max' image image key' number' body' is' refl in
    let same = SaysFields-same image _ _ head.fields head'.fields in
    let body_is = body_of_image max image key number body is in
    let body_is' = body_of_image max' image key' number' body' is' in
    (ap (λ (h : Head). h.key) same, ap (λ (h : Head). h.number) same, sym body_is ∙ body_is')

-- the head of an image is there too if more comes after it
head_with_more : (max : ℕ) (image behind : List ℕ) (is : IsImage max image)
    → IsHeadOf max (image ++ behind) (record { key = is.key; number = is.number; size = length image })
head_with_more max image behind is =
    let long : length image ≡ 24 + length is.body = ap length is.block.image_is ∙ length-block_image is.key is.number is.body in
    IsHeadOf-image max image (image ++ behind) is.key is.number is.body is.block (take-append-le 24 image behind (omega (arith, long)))

pub one_image : (max max' : ℕ) (image image' behind behind' : List ℕ) → IsImage max image → IsImage max' image' → image ++ behind ≡ image' ++ behind'
    → (image ≡ image') × (behind ≡ behind')
one_image max max' image image' behind behind' is is' same =
    let head = head_with_more max image behind is in
    let head' : IsHeadOf max' (image ++ behind) (record { key = is'.key; number = is'.number; size = length image' }) = rw same (head_with_more max' image' behind' is') in
    let size : length image ≡ length image' = ap (λ (h : Head). h.size) (SaysFields-same (image ++ behind) _ _ head.fields head'.fields) in
    let n = length image in
    (sym (take_at image behind n refl) ∙ (ap (take n) same ∙ take_at image' behind' n (sym size)), sym (drop_at image behind n refl) ∙ (ap (drop n) same ∙ drop_at image' behind' n (sym size)))
