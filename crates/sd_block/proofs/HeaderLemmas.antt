-- A header says one thing.
use Rattle.std.proofs.Common.{◌≡◌, ℕ, ◌^◌, ◌<◌, List, [], ◌++◌, ap, ap₂, sym, ◌∙◌}
use Rattle.sd_base.specs.Field.{u32_bytes}
use Rattle.sd_base.specs.declared.number.SessionKey.{SessionKey}
use Rattle.sd_base.proofs.FieldLemmas.{u32_bytes-injective}
use Rattle.sd_block.specs.Head.{SaysFields}
use Rattle.sd_block.specs.Fault.{SaysSize}
use Rattle.sd_block.specs.declared.head.Head.{Head}

-- one field has one number
pub u32_bytes_same : (x y : ℕ) → x < 2 ^ 32 → y < 2 ^ 32 → u32_bytes x ≡ u32_bytes y → x ≡ y
u32_bytes_same x y hx hy e = u32_bytes-injective x y [] [] hx hy (ap (λ bytes. bytes ++ []) e)

pub SaysSize-same : (bytes : List ℕ) (size other : ℕ) → SaysSize bytes size → SaysSize bytes other → size ≡ other
SaysSize-same bytes size other a b = u32_bytes_same size other a.0 b.0 (sym a.1 ∙ b.1)

-- a record by its parts
key_of : ℕ → ℕ → SessionKey
key_of time id = record { time = time; id = id }

head_of : SessionKey → ℕ → ℕ → Head
head_of key number size = record { key = key; number = number; size = size }

pub key_same : (key other : SessionKey) → key.time ≡ other.time → key.id ≡ other.id → key ≡ other
unfolding key_of
key_same key other same_time same_id = ap₂ key_of same_time same_id

pub SaysFields-same : (bytes : List ℕ) (head other : Head) → SaysFields bytes head → SaysFields bytes other → head ≡ other
unfolding head_of
SaysFields-same bytes head other a b =
    let same_time = u32_bytes_same _ _ a.fits.time_fits b.fits.time_fits (sym a.session_time ∙ b.session_time) in
    let same_id = u32_bytes_same _ _ a.fits.id_fits b.fits.id_fits (sym a.session_id ∙ b.session_id) in
    let same_number = u32_bytes_same _ _ a.fits.number_fits b.fits.number_fits (sym a.number ∙ b.number) in
    let same_size = u32_bytes_same _ _ a.fits.size_fits b.fits.size_fits (sym a.size ∙ b.size) in
    let same_key = key_same head.key other.key same_time same_id in
    ap₂ (λ k n. head_of k n head.size) same_key same_number ∙ ap (head_of other.key other.number) same_size
