-- The block at the front of bytes, by its header and by its image.
use Rattle.std.proofs.Common.{◌≡◌, ℕ, ◌+◌, List, length, take, drop, sym, ap, ◌∙◌, subst, arith, Option, Some, None}
use Rattle.std.specs.Prelude.{IfSome, IfNone}
use Rattle.std.proofs.lemmas.List.{take-take, take_min, length-take}
use Rattle.sd_base.specs.Limits.{most_block}
use Rattle.sd_base.specs.declared.number.SessionKey.{SessionKey}
use Rattle.sd_block.specs.Image.{IsBlockImage}
use Rattle.sd_block.specs.Head.{IsHeadOf}
use Rattle.sd_block.specs.declared.head.Head.{Head}
use Rattle.sd_block.proofs.HeaderLemmas.{SaysFields-same}
use Rattle.sd_block.proofs.ImageLemmas.{IsHeadOf-image}
use Rattle.sd_driver.specs.Shelf.{Shelf, Held}
use Rattle.sd_volume.specs.Image.{BeginsWithBlock}
use Rattle.sd_volume.specs.Reader.{ReaderView, ShowsPart, IsBlockOf, NoBlockAt}
use Rattle.sd_volume.proofs.ImageLemmas.{length-image}

-- the front of such bytes is the header of their block
pub head_of_front : (bytes : List ℕ) (key : SessionKey) (number : ℕ) (body : List ℕ) → BeginsWithBlock bytes key number body
    → IsHeadOf most_block (take 24 bytes) (record { key = key; number = number; size = 24 + length body })
head_of_front bytes key number body is =
    let image = take (24 + length body) bytes in
    let front : take 24 (take 24 bytes) ≡ take 24 image = take-take 24 24 bytes (omega arith) ∙ sym (take-take 24 (24 + length body) bytes (omega arith)) in
    let long : length image ≡ 24 + length body = length-image image key number body is in
    let P : ℕ → Type 0 = λ n. IsHeadOf most_block (take 24 bytes) (record { key = key; number = number; size = n }) in
    subst P long (IsHeadOf-image most_block image (take 24 bytes) key number body is front)

-- so a head that was read there says the size of the block
pub size_of_front : (bytes : List ℕ) (head : Head) (key : SessionKey) (number : ℕ) (body : List ℕ) → IsHeadOf most_block (take 24 bytes) head → BeginsWithBlock bytes key number body
    → head.size ≡ 24 + length body
size_of_front bytes head key number body is begins =
    ap (λ (h : Head). h.size) (SaysFields-same (take 24 bytes) head _ is.fields (head_of_front bytes key number body begins).fields)

-- if the bytes of that size are no block, none is there
pub none_there : (bytes shown : List ℕ) (head : Head) → IsHeadOf most_block (take 24 bytes) head → shown ≡ take head.size bytes
    → ((key : SessionKey) (number : ℕ) (body : List ℕ) → ¬ IsBlockImage most_block shown key number body)
    → (key : SessionKey) (number : ℕ) (body : List ℕ) → ¬ BeginsWithBlock bytes key number body
none_there bytes shown head is shown_is none key number body begins =
    let size = size_of_front bytes head key number body is begins in
    none key number body (subst (λ image. IsBlockImage most_block image key number body) (sym (shown_is ∙ ap (λ n. take n bytes) size)) begins)

-- bytes that are a front of others are so many of them as they are
pub shown_all : (bytes shown : List ℕ) (size many : ℕ) → shown ≡ take size bytes → many ≡ length shown → shown ≡ take many bytes
shown_all bytes shown size many is long =
    is ∙ sym (take_min size bytes) ∙ ap (λ n. take n bytes) (sym (long ∙ ap length is ∙ length-take size bytes))

on_some : {X : Type 0} (o : Option X) (P Q : X → Type 0) → ((x : X) → P x → Q x) → IfSome o P → IfSome o Q
on_some None P Q weaker p = tt
on_some (Some x) P Q weaker p = weaker x p

on_none : {X : Type 0} (o : Option X) (P Q : Type 0) → (P → Q) → IfNone o P → IfNone o Q
on_none None P Q weaker p = weaker p
on_none (Some x) P Q weaker p = tt

-- a block that was shown is shown as it is
pub block_shown : (found : Option Head) (at size : ℕ) (reader : ReaderView) (shelf : Shelf) (shown : List ℕ) → shown ≡ reader.shown → ShowsPart at size reader shelf
    → IfSome found (IsBlockOf shown) → IfSome found (λ head. ShowsPart at head.size reader shelf)
block_shown found at size reader shelf shown same part is =
    on_some found (IsBlockOf shown) (λ head. ShowsPart at head.size reader shelf)
    (λ head block held there. shown_all (drop at held.bytes) reader.shown size head.size (part held there) (block.size_is ∙ ap length same)) is

-- if what was shown is no block, none is there
pub no_block_shown : (found : Option Head) (at : ℕ) (name : List ℕ) (shelf : Shelf) (shown : List ℕ) (head : Head)
    → ((held : Held) → shelf.volume name ≡ Some held → IsHeadOf most_block (take 24 (drop at held.bytes)) head × (shown ≡ take head.size (drop at held.bytes)))
    → IfNone found ((key : SessionKey) (number : ℕ) (body : List ℕ) → ¬ IsBlockImage most_block shown key number body)
    → IfNone found (NoBlockAt at name shelf)
no_block_shown found at name shelf shown head there is =
    on_none found _ (NoBlockAt at name shelf) (λ none held stands. (let t = there held stands in none_there (drop at held.bytes) shown head t.0 t.1 none)) is
