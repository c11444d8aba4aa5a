-- Blocks that stand one after another, and blocks behind them.
use Rattle.std.proofs.Common.{◌≡◌, ℕ, ◌+◌, ◌-◌, ◌*◌, ◌<◌, ◌≤◌, List, ◌++◌, length, drop, ap, sym, ◌∙◌, subst, arith, inl, inr, length-append}
use Rattle.std.proofs.lemmas.Bool.{cases_lt}
use Rattle.sd_base.specs.declared.number.SessionKey.{SessionKey}
use Rattle.sd_block.specs.declared.head.Head.{Head}
use Rattle.sd_judge.specs.Alone.{HasOwnBehind, IsOwnBehind, IsOwnHead}
use Rattle.sd_judge.specs.Run.{RunsTo}
use Rattle.sd_scan.specs.Run.{NoneBetween}
use Rattle.sd_volume.specs.Image.{BeginsWithBlock, Block, NoBlockNext, images}
use Rattle.sd_volume.proofs.ImageLemmas.{block_and_behind, images-append, images_go_on, one_block_there, own_image}

-- one run goes as far as any other from there on
pub one_end : (bytes : List ℕ) (start number end next end' next' : ℕ) → RunsTo bytes start number end next → RunsTo bytes start number end' next' → end ≤ end'
one_end bytes start number end next end' next' (blocks, stand, none) (blocks', stand', none') =
    let ended : NoBlockNext (number + length blocks') (drop end' bytes) = subst (λ n. NoBlockNext n (drop end' bytes)) stand'.next_is none' in
    let on = images_go_on number blocks blocks' (drop end bytes) (drop end' bytes) stand.blocks_are stand'.blocks_are ended (sym stand.bytes_are ∙ stand'.bytes_are) in
    let both : images number blocks' ≡ images number blocks ++ images (number + length blocks) on.more = ap (images number) on.all_are ∙ images-append number blocks on.more in
    omega (arith, stand.end_is, stand'.end_is, ap length both, length-append (images number blocks) (images (number + length blocks) on.more))

pub one_next : (bytes : List ℕ) (start number end next end' next' : ℕ) → RunsTo bytes start number end next → RunsTo bytes start number end' next' → next ≤ next'
one_next bytes start number end next end' next' (blocks, stand, none) (blocks', stand', none') =
    let ended : NoBlockNext (number + length blocks') (drop end' bytes) = subst (λ n. NoBlockNext n (drop end' bytes)) stand'.next_is none' in
    let on = images_go_on number blocks blocks' (drop end bytes) (drop end' bytes) stand.blocks_are stand'.blocks_are ended (sym stand.bytes_are ∙ stand'.bytes_are) in
    omega (arith, stand.next_is, stand'.next_is, ap length on.all_are, length-append blocks on.more)

-- at one place is one block
pub one_there : (bytes : List ℕ) (key key' : SessionKey) (number number' : ℕ) (body body' : List ℕ) → BeginsWithBlock bytes key number body → BeginsWithBlock bytes key' number' body'
    → (key ≡ key') × (number ≡ number') × (body ≡ body')
one_there bytes key key' number number' body body' is is' =
    let one = one_block_there (record { key = key; body = body }) (record { key = key'; body = body' }) number number' _ _ (own_image _ key number body is) (own_image _ key' number' body' is')
    (sym (block_and_behind bytes key number body is) ∙ block_and_behind bytes key' number' body' is') in
    (ap (λ (b : Block). b.key) one.block_is, one.number_is, ap (λ (b : Block). b.body) one.block_is)

-- a block that is not the volume's own
not_own_there : (bytes : List ℕ) (end next at : ℕ) (head : Head) (body : List ℕ) → BeginsWithBlock (drop at bytes) head.key head.number body → ¬ IsOwnHead head at end next
    → ¬ IsOwnBehind bytes end next at
not_own_there bytes end next at head body begins none own =
    let one = one_there (drop at bytes) head.key own.head.key head.number own.head.number body own.stands.0 begins own.stands.1 in
    none (record {
      session = λ e. own.own.session (sym one.0 ∙ e);
      above = omega (arith, one.1, own.own.above);
      fits = (let P : ℕ → Type 0 = λ n. (n - next) * 36 ≤ at - end in subst P (sym one.1) own.own.fits);
    })

-- no block of its own before a place, nor up to the next whole block, which is not its own
pub none_so_far : (bytes : List ℕ) (end next from at : ℕ) (head : Head) (body : List ℕ) → ((p : ℕ) → p < from → ¬ IsOwnBehind bytes end next p) → NoneBetween bytes from at
    → BeginsWithBlock (drop at bytes) head.key head.number body → ¬ IsOwnHead head at end next
    → (p : ℕ) → p < at + 1 → ¬ IsOwnBehind bytes end next p
none_so_far bytes end next from at head body before between begins none p below own = elim (cases_lt p from) [
  | inl early ↦ before p early own
  | inr late ↦ elim (cases_lt p at) [
    | inl here ↦ between p late here own.head.key own.head.number own.stands.0 own.stands.1
    | inr there ↦ (
        let same : p ≡ at = omega (arith, below, there) in
        let P : ℕ → Type 0 = λ q. IsOwnBehind bytes end next q in
        not_own_there bytes end next at head body begins none (subst P same own)
        )
  ]
]

-- nor anywhere, if there is no whole block from that place on
pub none_at_all : (bytes : List ℕ) (end next from size : ℕ) → ((p : ℕ) → p < from → ¬ IsOwnBehind bytes end next p) → NoneBetween bytes from size → size ≡ length bytes
    → ¬ HasOwnBehind bytes end next
none_at_all bytes end next from size before between size_is (p, own) = elim (cases_lt p from) [
  | inl early ↦ before p early own
  | inr late ↦ between p late (omega (arith, own.within, size_is)) own.head.key own.head.number own.stands.0 own.stands.1
]

-- and its length
pub one_length : (bytes : List ℕ) (key key' : SessionKey) (number number' : ℕ) (body body' : List ℕ) → BeginsWithBlock bytes key number body → BeginsWithBlock bytes key' number' body'
    → length body ≡ length body'
one_length bytes key key' number number' body body' is is' = ap length (one_there bytes key key' number number' body body' is is').2
