-- The lines of a volume's blocks, one after another.
use Rattle.std.proofs.Common.{◌≡◌, ◌≢◌, inl, inr, Option, Some, None, Result, Err, ℕ, ◌+◌, ◌-◌, ◌≤◌, List, [], ◌∷◌, ◌++◌, length, replicate, take, drop, ap, ap₂, sym, ◌∙◌, subst, arith, refl}
use Rattle.std.proofs.lemmas.List.{append_assoc, append-nil, drop-drop, length-append, length-drop, length-replicate, take-append-drop}
use Rattle.sd_block.specs.Image.{block_image}
use Rattle.std.specs.Prelude.{IsErrOf}
use Rattle.sd_driver.specs.Shelf.{Held, BeginsWith}
use Rattle.sd_driver.specs.Meaning.{Meaning}
use Rattle.sd_driver.specs.declared.driver.DriverFault.{DriverFault}
use Rattle.sd_driver.specs.declared.driver.DriverFault.TheVariants as driver
use Rattle.sd_volume.specs.Device.{OnlyReads}
use Rattle.sd_volume.proofs.DeviceLemmas.{OnlyReads-as}
use Rattle.sd_files.specs.declared.listing.ListFault.TheVariants as fault
use Rattle.sd_volume.specs.Adopt.{BlockStandsAt, IsLabelled}
use Rattle.sd_block.proofs.ImageLemmas.{length-block_image}
use Rattle.sd_block.specs.declared.head.Head.{Head}
use Rattle.sd_label.specs.declared.label.VolumeLabel.{VolumeLabel}
use Rattle.sd_label.specs.Label.{IsVolumeLabel}
use Rattle.sd_volume.specs.Image.{Block, BeginsWithBlock, NoBlockNext, images, label_block, VolumeImage}
use Rattle.sd_volume.proofs.ImageLemmas.{images-append, one_block_more, volume_end-more}
use Rattle.sd_text.specs.Lines.{line}
use Rattle.sd_files.specs.Listing.{HasBlocks, HasForm, HasFront, Lists, list_fault_of, ListsFront, ListsUpTo, ListsWhole, block_lines, head_of, head_text, label_text, tail_text}

-- What is listed.

-- the line of one block more
pub lines_more : (number start end n : ℕ) (bs : List Block) (b : Block) → end ≡ start + length (images number bs) → n ≡ number + length bs
    → block_lines number start (bs ++ b ∷ []) ≡ block_lines number start bs ++ line (head_text end (head_of n b))
lines_more number start end n [] b end_is n_is =
    let here : end ≡ start = omega (arith, end_is) in
    let same : n ≡ number = omega (arith, n_is) in
    append-nil _ ∙ ap₂ (λ (e m : ℕ). line (head_text e (head_of m b))) (sym here) (sym same)
lines_more number start end n (c ∷ bs) b end_is n_is =
    let long = length-append (block_image c.key number c.body) (images (number + 1) bs) in
    let own = length-block_image c.key number c.body in
    let first = line (head_text start (head_of number c)) in
    let more = lines_more (number + 1) (start + (24 + length c.body)) end n bs b (omega (arith, end_is, long, own)) (omega (arith, n_is)) in
    ap (λ (l : List ℕ). first ++ l) more ∙ sym (append_assoc first (block_lines (number + 1) (start + (24 + length c.body)) bs) (line (head_text end (head_of n b))))

head_is : (n : ℕ) (head : Head) (body : List ℕ) → head.number ≡ n → head.size ≡ 24 + length body → head_of n (record { key = head.key; body = body }) ≡ head
head_is n head body number size = ap₂ (λ (m s : ℕ). record { key = head.key; number = m; size = s }) (sym number) (sym size)

-- a label block alone
pub lists_label : (bytes : List ℕ) (label : VolumeLabel) (first : ℕ) → IsVolumeLabel label → first ≡ length (label_block label) → BeginsWith bytes (label_block label)
    → ListsUpTo bytes label first 1 []
lists_label bytes label first is first_is begins =
    let front = append-nil (label_block label) in
    let whole : bytes ≡ label_block label ++ drop first bytes =
    sym (take-append-drop first bytes) ∙ ap (λ (l : List ℕ). l ++ drop first bytes) (ap (λ n. take n bytes) first_is ∙ begins) in
    record {
      blocks = [];
      image = record { label_is = is; blocks_are = tt; bytes_are = whole ∙ ap (λ (l : List ℕ). l ++ drop first bytes) (sym front) };
      end_is = first_is ∙ ap length (sym front);
      next_is = refl;
      due_is = refl;
    }

-- one block more
pub lists_more : (bytes : List ℕ) (label : VolumeLabel) (end next : ℕ) (due : List ℕ) (head : Head) → ListsUpTo bytes label end next due → BlockStandsAt end next bytes head → head.number ≡ next
    → ListsUpTo bytes label (end + head.size) (next + 1) (due ++ line (head_text end head))
lists_more bytes label end next due head lists stands number_is =
    let block : Block = record { key = head.key; body = stands.0 } in
    let there : BeginsWithBlock (drop end bytes) head.key (1 + length lists.blocks) stands.0 = subst (λ n. BeginsWithBlock (drop end bytes) head.key n stands.0) lists.next_is stands.1 in
    let more = one_block_more bytes label lists.blocks (drop end bytes) block lists.image there in
    let end_is : end ≡ length (label_block label) + length (images 1 lists.blocks) = lists.end_is ∙ length-append (label_block label) (images 1 lists.blocks) in
    let lines = lines_more 1 (length (label_block label)) end next lists.blocks block end_is lists.next_is in
    record {
      blocks = lists.blocks ++ block ∷ [];
      image = subst (λ (tail : List ℕ). VolumeImage bytes label (lists.blocks ++ block ∷ []) tail) (drop-drop (24 + length stands.0) end bytes ∙ ap (λ n. drop (end + n) bytes) (sym stands.2)) more;
      end_is = ap (λ n. end + n) stands.2 ∙ ap (λ n. n + (24 + length stands.0)) lists.end_is ∙ sym (volume_end-more label lists.blocks block);
      next_is = omega (arith, lists.next_is, length-append lists.blocks (block ∷ []));
      due_is = ap₂ (λ (x y : List ℕ). x ++ y) lists.due_is (ap (λ h. line (head_text end h)) (sym (head_is next head stands.0 number_is stands.2))) ∙ sym lines;
    }

-- all of a volume: its label, its blocks and its tail
pub lists_whole : (name bytes : List ℕ) (label : VolumeLabel) (end next : ℕ) (due : List ℕ) (count : ℕ) → IsLabelled name bytes label → ListsUpTo bytes label end next due → NoBlockNext next (drop end bytes)
    → count + end ≡ length bytes
    → ListsWhole name bytes (line (label_text label) ++ (due ++ line (tail_text count)))
lists_whole name bytes label end next due count labelled lists ended count_is =
    let long = length-drop end bytes in
    let count_of : count ≡ length (drop end bytes) = omega (arith, long, count_is) in
    record {
      label = label;
      blocks = lists.blocks;
      tail = drop end bytes;
      labelled = labelled;
      whole = record { image = lists.image; ended = subst (λ n. NoBlockNext n (drop end bytes)) lists.next_is ended };
      due_is = ap₂ (λ (x : List ℕ) (n : ℕ). line (label_text label) ++ (x ++ line (tail_text n))) lists.due_is count_of
          ∙ sym (append_assoc (line (label_text label)) (block_lines 1 (length (label_block label)) lists.blocks) (line (tail_text (length (drop end bytes)))));
    }

-- the first lines of a volume
pub lists_front : (name bytes : List ℕ) (label : VolumeLabel) (end next : ℕ) (due : List ℕ) → IsLabelled name bytes label → ListsUpTo bytes label end next due
    → ListsFront name bytes (line (label_text label) ++ due)
lists_front name bytes label end next due labelled lists =
    record {
      label = label;
      blocks = lists.blocks;
      tail = drop end bytes;
      labelled = labelled;
      image = lists.image;
      due_is = ap (λ (x : List ℕ). line (label_text label) ++ x) lists.due_is;
    }

-- What a fault leaves.

pub fault_is : {T : Type 0} {a b : DriverFault} → ◌≡◌ {A = Result T DriverFault} (Err a) (Err b) → a ≡ b
fault_is e = cc

-- a fault of the device is the device's
pub OnlyReads-listing : {T U : Type 0} (e : DriverFault) (old new : Meaning) → (e ≢ driver.Exists) × (e ≢ driver.NoRoom) → OnlyReads (IsErrOf {T = T} (Err e) driver.Device) old new
    → OnlyReads (IsErrOf {T = U} (Err (list_fault_of e)) fault.Device) old new
OnlyReads-listing driver.NotThere old new never reads = OnlyReads-as _ _ _ _ (λ f. cc) (λ f. cc) reads
OnlyReads-listing driver.Exists old new never reads = absurd (never.0 refl)
OnlyReads-listing driver.NoRoom old new never reads = absurd (never.1 refl)
OnlyReads-listing driver.Device old new never reads = OnlyReads-as _ _ _ _ (λ f. refl) (λ f. refl) reads
OnlyReads-listing driver.Memory old new never reads = OnlyReads-as _ _ _ _ (λ f. cc) (λ f. cc) reads

-- there was no length
pub lists_none : (name : List ℕ) (found : Option Held) (e : DriverFault) → (e ≢ driver.Exists) × (e ≢ driver.NoRoom) → (e ≡ driver.NotThere → found ≡ None)
    → Lists name found (Err (list_fault_of e)) []
lists_none name found driver.NotThere never gone = (gone refl, refl)
lists_none name found driver.Exists never gone = absurd (never.0 refl)
lists_none name found driver.NoRoom never gone = absurd (never.1 refl)
lists_none name found driver.Device never gone = inl refl
lists_none name found driver.Memory never gone = inl refl

-- a fault was met among the blocks
pub lists_given_up : (name : List ℕ) (found : Option Held) (held : Held) (e : DriverFault) (due : List ℕ) → found ≡ Some held → (e ≢ driver.Exists) × (e ≢ driver.NoRoom) → (e ≡ driver.NotThere → ⊥)
    → ListsFront name held.bytes due → Lists name found (Err (list_fault_of e)) due
lists_given_up name found held driver.NotThere due there never gone front = absurd (gone refl)
lists_given_up name found held driver.Exists due there never gone front = absurd (never.0 refl)
lists_given_up name found held driver.NoRoom due there never gone front = absurd (never.1 refl)
lists_given_up name found held driver.Device due there never gone front = inr (held, there, front)
lists_given_up name found held driver.Memory due there never gone front = inr (held, there, front)

pub there_and_gone : {found : Option Held} {held : Held} → found ≡ None → found ≡ Some held → ⊥
there_and_gone none there = never (sym none ∙ there)
  where
    never : {a : Held} → None ≡ Some a → ⊥
    never e = cc

-- The form of what is listed, whatever the device tells.

-- the lines of blocks that are numbered 1, 2 and on, and lie one after another between two places
pub record LinesUpTo (first end next : ℕ) (due : List ℕ) : Type 0 where
  pub blocks : List Block
  pub end_is : end ≡ first + length (images 1 blocks)
  pub next_is : next ≡ 1 + length blocks
  pub due_is : due ≡ block_lines 1 first blocks

-- none
pub lines_none : (first : ℕ) → LinesUpTo first first 1 []
lines_none first = record { blocks = []; end_is = omega arith; next_is = refl; due_is = refl }

-- one more
pub lines_up_to_more : (first end next : ℕ) (due : List ℕ) (head : Head) → LinesUpTo first end next due → 36 ≤ head.size → head.number ≡ next
    → LinesUpTo first (end + head.size) (next + 1) (due ++ line (head_text end head))
lines_up_to_more first end next due head lines least number_is =
    let body : List ℕ = replicate (head.size - 24) 0 in
    let block : Block = record { key = head.key; body = body } in
    let long : length body ≡ head.size - 24 = length-replicate (head.size - 24) 0 in
    let size_is : head.size ≡ 24 + length body = omega (arith, least, long) in
    let more = lines_more 1 first end next lines.blocks block lines.end_is lines.next_is in
    let number = 1 + length lines.blocks in
    let grown = ap length (images-append 1 lines.blocks (block ∷ [])) ∙ length-append (images 1 lines.blocks) (block_image head.key number body ++ []) in
    let own = length-append (block_image head.key number body) [] ∙ ap (λ n. n + 0) (length-block_image head.key number body) in
    record {
      blocks = lines.blocks ++ block ∷ [];
      end_is = omega (arith, lines.end_is, size_is, grown, own);
      next_is = omega (arith, lines.next_is, length-append lines.blocks (block ∷ []));
      due_is = ap₂ (λ (x y : List ℕ). x ++ y) lines.due_is (ap (λ h. line (head_text end h)) (sym (head_is next head body number_is size_is))) ∙ sym more;
    }

-- the first lines, after a label
pub form_front : (name : List ℕ) (label : VolumeLabel) (due : List ℕ) (first : ℕ) → IsVolumeLabel label → label.name ≡ name → first ≡ length (label_block label) → HasBlocks first due
    → HasFront name (line (label_text label) ++ due)
form_front name label due first is named first_is (blocks, due_is) =
    (label, is, named, (blocks, ap (λ (x : List ℕ). line (label_text label) ++ x) (due_is ∙ ap (λ n. block_lines 1 n blocks) first_is)))

-- a fault was met before anything was printed
pub form_none : (name : List ℕ) (e : DriverFault) → HasForm name (Err (list_fault_of e)) []
form_none name driver.NotThere = inl refl
form_none name driver.Exists = inl refl
form_none name driver.NoRoom = inl refl
form_none name driver.Device = inl refl
form_none name driver.Memory = inl refl

-- a fault was met among the blocks
pub form_given_up : (name : List ℕ) (e : DriverFault) (due : List ℕ) → HasFront name due → HasForm name (Err (list_fault_of e)) due
form_given_up name driver.NotThere due front = inr front
form_given_up name driver.Exists due front = inr front
form_given_up name driver.NoRoom due front = inr front
form_given_up name driver.Device due front = inr front
form_given_up name driver.Memory due front = inr front
