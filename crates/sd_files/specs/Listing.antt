-- What is listed of a volume: the line of its label, a line for each of its blocks, and the line of its tail.
use Rattle.std.specs.Prelude.{◌≡◌, ◌⊎◌, ℕ, ◌+◌, List, [], ◌∷◌, ◌++◌, length, drop, Option, Some, None, Result, Ok, Err, codes}
use Rattle.std.specs.Fmt.{decimal}
use Rattle.sd_base.specs.Limits.{block_header}
use Rattle.sd_base.specs.Refusal.{refusal_text}
use Rattle.sd_base.specs.declared.refusal.Refusal.{Refusal}
use Rattle.sd_base.specs.declared.refusal.Refusal.TheVariants as refusal
use Rattle.sd_block.specs.declared.head.Head.{Head}
use Rattle.sd_driver.specs.declared.driver.DriverFault.{DriverFault}
use Rattle.sd_driver.specs.declared.driver.DriverFault.TheVariants as driver
use Rattle.sd_driver.specs.Shelf.{Held}
use Rattle.sd_label.specs.Label.{IsVolumeLabel}
use Rattle.sd_label.specs.declared.label.VolumeLabel.{VolumeLabel}
use Rattle.sd_volume.specs.Adopt.{IsLabelled}
use Rattle.sd_volume.specs.Image.{Block as StoredBlock, NoBlockNext, label_block, volume_end, VolumeImage, WholeImage}
use Rattle.sd_text.specs.Lines.{line}
use Rattle.sd_files.specs.declared.list_line.ListLine.{ListLine}
use Rattle.sd_files.specs.declared.list_line.ListLine.TheVariants.{Label, Block, Tail, Refused}
use Rattle.sd_files.specs.declared.listing.ListFault.{ListFault}
use Rattle.sd_files.specs.declared.listing.ListFault.TheVariants.{NotOnShelf, NotOurVolume, Device, Memory}

-- The texts of lines, without their newline.

-- the host of a label as its last word, if it has one
abbrev pub host_text : Option (List ℕ) → List ℕ
host_text None = []
host_text (Some host) = codes " " ++ host

-- the names of a label
abbrev pub label_text : VolumeLabel → List ℕ
label_text l = codes "label " ++ l.name ++ codes " " ++ l.pool ++ codes " " ++ l.media ++ host_text l.host

-- a block: its number, where it starts, how long it is, and its session
abbrev pub head_text : ℕ → Head → List ℕ
head_text start h =
    codes "block " ++ decimal h.number ++ codes " " ++ decimal start ++ codes " " ++ decimal h.size
    ++ codes " " ++ decimal h.key.time ++ codes " " ++ decimal h.key.id

-- how many bytes come after the blocks
abbrev pub tail_text : ℕ → List ℕ
tail_text count = codes "tail " ++ decimal count

-- a line without its newline
abbrev pub line_text : ListLine → List ℕ
line_text (Label label) = label_text label
line_text (Block start head) = head_text start head
line_text (Tail count) = tail_text count
line_text (Refused why) = refusal_text why

-- what the header of a block with this number says
abbrev pub head_of : ℕ → StoredBlock → Head
head_of number b = record { key = b.key; number = number; size = block_header + length b.body }

-- the lines of blocks that are numbered from `number` on, and lie one after another from `start` on
abbrev pub block_lines : ℕ → ℕ → List StoredBlock → List ℕ
block_lines number start [] = []
block_lines number start (b ∷ bs) =
    line (head_text start (head_of number b)) ++ block_lines (number + 1) (start + (block_header + length b.body)) bs

-- the lines of a label and of the blocks after it
abbrev pub front_lines : VolumeLabel → List StoredBlock → List ℕ
front_lines label blocks = line (label_text label) ++ block_lines 1 (length (label_block label)) blocks

-- all lines of a volume with a tail of so many bytes
abbrev pub volume_lines : VolumeLabel → List StoredBlock → ℕ → List ℕ
volume_lines label blocks count = front_lines label blocks ++ line (tail_text count)

-- The bytes are listed whole: the label of that name, all blocks after it, numbered 1, 2 and on, up to the first
-- place where there is no whole block with the next number, and how many bytes are left there.
pub record ListsWhole (name bytes due : List ℕ) : Type 0 where
  pub label : VolumeLabel
  pub blocks : List StoredBlock
  pub tail : List ℕ
  pub labelled : IsLabelled name bytes label
  pub whole : WholeImage bytes label blocks tail
  pub due_is : due ≡ volume_lines label blocks (length tail)

-- the first lines of that: none, or the label's and those of some blocks after it
pub record ListsFront (name bytes due : List ℕ) : Type 0 where
  pub label : VolumeLabel
  pub blocks : List StoredBlock
  pub tail : List ℕ
  pub labelled : IsLabelled name bytes label
  pub image : VolumeImage bytes label blocks tail
  pub due_is : due ≡ front_lines label blocks

-- these lines are those of some blocks after a label that ends there
abbrev pub HasBlocks : ℕ → List ℕ → Type 0
HasBlocks first due = (blocks : List StoredBlock) × (due ≡ block_lines 1 first blocks)

-- these are the first lines of a listing: of a label of that name and of some blocks after it
abbrev pub HasFront : List ℕ → List ℕ → Type 0
HasFront name due =
    (label : VolumeLabel) × IsVolumeLabel label × (label.name ≡ name)
    × ((blocks : List StoredBlock) × (due ≡ front_lines label blocks))

-- The form of what is listed, whatever the device tells: a label of that name, blocks that are numbered 1, 2 and on and
-- lie one after another, and a tail. If the listing is given up, these are the first of such lines, or none; and none
-- if it is no volume of that name.
abbrev pub HasForm : List ℕ → Result (Unit {0}) ListFault → List ℕ → Type 0
HasForm name (Ok done) due = (front : List ℕ) × (count : ℕ) × HasFront name front × (due ≡ front ++ line (tail_text count))
HasForm name (Err NotOurVolume) due = due ≡ []
HasForm name (Err other) due = (due ≡ []) ⊎ HasFront name due

-- what is printed for a fault
abbrev pub list_refusal : ListFault → Refusal
list_refusal NotOnShelf = refusal.VolumeNotOnShelf
list_refusal NotOurVolume = refusal.NotOurVolume
list_refusal Device = refusal.DeviceFault
list_refusal Memory = refusal.Memory

-- what a device's answer is to one who lists; no call of his is answered that a name is taken, or that there is no room
abbrev pub list_fault_of : DriverFault → ListFault
list_fault_of driver.NotThere = NotOnShelf
list_fault_of driver.Exists = Device
list_fault_of driver.NoRoom = Device
list_fault_of driver.Device = Device
list_fault_of driver.Memory = Memory

-- What comes before the refusal of this fault. No volume there: nothing. No label block of that name at its front:
-- nothing. A device's fault and running out of memory may come at any time: the first lines, or none.
abbrev pub ListsUntil : List ℕ → Option Held → ListFault → List ℕ → Type 0
ListsUntil name found NotOnShelf front = (found ≡ None) × (front ≡ [])
ListsUntil name found NotOurVolume front =
    (front ≡ []) × ((held : Held) × (found ≡ Some held) × ((label : VolumeLabel) → ¬ IsLabelled name held.bytes label))
ListsUntil name found other front =
    (front ≡ []) ⊎ ((held : Held) × (found ≡ Some held) × ListsFront name held.bytes front)

-- What is due to be printed of the volume of that name, by what lies under it: its listing whole, or what comes before
-- the refusal of a fault.
abbrev pub Lists : List ℕ → Option Held → Result (Unit {0}) ListFault → List ℕ → Type 0
Lists name found (Ok done) due = (held : Held) × (found ≡ Some held) × ListsWhole name held.bytes due
Lists name found (Err fault) due = ListsUntil name found fault due

-- the blocks that come in order after a label, up to a place where the next number is due, and their lines
pub record ListsUpTo (bytes : List ℕ) (label : VolumeLabel) (end next : ℕ) (due : List ℕ) : Type 0 where
  pub blocks : List StoredBlock
  pub image : VolumeImage bytes label blocks (drop end bytes)
  pub end_is : end ≡ volume_end label blocks
  pub next_is : next ≡ 1 + length blocks
  pub due_is : due ≡ block_lines 1 (length (label_block label)) blocks

-- The lines of the blocks after a label were listed: all of them, or, if a fault was met, some of them, from the first
-- on.
abbrev pub ListsBlocks : List ℕ → VolumeLabel → Result ℕ DriverFault → List ℕ → Type 0
ListsBlocks bytes label (Ok end) due =
    (next : ℕ) × ListsUpTo bytes label end next due × NoBlockNext next (drop end bytes)
ListsBlocks bytes label (Err fault) due = (end : ℕ) × (next : ℕ) × ListsUpTo bytes label end next due
