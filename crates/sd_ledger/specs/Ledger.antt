-- What contracts see of a ledger and of its tokens, and the rule of the table that ties them.
use Rattle.std.specs.Prelude.{◌≡◌, ℕ, List, [], ◌∷◌, ◌++◌, map, Some, slice_get}
use mathlib.Core.Option.{some}
use lib.ListN.{get_elem?}
use Rattle.atomic_table.specs.Seated.{TableId}

-- what a seat knows: the entries that were written, if it is the ledger's; and those of which it shows that they are written
pub record KnownIs (E : Type 0) : Type 0 where
  pub written : List E
  pub shown : List E

-- nothing
abbrev pub nothing : {E : Type 0} → KnownIs E
nothing = record { written = []; shown = [] }

-- a ledger: which one it is, and its entries, in order
pub record LedgerIs (E : Type 0) : Type 0 where
  pub id : TableId
  pub entries : List E

-- a token: of which ledger it is, and the entries that it shows
pub record TokenIs (E : Type 0) : Type 0 where
  pub id : TableId
  pub shown : List E

-- the entry is among these
abbrev pub IsAmong : {E : Type 0} → E → List E → Type 0
IsAmong x xs = (at : ℕ) × (slice_get xs at ≡ Some x)

-- each of these is among those
abbrev pub AreAmong : {E : Type 0} → List E → List E → Type 0
AreAmong {E} xs ys = (x : E) → IsAmong x xs → IsAmong x ys

-- what a log of the kit has, of which only the first part is used
abbrev pub firsts : {E : Type 0} → List (E × Unit {0}) → List E
firsts {E} items = map (λ (i : E × Unit {0}). i.0) items

-- The rule: what any seat shows is written, as the first seat knows, which is the ledger's.
abbrev pub AreWritten : {E : Type 0} → List (KnownIs E) → Type 0
AreWritten {E} views = (at : ℕ) (v owner : KnownIs E) → get_elem? views at ≡ some v → get_elem? views 0 ≡ some owner → AreAmong v.shown owner.written
