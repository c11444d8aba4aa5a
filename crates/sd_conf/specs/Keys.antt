-- The keys of a configuration.
use Rattle.std.specs.Prelude.{◌≡◌, ℕ, Bool, true, false, List, [], ◌∷◌, codes, IsSome}
use Rattle.std.specs.Cmp.Lexicographic.{slice_cmp}
use Rattle.std.specs.List.{list_any}
use Rattle.std.specs.Ordering.{is_lt, nat_cmp}
use Rattle.std.specs.Str.{bytes_eq}
use Rattle.toml.specs.Data.{Members, get_member}
use Rattle.sd_conf.specs.declared.keys.Level.{Level}
use Rattle.sd_conf.specs.declared.keys.Level.TheVariants.{Daemon, Drive}

-- the keys that are known in the configuration itself, and in the table of a drive
abbrev pub known_keys : Level → List (List ℕ)
known_keys Daemon =
    codes "block" ∷ codes "volume" ∷ codes "spool" ∷ codes "queue" ∷ codes "port"
    ∷ codes "host" ∷ codes "spool_folder" ∷ codes "drive" ∷ []
known_keys Drive = codes "media" ∷ codes "folder" ∷ codes "lanes" ∷ []

-- the key is one of those that are known there
abbrev pub is_known : Level → List ℕ → Bool
is_known level key = list_any (bytes_eq key) (known_keys level)

-- each key of the table is known there
abbrev pub AllKnown : Level → Members → Type 0
AllKnown level table = (key : List ℕ) → IsSome (get_member key table) → is_known level key ≡ true

-- of the keys of the table that aren't known there this is the least, by their bytes
pub record IsFirstUnknown (level : Level) (table : Members) (key : List ℕ) : Type 0 where
  pub there : IsSome (get_member key table)
  pub unknown : is_known level key ≡ false
  pub least : (other : List ℕ) → IsSome (get_member other table) → is_known level other ≡ false
      → is_lt (slice_cmp nat_cmp other key) ≡ false
