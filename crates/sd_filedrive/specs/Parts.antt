-- What clauses say of the volumes of a folder.
use Rattle.std.specs.Prelude.{ℕ, List, Option, option_map}
use Rattle.sd_filedrive.specs.declared.files.Loaded.{Loaded}
use Rattle.sd_filedrive.specs.declared.files.Opened.{Opened}

-- the name of the loaded volume
abbrev pub loaded_name : {H : Type 0} → Option (Loaded H) → Option (List ℕ)
loaded_name loaded = option_map (λ l. l.name) loaded

-- the name of the volume that was read last without being loaded
abbrev pub opened_name : {H : Type 0} → Option (Opened H) → Option (List ℕ)
opened_name opened = option_map (λ o. o.name) opened
