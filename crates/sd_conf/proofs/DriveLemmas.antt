-- The drives of a configuration, table by table.
use Rattle.std.proofs.Common.{◌≡◌, inl, inr, ℕ, ◌+◌, ◌<◌, ◌≤◌, nat_le, false, List, [], ◌∷◌, ◌++◌, length, get_or, drop, map, append_assoc, Option, Some, None, Err, option_and_then, codes, le-leb, Vec, Bor, BTreeMap, String, Global, refl, sym, ap, subst, ◌∙◌, arith}
use Rattle.std.proofs.lemmas.Bool.Decides.{nat_tests}
use Rattle.std.proofs.lemmas.List.{drop_more}
use Rattle.toml.specs.Data.{Data, Items, Members, as_array}
use Rattle.toml.specs.View.{table_view}
use Rattle.toml.specs.declared.value.Value.{Value}
use Rattle.sd_base.specs.Limits.{most_drives}
use Rattle.sd_conf.specs.Conf.{drive_of}
use Rattle.sd_conf.specs.FirstFault.{Fault, At, DriveFault, TablesFault}
use Rattle.sd_conf.specs.Told.{TellsAs}
use Rattle.sd_conf.specs.Values.{required, drives_fault, count_fault, tables_of, tables_at}
use Rattle.sd_conf.specs.declared.conf.DriveConf.{DriveConf}
use Rattle.sd_conf.specs.declared.fault.ConfFault.{ConfFault}
use Rattle.sd_conf.specs.declared.fault.ConfFault.TheVariants.{Text, Key, Memory}
use Rattle.sd_conf.specs.declared.fault.FaultKind.{FaultKind}
use Rattle.sd_conf.specs.declared.fault.FaultKind.TheVariants.{Missing, Kind, Range}

-- The tables, one after another.

-- the next of a list, and those after it
pub next_of : {A B : Type 0} (f : A → B) (xs : List A) (i : ℕ) (x : A) → x ≡ get_or xs i x → i < length xs
    → map f (drop i xs) ≡ f x ∷ map f (drop (i + 1) xs)
next_of f xs i x is within = ap (map f) (drop_more xs i x within) ∙ ap (λ y. f y ∷ map f (drop (i + 1) xs)) (sym is)

-- the first fault of what is left of the tables is that of all
abbrev pub IsLeft : List Members → List Members → Type 0
IsLeft left all = (found : Option Fault) → TablesFault left found → TablesFault all found

pub table_fails : (left all rest : List Members) (table : Members) (fault : ConfFault) → IsLeft left all → left ≡ table ∷ rest
    → TellsAs (λ (d : DriveConf). d) (DriveFault table) (drive_of table) (Err fault)
    → TellsAs (λ (ds : List DriveConf). ds) (TablesFault all) (map drive_of all) (Err fault)
table_fails left all rest table (Key key wrong) keeps front told =
    keeps (Some (key, wrong)) (subst (λ l. TablesFault l (Some (key, wrong))) (sym front) (inl ((key, wrong), told, refl)))
table_fails left all rest table Memory keeps front told = tt
table_fails left all rest table Text keeps front told = absurd told

pub table_passes : (left all rest : List Members) (table : Members) → IsLeft left all → left ≡ table ∷ rest → DriveFault table None → IsLeft rest all
table_passes left all rest table keeps front none = λ found others.
    keeps found (subst (λ l. TablesFault l found) (sym front) (inr (none, others)))

pub drive_read : (drives more : List DriveConf) (drive : DriveConf) (left all rest : List Members) (table : Members) → more ≡ drives ++ drive ∷ []
    → drive ≡ drive_of table → left ≡ table ∷ rest → drives ++ map drive_of left ≡ map drive_of all
    → more ++ map drive_of rest ≡ map drive_of all
drive_read drives more drive left all rest table grown is front read =
    ap (λ ds. ds ++ map drive_of rest) grown ∙ append_assoc drives (drive ∷ []) (map drive_of rest)
    ∙ ap (λ d. drives ++ d ∷ map drive_of rest) is ∙ ap (λ l. drives ++ map drive_of l) (sym front) ∙ read

-- The key of the tables.

-- what is seen of tables that are held by reference
abbrev pub seen : Vec (Bor (BTreeMap (String Global) Value)) Global → List Members
seen tables = map (λ t. table_view t.now) tables.items

at_fault : (wrong : Option FaultKind) (found : FaultKind) → wrong ≡ Some found → At (codes "drive") wrong (Some (codes "drive", found))
at_fault wrong found e = subst (λ w. At (codes "drive") w (Some (codes "drive", found))) (sym e) refl

pub drives_lack : (d : Option Data) → None ≡ d → At (codes "drive") (required drives_fault d) (Some (codes "drive", Missing))
drives_lack d e = subst (λ q. At (codes "drive") (required drives_fault q) (Some (codes "drive", Missing))) e refl

pub drives_misfit : (v : Data) (d : Option Data) → Some v ≡ d → None ≡ as_array v → At (codes "drive") (required drives_fault d) (Some (codes "drive", Kind))
drives_misfit v d e is = subst (λ q. At (codes "drive") (required drives_fault q) (Some (codes "drive", Kind))) e (rw (← is) refl)

-- what is wrong with the array is what is wrong with its tables
counted : (v : Data) (d : Option Data) (items : Items) (tables : Option (List Members)) → Some v ≡ d → Some items ≡ as_array v → tables ≡ tables_of items
    → required drives_fault d ≡ count_fault tables
counted v d items tables e is counts = sym (ap (required drives_fault) e) ∙ sym (ap (λ i. count_fault (option_and_then tables_of i)) is) ∙ sym (ap count_fault counts)

pub drives_no_tables : (v : Data) (d : Option Data) (items : Items) → Some v ≡ d → Some items ≡ as_array v → None ≡ tables_of items
    → At (codes "drive") (required drives_fault d) (Some (codes "drive", Kind))
drives_no_tables v d items e is counts = at_fault (required drives_fault d) Kind (counted v d items None e is counts)

pub drives_none : (v : Data) (d : Option Data) (items : Items) (tables : List Members) → Some v ≡ d → Some items ≡ as_array v → Some tables ≡ tables_of items
    → length tables ≡ 0 → At (codes "drive") (required drives_fault d) (Some (codes "drive", Missing))
drives_none v d items [] e is counts none = at_fault (required drives_fault d) Missing (counted v d items (Some []) e is counts)
drives_none v d items (table ∷ more) e is counts none = absurd (omega arith)

pub drives_many : (v : Data) (d : Option Data) (items : Items) (tables : List Members) → Some v ≡ d → Some items ≡ as_array v → Some tables ≡ tables_of items
    → most_drives < length tables → At (codes "drive") (required drives_fault d) (Some (codes "drive", Range))
drives_many v d items [] e is counts many = absurd (omega arith)
drives_many v d items (table ∷ more) e is counts many =
    let past : nat_le (length (table ∷ more)) most_drives ≡ false = grind (arith, nat_tests) in
    at_fault (required drives_fault d) Range (counted v d items (Some (table ∷ more)) e is counts ∙ rw past refl)

pub drives_counted : (v : Data) (d : Option Data) (items : Items) (tables : List Members) → Some v ≡ d → Some items ≡ as_array v → Some tables ≡ tables_of items
    → 0 < length tables → length tables ≤ most_drives
    → At (codes "drive") (required drives_fault d) None × (tables ≡ tables_at d)
drives_counted v d items [] e is counts some few = absurd (omega arith)
drives_counted v d items (table ∷ more) e is counts some few =
    let none : required drives_fault d ≡ None = counted v d items (Some (table ∷ more)) e is counts ∙ rw (le-leb (length (table ∷ more)) most_drives few) refl in (
      subst (λ w. At (codes "drive") w None) (sym none) refl,
      subst (λ q. table ∷ more ≡ tables_at q) e (rw (← is) (rw (← counts) refl)),
    )
