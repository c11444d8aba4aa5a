-- The first table of a drive with a fault.
use Rattle.std.proofs.Common.{◌≡◌, inr, ℕ, ◌+◌, ◌<◌, List, [], ◌∷◌, ◌++◌, length, take, drop, get_or, map, None, Some, Err, refl, sym, ap, subst, ◌∙◌, arith}
use Rattle.std.proofs.lemmas.List.{length-map, length-take, map-append, take-append-drop}
use Rattle.toml.specs.Data.{Members}
use Rattle.sd_conf.specs.FirstFault.{Fault, DriveFault, TablesFault}
use Rattle.sd_conf.specs.Place.{IsFaultyTable}
use Rattle.sd_conf.specs.Told.{Tells}
use Rattle.sd_conf.specs.declared.conf.DriveConf.{DriveConf}
use Rattle.sd_conf.specs.declared.fault.ConfFault.{ConfFault}
use Rattle.sd_conf.specs.declared.fault.ConfFault.TheVariants.{Key}
use Rattle.sd_conf.specs.declared.fault.FaultKind.{FaultKind}
use Rattle.sd_conf.proofs.DriveLemmas.{next_of}
use Rattle.sd_conf.proofs.LimitLemmas.{passes}

-- the fault of a key that the reading of a drive tells is the first of its table
pub key_told : (table : Members) (drive : DriveConf) (fault : ConfFault) (key : List ℕ) (wrong : FaultKind) → fault ≡ Key key wrong
    → Tells (DriveFault table) drive (Err fault) → DriveFault table (Some (key, wrong))
key_told table drive fault key wrong is told = subst (λ f. Tells (DriveFault table) drive (Err f)) is told

-- tables without a fault, and one more
pub tables_more : (tables : List Members) (table : Members) → TablesFault tables None → DriveFault table None → TablesFault (tables ++ table ∷ []) None
tables_more [] table none sound = inr (sound, refl)
tables_more (t ∷ ts) table none sound =
    let parts = passes (DriveFault t) (TablesFault ts) none in
    inr (parts.0, tables_more ts table parts.1 sound)

-- the first that has one
pub table_at_fault : {A : Type 0} (f : A → Members) (xs : List A) (i number : ℕ) (x : A) (fault : Fault) → x ≡ get_or xs i x → i < length xs
    → number ≡ i + 1 → TablesFault (map f (take i xs)) None → DriveFault (f x) (Some fault) → IsFaultyTable (map f xs) number
table_at_fault f xs i number x fault is within number_is sound faulty =
    let front : map f xs ≡ map f (take i xs) ++ map f (drop i xs) = sym (ap (map f) (take-append-drop i xs)) ∙ map-append f (take i xs) (drop i xs) in
    let count : length (map f (take i xs)) ≡ i = length-map (take i xs) f ∙ omega (arith, length-take i xs, within) in
    record {
      before = map f (take i xs);
      table = f x;
      behind = map f (drop (i + 1) xs);
      parts = front ∙ ap (λ ys. map f (take i xs) ++ ys) (next_of f xs i x is within);
      number_is = number_is ∙ ap (λ n. n + 1) (sym count);
      sound = sound;
      fault = fault;
      faulty = faulty;
    }
