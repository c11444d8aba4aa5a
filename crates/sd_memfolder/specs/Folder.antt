-- What a folder in memory is.
use Rattle.std.specs.Prelude.{◌≡◌, ℕ, ◌≤◌, true, false, Bool, if◌then◌else◌, List, [], ◌∷◌, length, map, Some, option_map, refl}
use Rattle.std.specs.Str.{bytes_eq}
use Rattle.std.proofs.Common.{ap, ◌∙◌, subst}
use Rattle.sd_driver.specs.Shelf.{stable_bytes}
use Rattle.sd_folder.specs.Meaning.{FileState, FolderMeaning, shelf_of, held_of}
use Rattle.sd_memfolder.specs.Files.{NamedFile, file_of, left_of, left_at, left_bytes, AllWithin}
use Rattle.sd_memfolder.specs.declared.files.Files.{Files}
use Rattle.sd_memfolder.specs.declared.left.Left.{Left}

-- files, and what was noted of the past, as a folder: it is honest
abbrev pub folder_of : List NamedFile → List (List Left) → FolderMeaning
folder_of files past = record {
  honest = true;
  file = file_of files;
  moment = length past;
  kept = λ moment name. left_bytes (left_at files past moment) name;
}

-- the files that a folder in memory keeps, as a folder
abbrev pub files_folder : Files → FolderMeaning
files_folder files = folder_of files.files.items files.past.items

-- what a stop now leaves of a name is what the disk has of its file
pub left_now : (files : List NamedFile) (past : List (List Left)) (name : List ℕ)
    → (folder_of files past).kept (length past) name ≡ stable_bytes ((shelf_of (folder_of files past)).volume name)
left_now files past name = ap (λ left. left_bytes left name) (at_end past) ∙ by_files files
  where
    at_end : (past : List (List Left)) → left_at files past (length past) ≡ map left_of files
    at_end [] = refl
    at_end (p ∷ past) = at_end past

    by_files : (files : List NamedFile) → left_bytes (map left_of files) name ≡ stable_bytes (option_map held_of (file_of files name))
    by_files [] = refl
    by_files (f ∷ fs) = by_name (bytes_eq f.name name) (by_files fs)
      where
        by_name : (b : Bool) → left_bytes (map left_of fs) name ≡ stable_bytes (option_map held_of (file_of fs name))
            → (if b then (left_of f).bytes else left_bytes (map left_of fs) name) ≡ stable_bytes (option_map held_of (if b then Some f.state else file_of fs name))
        by_name true rest = refl
        by_name false rest = rest

-- the disk has no more of a file than was written
pub within_of : (files : List NamedFile) (name : List ℕ) (state : FileState) → AllWithin files → file_of files name ≡ Some state → state.written ≤ length state.bytes
within_of [] name state all is = cc
within_of (f ∷ fs) name state all is = by_name (bytes_eq f.name name) (λ h. within_of fs name state all.1 h) is
  where
    some_state : {x y : FileState} → Some x ≡ Some y → x ≡ y
    some_state e = cc

    by_name : (b : Bool) → (file_of fs name ≡ Some state → state.written ≤ length state.bytes)
        → (if b then Some f.state else file_of fs name) ≡ Some state → state.written ≤ length state.bytes
    by_name true rest h = (let P : FileState → Type 0 = λ s. s.written ≤ length s.bytes in subst P (some_state h) all.0)
    by_name false rest h = rest h
