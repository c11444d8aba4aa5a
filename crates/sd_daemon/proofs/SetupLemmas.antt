-- Devices and spools, one after another.
use Rattle.std.proofs.Common.{◌≡◌, ◌≢◌, ℕ, suc, ◌++◌, ◌∷◌, [], List, map, codes, refl, sym, ap, subst, ◌∙◌}
use Rattle.std.specs.List.{AllZip}
use Rattle.std.proofs.lemmas.List.{map-append}
use Rattle.sd_base.proofs.ZipLemmas.{zip_push}
use Rattle.sd_folder.specs.Place.{folder_named}
use Rattle.sd_folder.specs.declared.folder.Folder.{Ghosts}
use Rattle.sd_folder.specs.declared.system.SystemFile.{SystemFile}
use Rattle.sd_folder.specs.declared.system.SystemFolder.{SystemFolder}
use Rattle.sd_spool.specs.FileSpool.{path_of}
use Rattle.sd_spool.specs.declared.file.FolderSpool.{FolderSpool}
use Rattle.sd_daemon.specs.Setup.{lane_path, lane_paths}

-- what is so of two lists is so with one more of each
pub zip_more : {A B : Type 0} (R : A → B → Type 0) (xs front : List A) (x : A) (ys all : List B) (y : B) → xs ≡ front ++ x ∷ [] → all ≡ ys ++ y ∷ []
    → AllZip R front ys → R x y → AllZip R xs all
zip_more R xs front x ys all y xs_are all_are h r =
    subst (λ l. AllZip R l all) (sym xs_are) (subst (λ l. AllZip R (front ++ x ∷ []) l) (sym all_are) (zip_push R front ys x y h r))

-- the path of a spool, if the folder is named and if it is not
pub path_is : (folder path file : List ℕ) → (folder ≢ [] → path ≡ folder ++ file) → (folder ≡ [] → path ≡ codes "." ++ file) → path ≡ folder_named folder ++ file
path_is [] path file there here = here refl
path_is (c ∷ cs) path file there here = there (λ e. absurd (let clash = e in cc))

-- the spool of one lane more
pub paths_more : {R F D : Type 0} {g : Ghosts (SystemFolder R F D) (SystemFile F)} (folder : List ℕ) (drive lanes before : ℕ)
    → (spools all : List (FolderSpool (SystemFolder R F D) (SystemFile F) g)) (spool : FolderSpool (SystemFolder R F D) (SystemFile F) g)
    → lanes ≡ suc before → all ≡ spools ++ spool ∷ [] → map path_of spools ≡ lane_paths folder drive before → path_of spool ≡ lane_path folder drive lanes
    → map path_of all ≡ lane_paths folder drive lanes
paths_more folder drive lanes before spools all spool lanes_are all_are paths path =
    ap (map path_of) all_are
    ∙ map-append path_of spools (spool ∷ [])
    ∙ ap (λ l. l ++ path_of spool ∷ []) paths
    ∙ ap (λ p. lane_paths folder drive before ++ p ∷ []) (path ∙ ap (lane_path folder drive) lanes_are)
    ∙ sym (ap (lane_paths folder drive) lanes_are)
