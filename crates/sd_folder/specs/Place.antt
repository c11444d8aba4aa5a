-- Where a file of a folder lies.
use Rattle.std.specs.Prelude.{◌≡◌, ◌≢◌, ℕ, List, [], ◌∷◌, ◌++◌, All}

-- the folder that a text names: no text is the current folder, which is also named by a dot
abbrev pub folder_named : List ℕ → List ℕ
folder_named [] = 46 ∷ []
folder_named (c ∷ path) = c ∷ path

-- what can name a file in a folder: a text that isn't empty, has neither a slash nor a byte 0, and is not one of the
-- two names that lead out of a folder
abbrev pub IsFileName : List ℕ → Type 0
IsFileName name =
    (name ≢ []) × All (λ c. (c ≢ 47) × (c ≢ 0)) name × (name ≢ 46 ∷ []) × (name ≢ 46 ∷ 46 ∷ [])

-- the path is that of the file of this name in this folder
pub record IsFileIn (folder name path : List ℕ) : Type 0 where
  pub spelled : path ≡ folder ++ 47 ∷ name
  pub rule : IsFileName name
