-- The folder and the name in a path.
use Rattle.std.specs.Prelude.{◌≡◌, ◌==◌, ◌⊎◌, ℕ, List, [], ◌∷◌, ◌++◌}
use Rattle.std.specs.Str.{NoCharPasses}

-- no character of it is a slash
abbrev pub HasNoSlash : List ℕ → Type 0
HasNoSlash text = NoCharPasses (λ c. c == 47) text

-- the folder before the last slash; if that begins the path, it is the slash alone
abbrev pub folder_before : List ℕ → List ℕ
folder_before [] = 47 ∷ []
folder_before (c ∷ front) = c ∷ front

-- The name has no slash. Before it comes nothing, and the folder is the current one, `.`; or some text and a slash.
abbrev pub IsPlaceOf : List ℕ → List ℕ → List ℕ → Type 0
IsPlaceOf path folder name =
    HasNoSlash name
    × (((path ≡ name) × (folder ≡ 46 ∷ []))
    ⊎ ((front : List ℕ) × (path ≡ front ++ 47 ∷ name) × (folder ≡ folder_before front)))
