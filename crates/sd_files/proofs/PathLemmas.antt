-- A text split at its last slash.
use Rattle.std.proofs.Common.{◌≡◌, ℕ, List, ◌∷◌, ◌++◌, take, drop, sym, ap, subst, ◌∙◌, arith}
use Rattle.std.proofs.lemmas.List.{take-append-drop}
use Rattle.std.proofs.lemmas.Str.Pattern.{drop_at_char}
use Rattle.std.specs.Str.Pattern.{RFindsChar, SplitsAroundMatch}
use Rattle.sd_files.specs.Path.{HasNoSlash}

pub at_slash : (path front name : List ℕ) → SplitsAroundMatch (RFindsChar 47) path front name → HasNoSlash name × (path ≡ front ++ 47 ∷ name)
at_slash path front name s =
    let i = s.0 in
    let j = s.1 in (
      subst HasNoSlash (sym s.4) s.2.0,
      sym (take-append-drop i path) ∙ ap (λ l. take i path ++ l) (drop_at_char 47 path i j s.2.1 (omega arith)) ∙ ap (λ l. l ++ 47 ∷ drop j path) (sym s.3) ∙ ap (λ l. front ++ 47 ∷ l) (sym s.4),
    )
