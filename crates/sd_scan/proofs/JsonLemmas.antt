-- The pieces in which JSON is written, as they are said.
use Rattle.std.proofs.Common.{◌≡◌, ◌++◌, List, ℕ}
use Rattle.std.proofs.lemmas.List.{append_assoc}

pub five_said : (a v b s c : List ℕ) → a ++ (v ++ (b ++ (s ++ c))) ≡ a ++ v ++ b ++ s ++ c
five_said a v b s c = simp append_assoc

pub eleven_said : (a t b i c s d e d' z f : List ℕ) → a ++ (t ++ (b ++ (i ++ (c ++ (s ++ (d ++ (e ++ (d' ++ (z ++ f))))))))) ≡ a ++ t ++ b ++ i ++ c ++ s ++ d ++ e ++ d' ++ z ++ f
eleven_said a t b i c s d e d' z f = simp append_assoc
