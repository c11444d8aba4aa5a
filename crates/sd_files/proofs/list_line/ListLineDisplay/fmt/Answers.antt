use Rattle.std.proofs.Common.{◌≡◌, ◌++◌, ◌∙◌, ap, sym, List, ℕ, codes}
use Rattle.std.proofs.lemmas.List.{append_assoc}
use Rattle.std.proofs.Output.{has_written_of_eq}
use Rattle.sd_files.specs.Listing.{line_text}
use Rattle.sd_files.proofs.list_line.ListLineDisplay.fmt.Goals as goal

-- the pieces as they are written and as the line is said
pieces_joined : (number start size time id : List ℕ)
    → codes "block " ++ (number ++ (codes " " ++ (start ++ (codes " " ++ (size ++ (codes " " ++ (time ++ (codes " " ++ id))))))))
    ≡ codes "block " ++ number ++ codes " " ++ start ++ codes " " ++ size ++ codes " " ++ time ++ codes " " ++ id
pieces_joined number start size time id = simp append_assoc

pub returns-in-Block-clause-writes : goal.returns-in-Block-clause-writes
returns-in-Block-clause-writes g c = λ plain ok.
    has_written_of_eq _ _ _ _ _ (pieces_joined _ _ _ _ _ ∙ ap line_text (sym c.in-Block.is)) (c.write-in-Block.ensures.writes plain ok)
