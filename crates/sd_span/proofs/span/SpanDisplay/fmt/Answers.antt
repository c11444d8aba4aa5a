use Rattle.std.proofs.Common.{◌≡◌, ◌++◌, List, ℕ, codes}
use Rattle.std.proofs.lemmas.List.{append_assoc}
use Rattle.std.proofs.Output.{has_written_of_eq}
use Rattle.sd_span.proofs.span.SpanDisplay.fmt.Goals as goal

-- the pieces as they are written and as the line is said
pieces_joined : (shown volume index first last start end : List ℕ) → shown ≡ volume
    → codes "span " ++ (shown ++ (codes " " ++ (index ++ (codes " " ++ (first ++ (codes " " ++ (last ++ (codes " " ++ (start ++ (codes " " ++ end))))))))))
    ≡ codes "span " ++ volume ++ codes " " ++ index ++ codes " " ++ first ++ codes " " ++ last ++ codes " " ++ start ++ codes " " ++ end
pieces_joined shown volume index first last start end same = rw same (simp append_assoc)

pub returns-clause-writes : goal.returns-clause-writes
returns-clause-writes g c = λ plain ok.
    has_written_of_eq _ _ _ _ _ (pieces_joined _ _ _ _ _ _ _ c.as_str-volume.ensures.spelled) (c.write.ensures.writes plain ok)
