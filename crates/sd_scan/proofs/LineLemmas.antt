-- The line of a session, by the pieces that it is written in.
use Rattle.std.proofs.Common.{◌≡◌, ◌++◌, ◌∙◌, ap, ap₂, sym, List, ℕ, codes}
use Rattle.std.specs.Prelude.{Option, Some, None}
use Rattle.std.specs.Fmt.{decimal}
use Rattle.std.proofs.lemmas.List.{append_assoc}
use Rattle.sd_scan.specs.declared.report.Start.{Start}
use Rattle.sd_scan.specs.Lines.{found_text, start_text}
use Rattle.sd_scan.specs.Words.{end_word, moment_text, shown_moment}
use Rattle.sd_scan.specs.declared.moment.Moment.{Moment}
use Rattle.sd_scan.specs.declared.line.Found.{Found}

-- the pieces as they are written and as the line is said
joined : (a t b i c j d p e n r s u v w m : List ℕ)
    → (a ++ (t ++ (b ++ (i ++ (c ++ (j ++ (d ++ (p ++ (e ++ (n ++ (r ++ s))))))))))) ++ (u ++ (v ++ (w ++ m)))
    ≡ (a ++ t ++ b ++ i) ++ (c ++ j ++ d ++ p) ++ e ++ n ++ r ++ s ++ u ++ v ++ w ++ m
joined a t b i c j d p e n r s u v w m = simp append_assoc

joined_none : (a t b i c e n r s u v w m : List ℕ)
    → a ++ (t ++ (b ++ (i ++ ((c ++ e) ++ (n ++ (r ++ (s ++ (u ++ (v ++ (w ++ m))))))))))
    ≡ (a ++ t ++ b ++ i) ++ c ++ e ++ n ++ r ++ s ++ u ++ v ++ w ++ m
joined_none a t b i c e n r s u v w m = simp append_assoc

start_said : (a : Option Start) (start : Start) (job : ℕ) (pool : List ℕ) → a ≡ Some start → job ≡ start.job → pool ≡ start.pool
    → codes " job " ++ decimal job ++ codes " pool " ++ pool ≡ start_text a
start_said a start job pool is job_is pool_is =
    ap₂ (λ (j : ℕ) (p : List ℕ). codes " job " ++ decimal j ++ codes " pool " ++ p) job_is pool_is ∙ ap start_text (sym is)

-- with the job and the pool
pub line_said : (f : Found) (start : Start) (job : ℕ) (pool end : List ℕ) (m : Moment) → f.start ≡ Some start → job ≡ start.job → pool ≡ start.pool → end ≡ end_word f.ended → m ≡ shown_moment f.start
    → (codes "session " ++ (decimal f.key.time ++ (codes " " ++ (decimal f.key.id ++ (codes " job " ++ (decimal job ++ (codes " pool " ++ (pool ++ (codes " " ++ (end ++ (codes " records " ++ decimal f.records)))))))))))
    ++ (codes " bytes " ++ (decimal f.bytes ++ (codes " at " ++ moment_text m)))
    ≡ found_text f
line_said f start job pool end m is job_is pool_is end_is m_is =
    joined (codes "session ") (decimal f.key.time) (codes " ") (decimal f.key.id) (codes " job ") (decimal job) (codes " pool ") pool (codes " ") end (codes " records ") (decimal f.records) (codes " bytes ") (decimal f.bytes) (codes " at ") (moment_text m)
    ∙ ap₂
    (λ (x y : List ℕ). (codes "session " ++ decimal f.key.time ++ codes " " ++ decimal f.key.id) ++ x ++ codes " " ++ y ++ codes " records " ++ decimal f.records ++ codes " bytes " ++ decimal f.bytes ++ codes " at " ++ moment_text m)
    (start_said f.start start job pool is job_is pool_is) end_is
    ∙ ap
    (λ (x : Moment). (codes "session " ++ decimal f.key.time ++ codes " " ++ decimal f.key.id) ++ start_text f.start ++ codes " " ++ end_word f.ended ++ codes " records " ++ decimal f.records ++ codes " bytes " ++ decimal f.bytes ++ codes " at " ++ moment_text x)
    m_is

-- without them
pub line_said_none : (f : Found) (end : List ℕ) (m : Moment) → f.start ≡ None → end ≡ end_word f.ended → m ≡ shown_moment f.start
    → codes "session " ++ (decimal f.key.time ++ (codes " " ++ (decimal f.key.id ++ (codes " job 0 pool - " ++ (end ++ (codes " records " ++ (decimal f.records ++ (codes " bytes " ++ (decimal f.bytes ++ (codes " at " ++ moment_text m))))))))))
    ≡ found_text f
line_said_none f end m is end_is m_is =
    joined_none (codes "session ") (decimal f.key.time) (codes " ") (decimal f.key.id) (codes " job 0 pool -") (codes " ") end (codes " records ") (decimal f.records) (codes " bytes ") (decimal f.bytes) (codes " at ") (moment_text m)
    ∙ ap₂
    (λ (x y : List ℕ). (codes "session " ++ decimal f.key.time ++ codes " " ++ decimal f.key.id) ++ x ++ codes " " ++ y ++ codes " records " ++ decimal f.records ++ codes " bytes " ++ decimal f.bytes ++ codes " at " ++ moment_text m)
    (ap start_text (sym is)) end_is
    ∙ ap
    (λ (x : Moment). (codes "session " ++ decimal f.key.time ++ codes " " ++ decimal f.key.id) ++ start_text f.start ++ codes " " ++ end_word f.ended ++ codes " records " ++ decimal f.records ++ codes " bytes " ++ decimal f.bytes ++ codes " at " ++ moment_text x)
    m_is
