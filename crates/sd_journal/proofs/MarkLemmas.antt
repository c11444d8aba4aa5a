-- What is kept of sessions, after a call on a volume.
use Rattle.std.proofs.Common.{◌≡◌, ℕ, Bool, true, false, cond, List, [], ◌∷◌, map, refl, ap, ap₂, sym, ◌∙◌, arith}
use Rattle.std.specs.Prelude.{◌==◌, ◌||◌, ◌&&◌, Option, None, Some}
use Rattle.std.proofs.lemmas.Bool.{cond-true, cond-false}
use Rattle.sd_journal.specs.declared.lying.Lying.{Lying}
use Rattle.sd_journal.specs.declared.mark.Mark.{Mark}
use Rattle.sd_journal.specs.declared.mark.Mark.TheVariants.{Unsynced, Synced, Lost, Purged}
use Rattle.sd_journal.specs.declared.stretch.Stretch.{Stretch}
use Rattle.sd_journal.specs.Share.{with_marks}
use Rattle.sd_journal.specs.ShareView.{ShareView}
use Rattle.sd_journal.specs.Stretch.{with_mark, marked_at}
use Rattle.sd_journal.proofs.CountLemmas.{marked_volume}

-- what no place of a list has
abbrev pub nowhere : Lying
nowhere = record { volume = 0; key = record { time = 0; id = 0 } }

-- a stretch by its counts
stretch_with : Stretch → ℕ → ℕ → ℕ → Stretch
stretch_with s unsynced synced lost = record s { unsynced = unsynced; synced = synced; lost = lost }

mark_again : (mark : Mark) (s : Stretch) → with_mark mark (with_mark mark s) ≡ with_mark mark s
unfolding stretch_with
mark_again Unsynced s = refl
mark_again Synced s = ap (λ n. stretch_with s 0 n s.lost) (omega arith)
mark_again Lost s = ap (λ n. stretch_with s 0 s.synced n) (omega arith)
mark_again Purged s = refl

one_again : (mark : Mark) (volume : ℕ) (s : Stretch) → marked_at mark volume (marked_at mark volume s) ≡ marked_at mark volume s
one_again mark volume s = from (volume == s.volume) refl
  where
    from : (b : Bool) → (volume == s.volume) ≡ b → marked_at mark volume (marked_at mark volume s) ≡ marked_at mark volume s
    from true is =
        let here = cond-true (volume == s.volume) (with_mark mark s) s is in
        cond-true (volume == (marked_at mark volume s).volume) (with_mark mark (marked_at mark volume s)) (marked_at mark volume s) (ap (λ v. volume == v) (marked_volume mark volume s) ∙ is)
        ∙ ap (with_mark mark) here ∙ mark_again mark s ∙ sym here
    from false is =
        cond-false (volume == (marked_at mark volume s).volume) (with_mark mark (marked_at mark volume s)) (marked_at mark volume s) (ap (λ v. volume == v) (marked_volume mark volume s) ∙ is)

all_again : (mark : Mark) (volume : ℕ) (ss : List Stretch) → map (marked_at mark volume) (map (marked_at mark volume) ss) ≡ map (marked_at mark volume) ss
all_again mark volume [] = refl
all_again mark volume (s ∷ ss) = ap₂ (λ t ts. t ∷ ts) (one_again mark volume s) (all_again mark volume ss)

marks_again : (mark : Mark) (volume : ℕ) (o : Option ShareView) → with_marks mark volume (with_marks mark volume o) ≡ with_marks mark volume o
marks_again mark volume None = refl
marks_again mark volume (Some s) = ap (λ ss. Some (record s { stretches = ss })) (all_again mark volume s.stretches)

-- what a call leaves that looks at a session once more
pub marked_again : (mark : Mark) (volume : ℕ) (before here : Bool) (was now : Option ShareView) → now ≡ cond before (with_marks mark volume was) was
    → cond here (with_marks mark volume now) now ≡ cond (before || here) (with_marks mark volume was) was
marked_again mark volume true true was now is = ap (with_marks mark volume) is ∙ marks_again mark volume was
marked_again mark volume true false was now is = is
marked_again mark volume false true was now is = ap (with_marks mark volume) is
marked_again mark volume false false was now is = is

pub step_other : (before here own : Bool) → here ≡ false → (before || (here && own)) ≡ before
step_other true here own off = refl
step_other false here own off = ap (λ b. b && own) off
