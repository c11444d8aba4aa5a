-- A volume is judged in one way only.
use Rattle.std.proofs.Common.{◌≡◌, ℕ, List, ◌++◌, length, drop, ap, sym, ◌∙◌, subst, arith, inl, inr, refl}
use Rattle.std.proofs.lemmas.List.{take-append-drop}
use Rattle.sd_base.proofs.ChoiceLemmas.{same_some}
use Rattle.sd_driver.specs.Shelf.{BeginsWith}
use Rattle.sd_judge.specs.Alone.{HasOwnBehind, IsBrokenAt, IsUnbroken, JudgesAlone}
use Rattle.sd_judge.specs.Judge.{Judges, JudgesLabelled, JudgesUnlabelled}
use Rattle.sd_judge.specs.Noted.{HoldsNoted, IsDamagedBy, JudgesNoted}
use Rattle.sd_judge.specs.declared.volume.Judgement.{Judgement}
use Rattle.sd_judge.specs.declared.volume.Judgement.TheVariants as judgement
use Rattle.sd_judge.proofs.RunLemmas.{one_end, one_next}
use Rattle.sd_label.specs.declared.label.VolumeLabel.{VolumeLabel}
use Rattle.sd_note.specs.declared.note.Note.{Note}
use Rattle.sd_notes.specs.declared.reading.NoteRead.{NoteRead}
use Rattle.sd_notes.specs.declared.reading.NoteRead.TheVariants as read
use Rattle.sd_volume.specs.Adopt.{IsVolumeOf}
use Rattle.sd_volume.specs.Image.{label_block}
use Rattle.sd_volume.proofs.ImageLemmas.{one_label}

-- By a note.

sound_or_damaged : (bytes : List ℕ) (note : Note) (at : ℕ) → HoldsNoted bytes note → IsDamagedBy bytes note at → ⊥
sound_or_damaged bytes note at holds damaged = elim damaged [
  | inl short ↦ omega (arith, short.0, holds.long)
  | inr other ↦ elim other [
    | inl last ↦ last.1 holds.last
    | inr torn ↦ holds.untorn at torn.2
  ]
]

one_place : (bytes : List ℕ) (note : Note) (at place : ℕ) → IsDamagedBy bytes note at → IsDamagedBy bytes note place → at ≡ place
one_place bytes note at place (inl a) (inl b) = a.1 ∙ sym b.1
one_place bytes note at place (inl a) (inr (inl b)) = absurd (omega (arith, a.0, b.0))
one_place bytes note at place (inl a) (inr (inr b)) = absurd (omega (arith, a.0, b.0))
one_place bytes note at place (inr (inl a)) (inl b) = absurd (omega (arith, a.0, b.0))
one_place bytes note at place (inr (inl a)) (inr (inl b)) = a.2 ∙ sym b.2
one_place bytes note at place (inr (inl a)) (inr (inr b)) = absurd (a.1 b.1)
one_place bytes note at place (inr (inr a)) (inl b) = absurd (omega (arith, a.0, b.0))
one_place bytes note at place (inr (inr a)) (inr (inl b)) = absurd (b.1 a.1)
one_place bytes note at place (inr (inr a)) (inr (inr b)) = same_some (sym a.2.torn ∙ b.2.torn)

one_noted : (bytes : List ℕ) (note : Note) (a b : Judgement) → JudgesNoted bytes note a → JudgesNoted bytes note b → a ≡ b
one_noted bytes note (judgement.Noted x) (judgement.Noted y) p q = ap judgement.Noted (p.0 ∙ sym q.0)
one_noted bytes note (judgement.Noted x) (judgement.Damaged at) p q = absurd (sound_or_damaged bytes note at p.1 q)
one_noted bytes note (judgement.Damaged at) (judgement.Noted y) p q = absurd (sound_or_damaged bytes note at q.1 p)
one_noted bytes note (judgement.Damaged at) (judgement.Damaged place) p q = ap judgement.Damaged (one_place bytes note at place p q)
one_noted bytes note judgement.Whole b p q = absurd p
one_noted bytes note judgement.NotOurs b p q = absurd p
one_noted bytes note judgement.NotThere b p q = absurd p
one_noted bytes note a judgement.Whole p q = absurd q
one_noted bytes note a judgement.NotOurs p q = absurd q
one_noted bytes note a judgement.NotThere p q = absurd q

-- By its own bytes.

unbroken_or_broken : (bytes : List ℕ) (first at : ℕ) → IsUnbroken bytes first → IsBrokenAt bytes first at → ⊥
unbroken_or_broken bytes first at p q =
    let end : at ≡ p.end = omega (arith, one_end bytes first 1 p.end p.next at q.next p.run q.run, one_end bytes first 1 at q.next p.end p.next q.run p.run) in
    let next : q.next ≡ p.next = omega (arith, one_next bytes first 1 p.end p.next at q.next p.run q.run, one_next bytes first 1 at q.next p.end p.next q.run p.run) in
    let P : ℕ → Type 0 = λ n. HasOwnBehind bytes n q.next in
    let Q : ℕ → Type 0 = λ n. HasOwnBehind bytes p.end n in
    p.none (subst Q next (subst P end q.own))

one_alone : (bytes : List ℕ) (first : ℕ) (a b : Judgement) → JudgesAlone bytes first a → JudgesAlone bytes first b → a ≡ b
one_alone bytes first judgement.Whole judgement.Whole p q = refl
one_alone bytes first judgement.Whole (judgement.Damaged at) p q = absurd (unbroken_or_broken bytes first at p q)
one_alone bytes first (judgement.Damaged at) judgement.Whole p q = absurd (unbroken_or_broken bytes first at q p)
one_alone bytes first (judgement.Damaged at) (judgement.Damaged place) p q =
    ap judgement.Damaged (omega (arith, one_end bytes first 1 at p.next place q.next p.run q.run, one_end bytes first 1 place q.next at p.next q.run p.run))
one_alone bytes first (judgement.Noted note) b p q = absurd p
one_alone bytes first judgement.NotOurs b p q = absurd p
one_alone bytes first judgement.NotThere b p q = absurd p
one_alone bytes first a (judgement.Noted note) p q = absurd q
one_alone bytes first a judgement.NotOurs p q = absurd q
one_alone bytes first a judgement.NotThere p q = absurd q

-- Without a label, and with one.

one_unlabelled : (note_read : NoteRead) (a b : Judgement) → JudgesUnlabelled note_read a → JudgesUnlabelled note_read b → a ≡ b
one_unlabelled note_read (judgement.Damaged at) (judgement.Damaged place) p q = ap judgement.Damaged (p.1 ∙ sym q.1)
one_unlabelled note_read (judgement.Damaged at) judgement.NotOurs p q = absurd (q p.0.0 p.0.1)
one_unlabelled note_read judgement.NotOurs (judgement.Damaged at) p q = absurd (p q.0.0 q.0.1)
one_unlabelled note_read judgement.NotOurs judgement.NotOurs p q = refl
one_unlabelled note_read judgement.Whole b p q = absurd p
one_unlabelled note_read (judgement.Noted note) b p q = absurd p
one_unlabelled note_read judgement.NotThere b p q = absurd p
one_unlabelled note_read a judgement.Whole p q = absurd q
one_unlabelled note_read a (judgement.Noted note) p q = absurd q
one_unlabelled note_read a judgement.NotThere p q = absurd q

one_read : {a b : Note} → ◌≡◌ {A = NoteRead} (read.Note a) (read.Note b) → a ≡ b
one_read e = cc

one_labelled : (note_read : NoteRead) (bytes : List ℕ) (label : VolumeLabel) (a b : Judgement) → JudgesLabelled note_read bytes label a → JudgesLabelled note_read bytes label b → a ≡ b
one_labelled note_read bytes label a b (inl p) (inl q) =
    let same : q.0 ≡ p.0 = one_read (sym q.1.is ∙ p.1.is) in
    one_noted bytes p.0 a b p.2 (subst (λ note. JudgesNoted bytes note b) same q.2)
one_labelled note_read bytes label a b (inl p) (inr q) = absurd (q.0 p.0 p.1)
one_labelled note_read bytes label a b (inr p) (inl q) = absurd (p.0 q.0 q.1)
one_labelled note_read bytes label a b (inr p) (inr q) = one_alone bytes _ a b p.1 q.1

-- bytes begin with one label
label_of : (name bytes : List ℕ) (label other : VolumeLabel) → IsVolumeOf name bytes label → IsVolumeOf name bytes other → label ≡ other
label_of name bytes label other is is' =
    let split : (l : VolumeLabel) → BeginsWith bytes (label_block l) → label_block l ++ drop (length (label_block l)) bytes ≡ bytes =
    λ l begins. ap (λ (front : List ℕ). front ++ drop (length (label_block l)) bytes) (sym begins) ∙ take-append-drop (length (label_block l)) bytes in
    (one_label label other _ _ is.label_is is'.label_is (split label is.begins ∙ sym (split other is'.begins))).0

pub one_judgement : (name : List ℕ) (note_read : NoteRead) (bytes : List ℕ) (a b : Judgement) → Judges name note_read bytes a → Judges name note_read bytes b → a ≡ b
one_judgement name note_read bytes a b (inl p) (inl q) =
    let same : q.0 ≡ p.0 = label_of name bytes q.0 p.0 q.1 p.1 in
    one_labelled note_read bytes p.0 a b p.2 (subst (λ label. JudgesLabelled note_read bytes label b) same q.2)
one_judgement name note_read bytes a b (inl p) (inr q) = absurd (q.0 p.0 p.1)
one_judgement name note_read bytes a b (inr p) (inl q) = absurd (p.0 q.0 q.1)
one_judgement name note_read bytes a b (inr p) (inr q) = one_unlabelled note_read a b p.1 q.1
