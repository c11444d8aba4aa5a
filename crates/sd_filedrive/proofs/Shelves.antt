-- How calls of a folder, one after another, make one call of a device.
use Rattle.std.proofs.Common.{◌≡◌, ◌≢◌, ℕ, suc, ◌≤◌, ◌⊎◌, inl, inr, Bool, true, List, Option, Some, None, refl, ap, sym, ◌∙◌, subst, arith, IsTrue, option_map, length}
use Rattle.sd_driver.specs.Shelf.{Shelf, SameShelf, OtherShelf, Passes}
use Rattle.sd_driver.proofs.Names.{name_cases}
use Rattle.sd_folder.specs.Meaning.{FileState, FolderMeaning, IsHonest, Goes, SameFiles, shelf_of, held_of}
use Rattle.sd_folder.specs.Steps.{Takes, SyncsName, DataSynced, named_too}
use Rattle.sd_filedrive.specs.declared.files.Loaded.{Loaded}
use Rattle.sd_filedrive.specs.Known.{Looks, Knows}

-- honesty stays
pub honest_after : (old new : FolderMeaning) → Goes old new → IsHonest old → IsHonest new
honest_after old new goes h = let P : Bool → Type 0 = λ b. IsTrue b in subst P (sym goes.honest) h

-- the same files are the same shelf
pub SameShelf-files : (old new : FolderMeaning) → SameFiles old new → SameShelf (shelf_of old) (shelf_of new)
SameShelf-files old new same name = ap (option_map held_of) (same name)

-- two calls, of which at most one changes a volume
pub Passes-two : (a b c : Shelf) → Passes a b → Passes b c → SameShelf a b ⊎ SameShelf b c → Passes a c
Passes-two a b c first second once = record {
  moments = moments_of first.moments second.moments once;
  past = λ moment name le. second.past moment name (later moment le first.moments) ∙ first.past moment name le;
  now = second.now;
}
  where
    later : (moment : ℕ) → moment ≤ a.moment → (SameShelf a b × (b.moment ≡ a.moment)) ⊎ (OtherShelf a b × (b.moment ≡ suc a.moment)) → moment ≤ b.moment
    later moment le (inl s) = omega (arith, s.1)
    later moment le (inr o) = omega (arith, o.1)

    other_before : SameShelf a b → OtherShelf b c → OtherShelf a c
    other_before same o = (o.0, λ e. o.1 (e ∙ sym (same o.0)))

    other_after : SameShelf b c → OtherShelf a b → OtherShelf a c
    other_after same o = (o.0, λ e. o.1 (sym (same o.0) ∙ e))

    moments_of : (SameShelf a b × (b.moment ≡ a.moment)) ⊎ (OtherShelf a b × (b.moment ≡ suc a.moment))
        → (SameShelf b c × (c.moment ≡ b.moment)) ⊎ (OtherShelf b c × (c.moment ≡ suc b.moment))
        → SameShelf a b ⊎ SameShelf b c
        → (SameShelf a c × (c.moment ≡ a.moment)) ⊎ (OtherShelf a c × (c.moment ≡ suc a.moment))
    moments_of (inl s) (inl t) once = inl (λ name. t.0 name ∙ s.0 name, t.1 ∙ s.1)
    moments_of (inl s) (inr t) once = inr (other_before s.0 t.0, t.1 ∙ ap suc s.1)
    moments_of (inr s) (inl t) once = inr (other_after t.0 s.0, t.1 ∙ s.1)
    moments_of (inr s) (inr t) (inl same) = absurd (s.0.1 (same s.0.0))
    moments_of (inr s) (inr t) (inr same) = absurd (t.0.1 (same t.0.0))

-- a look, and then a call
pub Goes-looked : (a b c : FolderMeaning) → Looks a b → Goes b c → Goes a c
Goes-looked a b c looks goes = record {
  honest = goes.honest ∙ looks.goes.honest;
  passes = λ h. Passes-two _ _ _ (looks.goes.passes h) (goes.passes (honest_after a b looks.goes h)) (inl (SameShelf-files a b (looks.same h)));
}

pub Looks-two : (a b c : FolderMeaning) → Looks a b → Looks b c → Looks a c
Looks-two a b c first second = record {
  goes = Goes-looked a b c first second.goes;
  same = λ h name. second.same (honest_after a b first.goes h) name ∙ first.same h name;
}

-- what a step does after a look
pub Takes-looked : (step : FileState → FileState → Type 0) (name : List ℕ) (a b c : FolderMeaning) → SameFiles a b → Takes step name b c → Takes step name a c
Takes-looked step name a b c same takes = record {
  here = λ state is. takes.here state (same name ∙ is);
  others = λ other differs. takes.others other differs ∙ same other;
}

-- a file in a known state
state_at : (m : FolderMeaning) (name : List ℕ) → m.file name ≢ None → (state : FileState) × (m.file name ≡ Some state)
state_at m name there = of (m.file name) refl
  where
    of : (o : Option FileState) → m.file name ≡ o → (state : FileState) × (m.file name ≡ Some state)
    of None e = absurd (there e)
    of (Some state) e = (state, e)

-- one file is as it was, and so are all others
same_but : (a b : FolderMeaning) (name : List ℕ) → (shelf_of b).volume name ≡ (shelf_of a).volume name
    → ((other : List ℕ) → other ≢ name → b.file other ≡ a.file other) → SameShelf (shelf_of a) (shelf_of b)
same_but a b name here others other = elim (name_cases other name) [
  | inl e ↦ (let P : List ℕ → Type 0 = λ n. (shelf_of b).volume n ≡ (shelf_of a).volume n in subst P (sym e) here)
  | inr differs ↦ ap (option_map held_of) (others other differs)
]

pub Takes-under : (step : FileState → FileState → Type 0) (under name : List ℕ) (a b : FolderMeaning) → under ≡ name → Takes step under a b → Takes step name a b
Takes-under step under name a b same takes = let P : List ℕ → Type 0 = λ n. Takes step n a b in subst P same takes

-- what a step leaves of a file that was there
after_step : (step : FileState → FileState → Type 0) (name : List ℕ) (a b : FolderMeaning) → a.file name ≢ None → Takes step name a b
    → (t : FileState) → b.file name ≡ Some t → (s : FileState) × (a.file name ≡ Some s) × step s t
after_step step name a b there takes t is =
    let s = state_at a name there in
    let u = takes.here s.0 s.1 in
    let e : u.0 ≡ t = some_is (sym u.2 ∙ is) in
    (s.0, s.1, (let P : FileState → Type 0 = λ x. step s.0 x in subst P e u.1))
  where
    some_is : {x y : FileState} → Some x ≡ Some y → x ≡ y
    some_is e = cc

still_there : (step : FileState → FileState → Type 0) (name : List ℕ) (a b : FolderMeaning) → a.file name ≢ None → Takes step name a b → b.file name ≢ None
still_there step name a b there takes none =
    let s = state_at a name there in
    let u = takes.here s.0 s.1 in
    let e : Some u.0 ≡ None = sym u.2 ∙ none in
    cc

-- what a step of a sync keeps of a file
pub record Keeps (s t : FileState) : Type 0 where
  pub bytes : t.bytes ≡ s.bytes
  pub named : s.named ≡ true → t.named ≡ true
  pub written : s.written ≤ t.written

-- what is noted of the loaded volume stays right over such a step, by which it may be torn
pub Knows-after : {H : Type 0} (under : List ℕ) (l : Loaded H) (a b : FolderMeaning) (step : FileState → FileState → Type 0)
    → l.is_torn ≡ true → ((s t : FileState) → step s t → Keeps s t)
    → Takes step l.name a b → Knows under l a → Knows under l b
Knows-after under l a b step torn keeps takes knows = record {
  same = knows.same;
  there = still_there step l.name a b knows.there takes;
  end = λ end is t bt. (let s = after_step step l.name a b knows.there takes t bt in
      knows.end end is s.0 s.1 ∙ ap length (sym (keeps s.0 t s.2).bytes));
  named = λ is t bt. (let s = after_step step l.name a b knows.there takes t bt in (keeps s.0 t s.2).named (knows.named is s.0 s.1));
  synced = λ t bt. (let s = after_step step l.name a b knows.there takes t bt in
      let w = (keeps s.0 t s.2).written in
      omega (arith, w, knows.synced s.0 s.1));
  whole = λ e. (let both = sym torn ∙ e in cc);
}

-- and its name is noted after that was synced
pub Knows-named : {H : Type 0} (under : List ℕ) (l m : Loaded H) (a b : FolderMeaning)
    → m.name ≡ l.name → m.end ≡ l.end → m.synced ≡ l.synced → m.is_torn ≡ true
    → SyncsName l.name a b → Knows under l a → Knows under m b
Knows-named under l m a b name end synced torn takes knows = record {
  same = knows.same ∙ sym name;
  there = (let P : List ℕ → Type 0 = λ n. b.file n ≢ None in subst P (sym name) (still_there _ l.name a b knows.there takes));
  end = λ e is t bt. (let s = after_step _ l.name a b knows.there takes t (at_name t bt) in
      knows.end e (sym end ∙ is) s.0 s.1 ∙ sym (ap (λ (x : FileState). length x.bytes) s.2));
  named = λ is t bt. (let s = after_step _ l.name a b knows.there takes t (at_name t bt) in ap (λ (x : FileState). x.named) s.2);
  synced = λ t bt. (let s = after_step _ l.name a b knows.there takes t (at_name t bt) in
      omega (arith, synced, knows.synced s.0 s.1, ap (λ (x : FileState). x.written) s.2));
  whole = λ e. (let both = sym torn ∙ e in cc);
}
  where
    at_name : (t : FileState) → b.file m.name ≡ Some t → b.file l.name ≡ Some t
    at_name t bt = ap b.file (sym name) ∙ bt

pub DataSynced-keeps : (s t : FileState) → DataSynced s t → Keeps s t
DataSynced-keeps s t st = record { bytes = st.bytes; named = λ e. st.named ∙ e; written = st.more }

pub MaySyncName-keeps : (s t : FileState) → (t ≡ s) ⊎ (t ≡ named_too s) → Keeps s t
MaySyncName-keeps s t (inl e) = record {
  bytes = ap (λ (x : FileState). x.bytes) e;
  named = λ h. ap (λ (x : FileState). x.named) e ∙ h;
  written = omega (arith, ap (λ (x : FileState). x.written) e);
}
MaySyncName-keeps s t (inr e) = record {
  bytes = ap (λ (x : FileState). x.bytes) e;
  named = λ h. ap (λ (x : FileState). x.named) e;
  written = omega (arith, ap (λ (x : FileState). x.written) e);
}
