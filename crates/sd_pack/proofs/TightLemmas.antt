-- Fragments in bodies: one more in the last body, or in a new one after it.
use Rattle.std.proofs.Common.{◌≡◌, ◌≢◌, ℕ, ◌+◌, ◌≤◌, refl, sym, ap, subst, ◌∙◌, arith, inl, inr, List, [], ◌∷◌, ◌++◌, drop, length}
use Rattle.std.specs.Prelude.{ℤ, pos, neg_ℤ}
use Rattle.std.proofs.lemmas.List.{append_assoc, append-nil, length-append}
use Rattle.std.proofs.lemmas.Grind.{flat_map-append}
use Rattle.sd_base.specs.Record.{Record}
use Rattle.sd_record.specs.Fragment.{Fragment, fragment_bytes, fragments_bytes, IsFragment, GoesOn, FitTogether, BeginsData, Continue, Fragments, FragmentsOfAll}
use Rattle.sd_label.specs.declared.label.SessionLabel.{SessionLabel}
use Rattle.sd_label.specs.Label.{session_label_fragment}
use Rattle.sd_label.specs.Cutting.{Between, IsSession, AreBodies, joined, LastGoesOn, BeginsWithLongLabel, IsFilled, AreTight}
use Rattle.sd_label.proofs.CuttingLemmas.{AreBodies-append}
use Rattle.sd_pack.proofs.BodyLemmas.{fragments_bytes-push}

-- Fragments of which the last does not go on.

abbrev pub AreWhole : List Fragment → Type 0
AreWhole fs = LastGoesOn fs → ⊥

LastGoesOn-append : (xs ys : List Fragment) → LastGoesOn ys → LastGoesOn (xs ++ ys)
LastGoesOn-append [] ys more = more
LastGoesOn-append (x ∷ []) [] more = absurd more
LastGoesOn-append (x ∷ []) (y ∷ ys) more = more
LastGoesOn-append (x ∷ z ∷ xs) ys more = LastGoesOn-append (z ∷ xs) ys more

pub LastGoesOn-back : (xs : List Fragment) (y : Fragment) (ys : List Fragment) → LastGoesOn (xs ++ y ∷ ys) → LastGoesOn (y ∷ ys)
LastGoesOn-back [] y ys more = more
LastGoesOn-back (x ∷ []) y ys more = more
LastGoesOn-back (x ∷ z ∷ xs) y ys more = LastGoesOn-back (z ∷ xs) y ys more

pub LastGoesOn-push : (xs : List Fragment) (f : Fragment) → GoesOn f → LastGoesOn (xs ++ f ∷ [])
LastGoesOn-push xs f more = LastGoesOn-append xs (f ∷ []) more

AreWhole-append : (xs ys : List Fragment) → AreWhole xs → AreWhole ys → AreWhole (xs ++ ys)
AreWhole-append xs [] whole whole' = λ more. whole (subst LastGoesOn (append-nil xs) more)
AreWhole-append xs (y ∷ ys) whole whole' = λ more. whole' (LastGoesOn-back xs y ys more)

-- if no fragment continues a record's data, none of them remain
continue_whole : (f : Fragment) (index stream negated : ℤ) (left : List ℕ) (fs : List Fragment) → BeginsData f index negated left
    → Continue index stream (drop (length f.part) left) fs → AreWhole (f ∷ fs)
continue_whole f index stream negated left [] begins c = λ more.
    let size = begins.size_is in
    let none : length (drop (length f.part) left) ≡ 0 = ap length c in
    let long = ap length begins.part_first ∙ length-append f.part (drop (length f.part) left) in
    omega arith
continue_whole f index stream negated left (g ∷ fs) begins c =
    continue_whole g index stream (neg_ℤ stream) (drop (length f.part) left) fs c.0 c.2

record_whole : (r : Record) (fs : List Fragment) → Fragments r fs → AreWhole fs
record_whole r [] c = λ more. more
record_whole r (f ∷ fs) c = continue_whole f (pos r.index) (pos r.stream) (pos r.stream) r.bytes fs c.0 c.1

records_whole : (rs : List Record) (fs : List Fragment) → FragmentsOfAll rs fs → AreWhole fs
records_whole [] fs c = λ more. subst LastGoesOn c more
records_whole (r ∷ rs) fs c = λ more.
    AreWhole-append c.0 c.1 (record_whole r c.0 c.3) (records_whole rs c.1 c.4) (subst LastGoesOn c.2 more)

label_whole : (label : SessionLabel) → AreWhole (session_label_fragment label ∷ [])
label_whole label = λ more. omega arith

session_whole : (fs : List Fragment) (rs : List Record) → IsSession fs rs Between → AreWhole fs
session_whole fs rs s = λ more.
    AreWhole-append (session_label_fragment s.start ∷ []) (s.parts ++ s.behind) (label_whole s.start)
    (AreWhole-append s.parts s.behind (records_whole rs s.parts s.parts_are) (λ on. subst LastGoesOn s.behind_is on))
    (subst LastGoesOn s.order more)

-- between two records the last body's last fragment does not go on
pub last_whole : (front : List (List Fragment)) (last : List Fragment) (rs : List Record) → IsSession (joined (front ++ last ∷ [])) rs Between → AreWhole last
last_whole front last rs s = λ more.
    session_whole (joined (front ++ last ∷ [])) rs s
    (subst LastGoesOn (sym (flat_map-append (λ l. l) front (last ∷ []) ∙ ap (λ l. joined front ++ l) (append-nil last))) (LastGoesOn-append (joined front) last more))

-- One fragment more.

push_some : {X : Type 0} (xs : List X) (x : X) → xs ++ x ∷ [] ≢ []
push_some [] x = λ none. cc none
push_some (y ∷ xs) x = λ none. cc none

FitTogether-push : (fs : List Fragment) (f : Fragment) → FitTogether fs → AreWhole fs → IsFragment f → FitTogether (fs ++ f ∷ [])
FitTogether-push [] f fit whole is = (is, (λ more. refl), tt)
FitTogether-push (g ∷ []) f fit whole is = (fit.0, (λ more. absurd (whole more)), (is, (λ more. refl), tt))
FitTogether-push (g ∷ h ∷ fs) f fit whole is = (fit.0, (λ more. absurd (cc (fit.1 more))), FitTogether-push (h ∷ fs) f fit.2 whole is)

AreBodies-last : (front : List (List Fragment)) (last : List Fragment) (f : Fragment) → AreBodies (front ++ last ∷ []) → AreWhole last → IsFragment f
    → AreBodies (front ++ (last ++ f ∷ []) ∷ [])
AreBodies-last [] last f are whole is = (push_some last f, FitTogether-push last f are.1 whole is, tt)
AreBodies-last (fs ∷ front) last f are whole is = (are.0, are.1, AreBodies-last front last f are.2 whole is)

-- what fills a body before a next one fills it before another that begins alike
IsFilled-next : (room : ℕ) (fs next next' : List Fragment)
    → ((taken : ℕ) → BeginsWithLongLabel room taken next → BeginsWithLongLabel room taken next') → IsFilled room fs next → IsFilled room fs next'
IsFilled-next room fs next next' alike filled = record {
  going_on = filled.going_on;
  else_closed = (λ whole. elim (filled.else_closed whole) [ inl full ↦ inl full | inr long ↦ inr (alike _ long) ]);
}

AreTight-last : (room : ℕ) (front : List (List Fragment)) (last last' : List Fragment)
    → ((taken : ℕ) → BeginsWithLongLabel room taken last → BeginsWithLongLabel room taken last') → length (fragments_bytes last') ≤ room
    → AreTight room (front ++ last ∷ []) → AreTight room (front ++ last' ∷ [])
AreTight-last room [] last last' alike fits tight = fits
AreTight-last room (fs ∷ []) last last' alike fits tight = (tight.0, IsFilled-next room fs last last' alike tight.1, fits)
AreTight-last room (fs ∷ gs ∷ front) last last' alike fits tight = (tight.0, tight.1, AreTight-last room (gs ∷ front) last last' alike fits tight.2)

AreTight-behind : (room : ℕ) (front : List (List Fragment)) (last next : List Fragment) → AreTight room (front ++ last ∷ [])
    → IsFilled room last next → length (fragments_bytes next) ≤ room → AreTight room ((front ++ last ∷ []) ++ next ∷ [])
AreTight-behind room [] last next tight filled fits = (tight, filled, fits)
AreTight-behind room (fs ∷ []) last next tight filled fits = (tight.0, tight.1, (tight.2, filled, fits))
AreTight-behind room (fs ∷ gs ∷ front) last next tight filled fits = (tight.0, tight.1, AreTight-behind room (gs ∷ front) last next tight.2 filled fits)

begins_alike : (room taken : ℕ) (fs : List Fragment) (f : Fragment) → fs ≢ [] → BeginsWithLongLabel room taken fs → BeginsWithLongLabel room taken (fs ++ f ∷ [])
begins_alike room taken [] f some long = absurd (some refl)
begins_alike room taken (g ∷ fs) f some long = long

-- fragments in bodies of one room, whatever they are of
pub record StandTightly (room : ℕ) (fragments : List (List Fragment)) : Type 0 where
  pub bodies_are : AreBodies fragments
  pub tight : AreTight room fragments

last_some : (front : List (List Fragment)) (last : List Fragment) → AreBodies (front ++ last ∷ []) → last ≢ []
last_some [] last are = are.0
last_some (fs ∷ front) last are = last_some front last are.2

-- a fragment that fits goes after the last body's last, which does not go on
pub stand_last : (room : ℕ) (front : List (List Fragment)) (last : List Fragment) (f : Fragment) → StandTightly room (front ++ last ∷ [])
    → AreWhole last → IsFragment f → length (fragments_bytes last) + length (fragment_bytes f) ≤ room
    → StandTightly room (front ++ (last ++ f ∷ []) ∷ [])
stand_last room front last f are whole is fits = record {
  bodies_are = AreBodies-last front last f are.bodies_are whole is;
  tight =
      let long = ap length (fragments_bytes-push last f) ∙ length-append (fragments_bytes last) (fragment_bytes f) in
      AreTight-last room front last (last ++ f ∷ []) (λ taken. begins_alike room taken last f (last_some front last are.bodies_are)) (omega arith) are.tight;
}

-- a fragment begins a body after one that is filled
pub stand_behind : (room : ℕ) (front : List (List Fragment)) (last : List Fragment) (f : Fragment) → StandTightly room (front ++ last ∷ [])
    → IsFilled room last (f ∷ []) → IsFragment f → length (fragment_bytes f) ≤ room
    → StandTightly room ((front ++ last ∷ []) ++ (f ∷ []) ∷ [])
stand_behind room front last f are filled is fits = record {
  bodies_are = AreBodies-append (front ++ last ∷ []) ((f ∷ []) ∷ []) are.bodies_are ((λ none. cc none), (is, (λ more. refl), tt), tt);
  tight =
      let long : length (fragment_bytes f ++ []) ≡ length (fragment_bytes f) = ap length (append-nil (fragment_bytes f)) in
      AreTight-behind room front last (f ∷ []) are.tight filled (omega arith);
}

pub joined-last : (front : List (List Fragment)) (last : List Fragment) (f : Fragment) → joined (front ++ (last ++ f ∷ []) ∷ []) ≡ joined (front ++ last ∷ []) ++ f ∷ []
joined-last [] last f = append-nil (last ++ f ∷ []) ∙ ap (λ l. l ++ f ∷ []) (sym (append-nil last))
joined-last (fs ∷ front) last f = ap (λ l. fs ++ l) (joined-last front last f) ∙ sym (append_assoc fs (joined (front ++ last ∷ [])) (f ∷ []))

pub joined-behind : (fragments : List (List Fragment)) (f : Fragment) → joined (fragments ++ (f ∷ []) ∷ []) ≡ joined fragments ++ f ∷ []
joined-behind fragments f = flat_map-append (λ l. l) fragments ((f ∷ []) ∷ [])
