-- What is printed, one thing after another.
use Rattle.std.proofs.Common.{◌≡◌, ◌<◌, ℕ, refl, sym, ap, subst, ◌∙◌, arith, ◌∷◌, Bool, true, false, List, [], ◌++◌, length, length-append, take, drop, Option, Some, None}
use Rattle.std.proofs.lemmas.List.{append_assoc, append-nil, take-append-drop}
use Rattle.std.specs.Prelude.{IfSome}
use Rattle.std.specs.Fmt.{WritesText, with_newline}
use Rattle.std.specs.Io.KnownBytes.{Appends, Keeps}
use Rattle.std.proofs.KnownBytes.{Appends-nil, Appends-trans, Appends-kept}
use Rattle.std.proofs.lemmas.Fmt.{contents_after_writes}
use Rattle.sd_text.specs.Lines.{line}
use Rattle.sd_text.specs.Says.{SaidView, SendsUpTo, Says, SaysBy, CutsShort, CutsShortBy}

pub sends_none : (a : Option (List ℕ)) (bytes : List ℕ) → SendsUpTo a a bytes bytes
sends_none a bytes = ([], refl, Appends-nil a)

pub sends_more : (a b c : Option (List ℕ)) (bytes rest : List ℕ) (n : ℕ) → SendsUpTo a b bytes rest → Appends b c (take n rest) → SendsUpTo a c bytes (drop n rest)
sends_more a b c bytes rest n s more =
    (s.0 ++ take n rest, s.1 ∙ ap (λ l. s.0 ++ l) (sym (take-append-drop n rest)) ∙ sym (append_assoc s.0 (take n rest) (drop n rest)), Appends-trans a b c s.0 (take n rest) s.2 more)

-- nothing was printed
pub says_none_by : (written : Option (List ℕ)) (failed : Bool) → SaysBy written written failed failed []
says_none_by written false = Appends-nil written
says_none_by written true = refl

pub says_none : (v : SaidView) → Says v v []
says_none v = says_none_by v.written v.failed

says_then_by : (a b c : Option (List ℕ)) (f g h : Bool) (x y : List ℕ) → SaysBy a b f g x → SaysBy b c g h y → SaysBy a c f h (x ++ y)
says_then_by a b c false false false x y p q = Appends-trans a b c x y p q
says_then_by a b c false false true x y p (rest, (front, y_is, sent)) =
    (rest, (x ++ front, ap (λ l. x ++ l) y_is ∙ sym (append_assoc x front rest), Appends-trans a b c x front p sent))
says_then_by a b c false true false x y p q = absurd q
says_then_by a b c false true true x y (rest, (front, x_is, sent)) q =
    (rest ++ y, (front, ap (λ l. l ++ y) x_is ∙ append_assoc front rest y, subst (λ (o : Option (List ℕ)). Appends a o front) (sym q) sent))
says_then_by a b c true false h x y p q = absurd p
says_then_by a b c true true false x y p q = absurd q
says_then_by a b c true true true x y p q = q ∙ p

-- one thing was printed, and then another
pub says_then : (a b c : SaidView) (x y : List ℕ) → Says a b x → Says b c y → Says a c (x ++ y)
says_then a b c x y p q = says_then_by a.written b.written c.written a.failed b.failed c.failed x y p q

pub says_then_nothing : (a b c : SaidView) (x : List ℕ) → Says a b x → Says b c [] → Says a c x
says_then_nothing a b c x p q = rw append-nil at (says_then a b c x [] p q)

-- if it fails, nothing of what was to come is written
pub says_dropped : (written : Option (List ℕ)) (failed : Bool) (bytes : List ℕ) → SaysBy written written failed true bytes
says_dropped written false bytes = (bytes, sends_none written bytes)
says_dropped written true bytes = refl

-- if it fails with nothing written, all of it is left
pub cuts_dropped : (written : Option (List ℕ)) (failed : Bool) (bytes : List ℕ) → 0 < length bytes → CutsShortBy written written failed true bytes
cuts_dropped written false bytes some_there = (bytes, some_there, sends_none written bytes)
cuts_dropped written true bytes some_there = tt

pub says_kept : (a b : Option (List ℕ)) (fails : Bool) → Keeps a b → SaysBy a b false fails []
says_kept a b false p = Appends-kept a a b [] (Appends-nil a) p
says_kept a b true p = ([], ([], refl, Appends-kept a a b [] (Appends-nil a) p))

pub line_written : {S : Type 0} (took : S → List ℕ → S → Type 0) (contents : S → List ℕ) → ((w : S) (bs : List ℕ) (v : S) → took w bs v → contents v ≡ contents w ++ bs)
    → (w v : S) (o : Option (List ℕ)) → contents w ≡ [] → WritesText took w (with_newline o) v → IfSome o (λ said. contents v ≡ line said)
line_written took contents appends w v None empty writes = tt
line_written took contents appends w v (Some said) empty writes =
    contents_after_writes took contents appends w (said ++ 10 ∷ []) v writes ∙ ap (λ l. l ++ (said ++ 10 ∷ [])) empty

-- a line was printed if the text that was made for it is its text
pub says_line : (a b : SaidView) (o : Option (List ℕ)) (bytes : List ℕ) → IfSome o (λ said. bytes ≡ line said) → Says a b bytes → IfSome o (λ said. Says a b (line said))
says_line a b None bytes is says = tt
says_line a b (Some said) bytes is says = subst (λ (l : List ℕ). Says a b l) is says

-- a line was cut short if the text that was made for it is its text and was cut short
pub cuts_line : (a b : SaidView) (o : Option (List ℕ)) (bytes : List ℕ) → IfSome o (λ said. bytes ≡ line said) → CutsShort a b bytes → IfSome o (λ said. CutsShort a b (line said))
cuts_line a b None bytes is cut = tt
cuts_line a b (Some said) bytes is cut = subst (λ (l : List ℕ). CutsShort a b l) is cut

-- a line has its newline at least
pub some_in_line : (said : List ℕ) → 0 < length (line said)
some_in_line said = omega (arith, length-append said (10 ∷ []))
