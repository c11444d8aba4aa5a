-- What is put out, one thing after another.
use Rattle.std.proofs.Common.{◌≡◌, ℕ, refl, sym, ap, subst, ◌∙◌, Bool, true, false, List, [], ◌++◌, Option, Some, None}
use Rattle.std.proofs.lemmas.List.{append_assoc, append-nil}
use Rattle.std.specs.Prelude.{IfSome}
use Rattle.std.specs.Fmt.{WritesText}
use Rattle.std.specs.Io.KnownBytes.{Appends}
use Rattle.std.proofs.lemmas.Fmt.{contents_after_writes}
use Rattle.sd_bnet.specs.Packet.{packet_bytes}
use Rattle.sd_bnet.specs.declared.packet.Packet.TheVariants.{Bytes}
use Rattle.sd_text.specs.Says.{SendsUpTo}
use Rattle.sd_append.specs.Out.{OutView, PutsOut, PutsBy}

puts_none_by : (written : Option (List ℕ)) (failed : Bool) (waiting : List ℕ) → PutsBy written written failed failed waiting waiting []
puts_none_by None failed waiting = tt
puts_none_by (Some xs) false waiting = ([], sym (append-nil xs), sym (append-nil waiting))
puts_none_by (Some xs) true waiting = refl

pub puts_none : (v : OutView) → PutsOut v v []
puts_none v = puts_none_by v.written v.failed v.waiting

puts_then_by : (a b c : Option (List ℕ)) (f g h : Bool) (u v w x y : List ℕ) → PutsBy a b f g u v x → PutsBy b c g h v w y → PutsBy a c f h u w (x ++ y)
puts_then_by None b c f g h u v w x y p q = tt
puts_then_by (Some is) None c f g h u v w x y p q = absurd p
puts_then_by (Some is) (Some js) None false false h u v w x y p q = absurd q
puts_then_by (Some is) (Some js) None false true h u v w x y p q = absurd q
puts_then_by (Some is) (Some js) None true false h u v w x y p q = absurd p
puts_then_by (Some is) (Some js) None true true h u v w x y p q = absurd q
puts_then_by (Some is) (Some js) (Some ks) false false false u v w x y (s, first, before) (t, second, behind) = (
  s ++ t,
  second ∙ ap (λ l. l ++ t) first ∙ append_assoc is s t,
  append_assoc s t w ∙ ap (λ l. s ++ l) behind ∙ sym (append_assoc s v y) ∙ ap (λ l. l ++ y) before ∙ append_assoc u x y,
)
puts_then_by (Some is) (Some js) (Some ks) false false true u v w x y (s, first, before) (t, rest, second, behind) = (
  s ++ t,
  rest,
  second ∙ ap (λ l. l ++ t) first ∙ append_assoc is s t,
  sym (append_assoc u x y) ∙ ap (λ l. l ++ y) (sym before) ∙ append_assoc s v y ∙ ap (λ l. s ++ l) behind ∙ sym (append_assoc s t rest),
)
puts_then_by (Some is) (Some js) (Some ks) false true false u v w x y p q = absurd q
puts_then_by (Some is) (Some js) (Some ks) false true true u v w x y (s, rest, first, before) q =
    (s, rest ++ y, q ∙ first, sym (append_assoc u x y) ∙ ap (λ l. l ++ y) before ∙ append_assoc s rest y)
puts_then_by (Some is) (Some js) (Some ks) true false h u v w x y p q = absurd p
puts_then_by (Some is) (Some js) (Some ks) true true false u v w x y p q = absurd q
puts_then_by (Some is) (Some js) (Some ks) true true true u v w x y p q = q ∙ p

pub puts_then : (a b c : OutView) (x y : List ℕ) → PutsOut a b x → PutsOut b c y → PutsOut a c (x ++ y)
puts_then a b c x y p q = puts_then_by a.written b.written c.written a.failed b.failed c.failed a.waiting b.waiting c.waiting x y p q

pub puts_nothing_then : (a b c : OutView) (y : List ℕ) → PutsOut a b [] → PutsOut b c y → PutsOut a c y
puts_nothing_then a b c y p q = puts_then a b c [] y p q

pub puts_then_nothing : (a b c : OutView) (x : List ℕ) → PutsOut a b x → PutsOut b c [] → PutsOut a c x
puts_then_nothing a b c x p q = rw append-nil at (puts_then a b c x [] p q)

-- if it fails, nothing of what was to come is written
pub puts_dropped : (written : Option (List ℕ)) (failed : Bool) (waiting waits bytes : List ℕ) → PutsBy written written failed true waiting waits bytes
puts_dropped None failed waiting waits bytes = tt
puts_dropped (Some xs) false waiting waits bytes = ([], waiting ++ bytes, sym (append-nil xs), refl)
puts_dropped (Some xs) true waiting waits bytes = refl

-- all that waited went out, and then these were sent
pub puts_straight : (a b c : Option (List ℕ)) (f g h : Bool) (waiting waits bytes : List ℕ) → waits ≡ [] → PutsBy a b f g waiting waits [] → PutsBy b c g h [] [] bytes
    → PutsBy a c f h waiting waits bytes
puts_straight a b c f g h waiting waits bytes none p q =
    let out : PutsBy a b f g waiting [] [] = subst (λ (l : List ℕ). PutsBy a b f g waiting l []) none p in
    subst (λ (l : List ℕ). PutsBy a c f h waiting l bytes) (sym none) (puts_then_by a b c f g h waiting [] [] [] bytes out q)

-- If nothing waited at first and nothing waits at last.

-- all of it was written
pub puts_all : (a b : Option (List ℕ)) (bytes : List ℕ) → PutsBy a b false false [] [] bytes → Appends a b bytes
puts_all None b bytes p = tt
puts_all (Some xs) None bytes p = absurd p
puts_all (Some xs) (Some ys) bytes (sent, more, same) = more ∙ ap (λ l. xs ++ l) (sym (append-nil sent) ∙ same)

-- a front of it was
pub puts_front : (a b : Option (List ℕ)) (bytes : List ℕ) → PutsBy a b false true [] [] bytes → (rest : List ℕ) × SendsUpTo a b bytes rest
puts_front None b bytes p = (bytes, ([], refl, tt))
puts_front (Some xs) None bytes p = absurd p
puts_front (Some xs) (Some ys) bytes (sent, rest, more, same) = (rest, (sent, same, more))

-- What a text is written to, if it holds nothing yet.

pub text_written : {S : Type 0} (took : S → List ℕ → S → Type 0) (contents : S → List ℕ) → ((w : S) (bs : List ℕ) (v : S) → took w bs v → contents v ≡ contents w ++ bs)
    → (w v : S) (o : Option (List ℕ)) → contents w ≡ [] → WritesText took w o v → IfSome o (λ said. contents v ≡ said)
text_written took contents appends w v None empty writes = tt
text_written took contents appends w v (Some said) empty writes =
    contents_after_writes took contents appends w said v writes ∙ ap (λ l. l ++ said) empty

pub puts_said : (a b : OutView) (o : Option (List ℕ)) (bytes : List ℕ) (f : List ℕ → List ℕ) → IfSome o (λ said. bytes ≡ f said)
    → PutsOut a b (packet_bytes (Bytes bytes)) → IfSome o (λ said. PutsOut a b (packet_bytes (Bytes (f said))))
puts_said a b None bytes f is puts = tt
puts_said a b (Some said) bytes f is puts = subst (λ (l : List ℕ). PutsOut a b (packet_bytes (Bytes l))) is puts
