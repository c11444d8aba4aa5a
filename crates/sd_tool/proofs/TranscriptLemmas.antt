-- Spans printed one after another, a record, and the words of replies.
use Rattle.std.proofs.Common.{◌≡◌, ℕ, ◌+◌, ◌<◌, refl, sym, ap, subst, ◌∙◌, List, [], ◌∷◌, ◌++◌, length, take, get_or, codes}
use Rattle.std.proofs.lemmas.Grind.{flat_map-append}
use Rattle.std.proofs.lemmas.List.{append_assoc, append-nil, take_more}
use Rattle.std.specs.Fmt.{decimal}
use Rattle.std.specs.List.{flat_map}
use Rattle.sd_base.specs.Record.{Record}
use Rattle.sd_base.specs.declared.number.SessionKey.{SessionKey}
use Rattle.sd_console.specs.Replies.{reply_line}
use Rattle.sd_machine.specs.declared.reply.Reply.{Reply}
use Rattle.sd_machine.specs.declared.reply.Reply.TheVariants.{Closed, Media, Mounted}
use Rattle.sd_text.specs.Says.{SaidView, Says}
use Rattle.sd_text.proofs.SaysLemmas.{says_then}
use Rattle.sd_span.specs.JobMedia.{jobmedia_text, session_text, span_text}
use Rattle.sd_span.specs.declared.span.Span.{Span}
use Rattle.sd_text.specs.Lines.{line}
use Rattle.sd_tool.specs.ReplyLines.{closed_words, media_words, mounted_words, record_lines, shown_text}

-- Replies.

pub media_other : (key : SessionKey) (reply : Reply) → ((spans : List Span) → reply ≡ Media spans → ⊥) → line (reply_line reply) ≡ media_words key reply
media_other key (Media spans) other = absurd (other spans refl)
media_other key reply other = refl

pub mounted_other : (reply : Reply) → ((name : List ℕ) → reply ≡ Mounted name → ⊥) → line (reply_line reply) ≡ mounted_words reply
mounted_other (Mounted name) other = absurd (other name refl)
mounted_other reply other = refl

pub closed_other : (reply : Reply) → ((key : SessionKey) (spans : List Span) → reply ≡ Closed key spans → ⊥) → line (reply_line reply) ≡ closed_words reply
closed_other (Closed key spans) other = absurd (other key spans refl)
closed_other reply other = refl

-- Spans.

-- the lines of one span more
pub one_span_more : (key : SessionKey) (spans : List Span) (i : ℕ) (s : Span) (a b c : SaidView) → i < length spans → s ≡ get_or spans i s
    → Says a b (jobmedia_text key (take i spans)) → Says b c (line (span_text s)) → Says a c (jobmedia_text key (take (i + 1) spans))
one_span_more key spans i s a b c within is p q =
    let head = line (session_text key) in
    let lines : List Span → List ℕ = flat_map (λ (t : Span). line (span_text t)) in
    let front : take (i + 1) spans ≡ take i spans ++ s ∷ [] = take_more spans i s within ∙ ap (λ (t : Span). take i spans ++ t ∷ []) (sym is) in
    let last : lines (s ∷ []) ≡ line (span_text s) = append-nil (line (span_text s)) in
    let all : lines (take (i + 1) spans) ≡ lines (take i spans) ++ line (span_text s) =
    ap lines front ∙ flat_map-append (λ (t : Span). line (span_text t)) (take i spans) (s ∷ []) ∙ ap (λ (l : List ℕ). lines (take i spans) ++ l) last in
    subst (λ (l : List ℕ). Says a c l) (append_assoc head (lines (take i spans)) (line (span_text s)) ∙ ap (λ (l : List ℕ). head ++ l) (sym all))
    (says_then a b c (jobmedia_text key (take i spans)) (line (span_text s)) p q)

-- Records.

-- the pieces of a record's line
record_pieces : (index stream size shown : List ℕ)
    → codes "rec " ++ (index ++ (codes " " ++ (stream ++ (codes " " ++ (size ++ (codes " " ++ (shown ++ codes "\n")))))))
    ≡ line (codes "rec " ++ index ++ codes " " ++ stream ++ codes " " ++ size ++ codes " " ++ shown)
record_pieces index stream size shown = simp append_assoc

pub says_record : (r : Record) (index stream : ℕ) (held : List ℕ) (a b c d e f g h i j : SaidView) → index ≡ r.index → stream ≡ r.stream → held ≡ r.bytes
    → Says a b (codes "rec ") → Says b c (decimal index) → Says c d (codes " ") → Says d e (decimal stream) → Says e f (codes " ") → Says f g (decimal (length held)) → Says g h (codes " ")
    → Says h i (shown_text held) → Says i j (codes "\n") → Says a j (record_lines r)
says_record r index stream held a b c d e f g h i j index_is stream_is held_is p q s t u v w x y =
    rw record_pieces at
    (rw (index_is, stream_is, held_is) at
    (says_then a b j _ _ p (says_then b c j _ _ q (says_then c d j _ _ s (says_then d e j _ _ t (says_then e f j _ _ u (says_then f g j _ _ v (says_then g h j _ _ w (says_then h i j _ _ x y)))))))))
