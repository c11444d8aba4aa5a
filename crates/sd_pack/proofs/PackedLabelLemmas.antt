-- Packed bodies with a label more.
use Rattle.std.proofs.Common.{◌≡◌, ℕ, ◌+◌, ◌<◌, ◌≤◌, refl, sym, ap, subst, ◌∙◌, arith, inr, List, [], ◌∷◌, ◌++◌, length}
use Rattle.std.proofs.lemmas.List.{append_assoc, append-nil}
use Rattle.sd_base.specs.Record.{Record}
use Rattle.sd_record.specs.Fragment.{Fragment, fragments_bytes}
use Rattle.sd_label.specs.declared.label.SessionLabel.{SessionLabel}
use Rattle.sd_label.specs.Label.{session_label_fragment, session_label_bytes}
use Rattle.sd_label.specs.Cutting.{Between, AtEnd, IsStart, IsEnd, IsSession, joined}
use Rattle.sd_label.proofs.LabelLemmas.{IsFragment-session_label}
use Rattle.sd_pack.specs.Body.{PackedBody, with_fragment, empty_body}
use Rattle.sd_pack.specs.Packing.{Packs}
use Rattle.sd_pack.proofs.BodyLemmas.{body_of-one}
use Rattle.sd_pack.proofs.TightLemmas.{last_whole, stand_last, stand_behind, joined-last, joined-behind}
use Rattle.sd_pack.proofs.PackingLemmas.{packs_between, packs_tightly, bodies-last, bodies-behind, bodies_and_last, length-one}

-- a start label alone in a body
pub packs_start : (room : ℕ) (label : SessionLabel) → IsStart label → length (session_label_bytes label) ≤ room
    → Packs room (with_fragment empty_body (session_label_fragment label) ∷ []) [] Between
packs_start room label start fits =
    let f = session_label_fragment label in
    packs_tightly room (with_fragment empty_body f ∷ []) [] Between ((f ∷ []) ∷ []) (ap (λ b. b ∷ []) (sym (body_of-one f)))
    (record { bodies_are = ((λ none. cc none), (IsFragment-session_label label start.label_is, (λ more. refl), tt), tt); tight = omega (arith, length-one f) })
    (record { start = label; parts = []; behind = []; order = refl; start_is = start; records_are = tt; parts_are = refl; behind_is = refl })

-- after the records' fragments comes the end label
ended : (fs gs : List Fragment) (records : List Record) (label : SessionLabel) → IsSession fs records Between → IsEnd label records
    → gs ≡ fs ++ session_label_fragment label ∷ [] → IsSession gs records AtEnd
ended fs gs records label s is more =
    let f = session_label_fragment label in
    record {
      start = s.start;
      parts = s.parts;
      behind = f ∷ [];
      order = more ∙ ap (λ l. l ++ f ∷ []) (s.order ∙ ap (λ l. session_label_fragment s.start ∷ (s.parts ++ l)) s.behind_is) ∙ ap (λ l. session_label_fragment s.start ∷ (l ++ f ∷ [])) (append-nil s.parts);
      start_is = s.start_is;
      records_are = s.records_are;
      parts_are = s.parts_are;
      behind_is = (label, is, refl);
    }

end_last : (room : ℕ) (front : List PackedBody) (body : PackedBody) (records : List Record) (label : SessionLabel) → IsEnd label records
    → length body.bytes + length (session_label_bytes label) ≤ room → Packs room (front ++ body ∷ []) records Between
    → Packs room (front ++ with_fragment body (session_label_fragment label) ∷ []) records AtEnd
end_last room front body records label is fits packs =
    let p = packs_between room front body records packs in
    let f = session_label_fragment label in
    let old : length body.bytes ≡ length (fragments_bytes p.last) = ap (λ b. length b.bytes) p.body_is in
    packs_tightly room (front ++ with_fragment body f ∷ []) records AtEnd (p.lists ++ (p.last ++ f ∷ []) ∷ [])
    (bodies-last p.lists p.last front body f p.front_is p.body_is)
    (stand_last room p.lists p.last f p.tightly (last_whole p.lists p.last records p.session) (IsFragment-session_label label is.label_is) (omega arith))
    (ended (joined (p.lists ++ p.last ∷ [])) (joined (p.lists ++ (p.last ++ f ∷ []) ∷ [])) records label p.session is (joined-last p.lists p.last f))

end_behind : (room : ℕ) (front : List PackedBody) (body : PackedBody) (records : List Record) (label : SessionLabel) → IsEnd label records
    → room < length body.bytes + length (session_label_bytes label) → length (session_label_bytes label) ≤ room → Packs room (front ++ body ∷ []) records Between
    → Packs room ((front ++ body ∷ []) ++ with_fragment empty_body (session_label_fragment label) ∷ []) records AtEnd
end_behind room front body records label is narrow fits packs =
    let p = packs_between room front body records packs in
    let f = session_label_fragment label in
    let old : length body.bytes ≡ length (fragments_bytes p.last) = ap (λ b. length b.bytes) p.body_is in
    let whole = last_whole p.lists p.last records p.session in
    packs_tightly room ((front ++ body ∷ []) ++ with_fragment empty_body f ∷ []) records AtEnd ((p.lists ++ p.last ∷ []) ++ (f ∷ []) ∷ [])
    (ap (λ b. (front ++ body ∷ []) ++ b ∷ []) (sym (body_of-one f)) ∙ bodies-behind (p.lists ++ p.last ∷ []) (front ++ body ∷ []) f (bodies_and_last p.lists p.last front body p.front_is p.body_is))
    (stand_behind room p.lists p.last f p.tightly (record { going_on = (λ more. absurd (whole more)); else_closed = (λ none. inr (label, refl, omega arith)) }) (IsFragment-session_label label is.label_is) fits)
    (ended (joined (p.lists ++ p.last ∷ [])) (joined ((p.lists ++ p.last ∷ []) ++ (f ∷ []) ∷ [])) records label p.session is (joined-behind (p.lists ++ p.last ∷ []) f))

-- an end label in the open body, or after it
pub ends_in : (room : ℕ) (taken waiting : List PackedBody) (body : PackedBody) (records : List Record) (label : SessionLabel) → IsEnd label records
    → length body.bytes + length (session_label_bytes label) ≤ room → Packs room (taken ++ (waiting ++ body ∷ [])) records Between
    → Packs room (taken ++ (waiting ++ with_fragment body (session_label_fragment label) ∷ [])) records AtEnd
ends_in room taken waiting body records label is fits packs =
    let f = session_label_fragment label in
    subst (λ l. Packs room l records AtEnd) (append_assoc taken waiting (with_fragment body f ∷ []))
    (end_last room (taken ++ waiting) body records label is fits (subst (λ l. Packs room l records Between) (sym (append_assoc taken waiting (body ∷ []))) packs))

pub ends_behind : (room : ℕ) (taken waiting : List PackedBody) (body : PackedBody) (records : List Record) (label : SessionLabel) → IsEnd label records
    → room < length body.bytes + length (session_label_bytes label) → length (session_label_bytes label) ≤ room → Packs room (taken ++ (waiting ++ body ∷ [])) records Between
    → Packs room (taken ++ ((waiting ++ body ∷ []) ++ with_fragment empty_body (session_label_fragment label) ∷ [])) records AtEnd
ends_behind room taken waiting body records label is narrow fits packs =
    let next = with_fragment empty_body (session_label_fragment label) in
    subst (λ l. Packs room l records AtEnd) (ap (λ l. l ++ next ∷ []) (append_assoc taken waiting (body ∷ [])) ∙ append_assoc taken (waiting ++ body ∷ []) (next ∷ []))
    (end_behind room (taken ++ waiting) body records label is narrow fits (subst (λ l. Packs room l records Between) (sym (append_assoc taken waiting (body ∷ []))) packs))
