-- What a put does to the bodies of a spool.
use Rattle.std.proofs.Common.{◌≡◌, ℕ, ◌+◌, ◌≤◌, Bool, true, false, List, [], ◌∷◌, ◌++◌, length, map, take, drop, refl, ap, sym, ◌∙◌, subst, arith, IsTrue, ◌↔◌}
use Rattle.std.specs.List.{AllByRecursion}
use Rattle.std.proofs.lemmas.List.{take-append-le, drop-append-le, length-drop, map-append}
use Rattle.std.proofs.Math.Seq.{take-length, drop-append_seam}
use Rattle.sd_pack.specs.Body.{PackedBody, IsBody}
use Rattle.sd_spool.specs.Meaning.{Meaning, IsHonest, MayAppend}
use Rattle.sd_spool.specs.Job.{JobView, EndsAt, entry_shape, entry_body, shape_of, view_of, IsEntry, IsKept, Puts, FailsToPut, begin_extent, begin_bytes}
use Rattle.sd_spool.specs.declared.entry.SpoolEntry.{SpoolEntry}
use Rattle.sd_spool.specs.declared.entry.Extent.{Extent}

-- what comes after a body doesn't change it
entry_body-append : (bytes tail : List ℕ) (e : SpoolEntry) → e.at + e.length ≤ length bytes → entry_body (bytes ++ tail) e ≡ entry_body bytes e
entry_body-append bytes tail e within =
    ap (λ (x : List ℕ). record { bytes = x; first = e.first; last = e.last })
    (ap (take e.length) (drop-append-le e.at bytes tail (omega arith)) ∙ take-append-le e.length (drop e.at bytes) tail (let r = length-drop e.at bytes in omega arith))

bodies-append : (bytes tail : List ℕ) (end : ℕ) (es : List SpoolEntry) → AllByRecursion (IsEntry end) es → end ≤ length bytes → map (entry_body (bytes ++ tail)) es ≡ map (entry_body bytes) es
bodies-append bytes tail end [] each fits = refl
bodies-append bytes tail end (e ∷ es) each fits =
    let within = each.0.within in
    let here = entry_body-append bytes tail e (omega arith) in
    let rest = bodies-append bytes tail end es each.1 fits in
    ap (λ (b : PackedBody). b ∷ map (entry_body (bytes ++ tail)) es) here ∙ ap (λ (bs : List PackedBody). entry_body bytes e ∷ bs) rest

-- what was appended is the body
entry_body-new : (bytes : List ℕ) (e : SpoolEntry) (body : PackedBody) → e.at ≡ length bytes → shape_of body ≡ entry_shape e → entry_body (bytes ++ body.bytes) e ≡ body
entry_body-new bytes e body at shape =
    let length_is = ap (λ s. s.length) shape in
    let first_is = ap (λ s. s.first) shape in
    let last_is = ap (λ s. s.last) shape in
    ap (λ (n : ℕ). record { bytes = take n (drop e.at (bytes ++ body.bytes)); first = e.first; last = e.last }) (sym length_is)
    ∙ ap (λ (n : ℕ). record { bytes = take (length body.bytes) (drop n (bytes ++ body.bytes)); first = e.first; last = e.last }) at
    ∙ ap (λ (x : List ℕ). record { bytes = take (length body.bytes) x; first = e.first; last = e.last }) (drop-append_seam bytes body.bytes)
    ∙ ap (λ (x : List ℕ). record { bytes = x; first = e.first; last = e.last }) (take-length body.bytes)
    ∙ ap (λ (n : ℕ). record { bytes = body.bytes; first = n; last = e.last }) (sym first_is)
    ∙ ap (λ (n : ℕ). record { bytes = body.bytes; first = body.first; last = n }) (sym last_is)

-- one entry more, and an end that is no nearer
pub each-snoc : (old new : ℕ) (es : List SpoolEntry) (e : SpoolEntry) → old ≤ new → AllByRecursion (IsEntry old) es → IsEntry new e → AllByRecursion (IsEntry new) (es ++ e ∷ [])
each-snoc old new [] e farther each last = (last, tt)
each-snoc old new (f ∷ es) e farther each last =
    let within = each.0.within in
    (record { least = each.0.least; most = each.0.most; within = omega arith }, each-snoc old new es e farther each.1 last)

-- the store failed
fails : (old new : Meaning) (es : List SpoolEntry) (before after : Extent) (limit : ℕ) (is_first : Bool) → IsKept old es before limit → (is_first ≡ true → es ≡ []) → (es ≡ [] → is_first ≡ true) → (is_first ≡ false → IsHonest old → MayAppend old.bytes new.bytes) → (is_first ≡ false → after ≡ record { end = before.end; torn = true }) → FailsToPut (view_of old es before limit) (view_of new es after limit)
fails old new [] before after limit is_first kept one none bytes extent =
    record { shapes = refl; bodies = λ h t. refl; used = refl; limit = refl; torn = refl }
fails old new (e ∷ es) before after limit true kept one none bytes extent = absurd (let r = one refl in cc)
fails old new (e ∷ es) before after limit false kept one none bytes extent =
    record {
      shapes = refl;
      bodies = λ h t. (let r = bytes refl h in
          let end = kept.ends h t in
          ap (λ (x : List ℕ). map (entry_body x) (e ∷ es)) r.1 ∙ bodies-append old.bytes r.0 before.end (e ∷ es) kept.each (omega arith));
      used = ap (λ (x : Extent). x.end) (extent refl);
      limit = refl;
      torn = ap (λ (x : Extent). x.torn) (extent refl);
    }

-- the store took the body
took : (old new : Meaning) (es : List SpoolEntry) (before after : Extent) (limit : ℕ) (is_first : Bool) (e : SpoolEntry) (body : PackedBody) → IsKept old es before limit → (is_first ≡ true → es ≡ []) → (es ≡ [] → is_first ≡ true) → shape_of body ≡ entry_shape e → e.at ≡ (begin_extent is_first before).end → after.end ≡ (begin_extent is_first before).end + length body.bytes → after.torn ≡ (begin_extent is_first before).torn → (IsHonest old → new.bytes ≡ begin_bytes is_first old.bytes ++ body.bytes) → Puts body (view_of old es before limit) (view_of new (es ++ e ∷ []) after limit)
took old new [] before after limit false e body kept one none shape at end torn bytes = absurd (let r = none refl in cc)
took old new [] before after limit true e body kept one none shape at end torn bytes =
    record {
      shapes = ap (λ s. s ∷ []) (sym shape);
      bodies = λ h t. ap (λ (b : PackedBody). b ∷ []) (ap (λ (x : List ℕ). entry_body x e) (bytes h) ∙ entry_body-new [] e body at shape);
      used = end;
      limit = refl;
      torn = torn;
    }
took old new (f ∷ es) before after limit true e body kept one none shape at end torn bytes = absurd (let r = one refl in cc)
took old new (f ∷ es) before after limit false e body kept one none shape at end torn bytes =
    record {
      shapes = map-append entry_shape (f ∷ es) (e ∷ []) ∙ ap (λ s. map entry_shape (f ∷ es) ++ s ∷ []) (sym shape);
      bodies = λ h t. (let stands = kept.ends h t in
          ap (λ (x : List ℕ). map (entry_body x) ((f ∷ es) ++ e ∷ [])) (bytes h)
          ∙ map-append (entry_body (old.bytes ++ body.bytes)) (f ∷ es) (e ∷ [])
          ∙ ap (λ (bs : List PackedBody). bs ++ entry_body (old.bytes ++ body.bytes) e ∷ []) (bodies-append old.bytes body.bytes before.end (f ∷ es) kept.each (omega arith))
          ∙ ap (λ (b : PackedBody). map (entry_body old.bytes) (f ∷ es) ++ b ∷ []) (entry_body-new old.bytes e body (at ∙ sym stands) shape));
      used = end;
      limit = refl;
      torn = torn;
    }

no_entries : (es : List SpoolEntry) → map entry_shape es ≡ [] → es ≡ []
no_entries [] h = refl
no_entries (e ∷ es) h = absurd cc

-- what a failed put leaves of a spool whose view is known
pub fails_to_put : (v : JobView) (old new : Meaning) (es es' : List SpoolEntry) (before after : Extent) (limit : ℕ) (is_first : Bool) → view_of old es before limit ≡ v → es' ≡ es → IsKept old es before limit → IsTrue is_first ↔ (v.shapes ≡ []) → (is_first ≡ false → IsHonest old → MayAppend old.bytes new.bytes) → (is_first ≡ false → after ≡ record { end = before.end; torn = true }) → FailsToPut v (view_of new es' after limit)
fails_to_put v old new es es' before after limit is_first view same kept empty bytes extent =
    let shapes = ap (λ (v : JobView). v.shapes) view in
    let stays = fails old new es before after limit is_first kept (λ t. no_entries es (shapes ∙ empty.0 t)) (λ e. empty.1 (sym shapes ∙ ap (map entry_shape) e)) bytes extent in
    subst (λ (xs : List SpoolEntry). FailsToPut v (view_of new xs after limit)) (sym same) (subst (λ (v : JobView). FailsToPut v (view_of new es after limit)) view stays)

pub puts : (v : JobView) (old new : Meaning) (es es' : List SpoolEntry) (before after : Extent) (limit : ℕ) (is_first : Bool) (e : SpoolEntry) (body : PackedBody) → view_of old es before limit ≡ v → es' ≡ es ++ e ∷ [] → IsKept old es before limit → IsTrue is_first ↔ (v.shapes ≡ []) → shape_of body ≡ entry_shape e → e.at ≡ (begin_extent is_first before).end → after.end ≡ (begin_extent is_first before).end + length body.bytes → after.torn ≡ (begin_extent is_first before).torn → (IsHonest old → new.bytes ≡ begin_bytes is_first old.bytes ++ body.bytes) → Puts body v (view_of new es' after limit)
puts v old new es es' before after limit is_first e body view same kept empty shape at end torn bytes =
    let shapes = ap (λ (v : JobView). v.shapes) view in
    let stays = took old new es before after limit is_first e body kept (λ t. no_entries es (shapes ∙ empty.0 t)) (λ e. empty.1 (sym shapes ∙ ap (map entry_shape) e)) shape at end torn bytes in
    subst (λ (xs : List SpoolEntry). Puts body v (view_of new xs after limit)) (sym same) (subst (λ (v : JobView). Puts body v (view_of new (es ++ e ∷ []) after limit)) view stays)

pub keeps : (v : JobView) (old new : Meaning) (es es' : List SpoolEntry) (before after : Extent) (limit : ℕ) (is_first : Bool) (e : SpoolEntry) (body : PackedBody) → view_of old es before limit ≡ v → es' ≡ es ++ e ∷ [] → IsKept old es before limit → IsTrue is_first ↔ (v.shapes ≡ []) → IsBody body → shape_of body ≡ entry_shape e → e.at ≡ (begin_extent is_first before).end → after.end ≡ (begin_extent is_first before).end + length body.bytes → after.end ≤ limit → EndsAt new after → IsKept new es' after limit
keeps v old new es es' before after limit is_first e body view same kept empty size shape at end room ends =
    record { each = subst (AllByRecursion (IsEntry after.end)) (sym same) (each is_first empty at end); within = room; ends = ends }
  where
    last : e.at + length body.bytes ≤ after.end → IsEntry after.end e
    last within = let n : length body.bytes ≡ e.length = ap (λ s. s.length) shape in record { least = (let h = size.least in omega arith); most = (let h = size.most in omega arith); within = omega arith }

    each : (is_first : Bool) → IsTrue is_first ↔ (v.shapes ≡ []) → e.at ≡ (begin_extent is_first before).end → after.end ≡ (begin_extent is_first before).end + length body.bytes → AllByRecursion (IsEntry after.end) (es ++ e ∷ [])
    each true empty at end = (let none = no_entries es (ap (λ (v : JobView). v.shapes) view ∙ empty.0 refl) in
        subst (λ (xs : List SpoolEntry). AllByRecursion (IsEntry after.end) (xs ++ e ∷ [])) (sym none) (last (omega arith), tt))
    each false empty at end = each-snoc before.end after.end es e (omega arith) kept.each (last (omega arith))
