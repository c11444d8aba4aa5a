-- What a session's steps do, from what its packer's calls do.
use Rattle.std.proofs.Common.{◌≡◌, ◌≢◌, ℕ, ◌+◌, refl, sym, ap, subst, ◌∙◌, List, [], ◌∷◌, ◌++◌, length}
use Rattle.std.specs.Prelude.{◌↔◌, ℤ, Option, Some, None, IsSome, IfNone}
use Rattle.std.specs.Option.{option_to_list}
use Rattle.std.proofs.lemmas.List.{append_assoc, append-nil}
use Rattle.std.proofs.lemmas.Grind.{flat_map-append}
use Rattle.sd_base.specs.Record.{Record}
use Rattle.sd_record.specs.Fragment.{fragments_bytes}
use Rattle.sd_label.specs.declared.label.SessionLabel.{SessionLabel}
use Rattle.sd_label.specs.Label.{IsSessionLabel, session_label_bytes}
use Rattle.sd_label.specs.Cutting.{Standing, Between, AtEnd, IsEnd, total_bytes}
use Rattle.sd_pack.specs.Body.{PackedBody, empty_body}
use Rattle.sd_pack.specs.Packing.{PackerView, Packs, HasOpen, bodies_of, unless_empty, all_bytes, PacksRecord, PacksEnd, AddsRecord, AddsLabel}
use Rattle.sd_session.specs.declared.status.Status.TheVariants.{Active, Ended}
use Rattle.sd_session.specs.Session.{SessionView, spooled_in, MayTake, end_label, TakesRecord, EndsSession}

-- if no body is taken from the front, none is left
pub none_left : (taken : Option PackedBody) (old new : List PackedBody) → (IsSome taken ↔ (old ≢ [])) → old ≡ option_to_list taken ++ new → IfNone taken (new ≡ [])
none_left (Some b) old new is first = tt
none_left None [] new is first = sym first
none_left None (b ∷ old) new is first = let some : b ∷ old ≢ [] = λ e. cc in absurd (cc (is.1 some))

-- a packer with no open body has those that wait
pub waiting_alone : (p : PackerView) → p.open_body ≡ empty_body → bodies_of p ≡ p.waiting
waiting_alone p none = ap (λ b. p.waiting ++ unless_empty b.bytes b) none ∙ append-nil p.waiting

-- what comes after three stations comes after them one by one
regroup : (a b c d : List PackedBody) → (a ++ (b ++ c)) ++ d ≡ a ++ (b ++ (c ++ d))
regroup a b c d = append_assoc a (b ++ c) d ∙ ap (λ l. a ++ l) (append_assoc b c d)

-- a step of the packer after the bodies that were sent is one after those, the ready one and those in the spool
behind_parts : (room : ℕ) (ready spooled bodies bodies' : List PackedBody) (records records' : List Record) (standing : Standing) (before : List PackedBody)
    → (Packs room ((before ++ (ready ++ spooled)) ++ bodies) records Between → Packs room ((before ++ (ready ++ spooled)) ++ bodies') records' standing)
    → Packs room (before ++ (ready ++ (spooled ++ bodies))) records Between → Packs room (before ++ (ready ++ (spooled ++ bodies'))) records' standing
behind_parts room ready spooled bodies bodies' records records' standing before step packs =
    subst (λ l. Packs room l records' standing) (regroup before ready spooled bodies')
    (step (subst (λ l. Packs room l records Between) (sym (regroup before ready spooled bodies)) packs))

-- what is added at the end is added to the whole
bytes_behind : (front bodies bodies' : List PackedBody) (more : List ℕ) → all_bytes bodies' ≡ all_bytes bodies ++ more
    → all_bytes (front ++ bodies') ≡ all_bytes (front ++ bodies) ++ more
bytes_behind front bodies bodies' more adds =
    flat_map-append (λ b. b.bytes) front bodies'
    ∙ ap (λ l. all_bytes front ++ l) adds
    ∙ sym (append_assoc (all_bytes front) (all_bytes bodies) more)
    ∙ ap (λ l. l ++ more) (sym (flat_map-append (λ b. b.bytes) front bodies))

-- a record is taken; `now` is the session before it, as is `old`
pub takes_record : (old now : SessionView) (r : Record) (n bytes last : ℕ) (p : PackerView)
    → old ≡ now → old.status ≡ Active → MayTake old.count old.bytes old.last r → old.packer.waiting ≡ []
    → n ≡ old.count + 1 → bytes ≡ old.bytes + length r.bytes → last ≡ r.index
    → PacksRecord old.packer p r → AddsRecord old.packer p r → HasOpen p → p.room ≡ old.packer.room
    → TakesRecord now r n (record old { count = n; bytes = bytes; last = last; packer = p })
takes_record old now r n bytes last p now-is active may none n-is bytes-is last-is packs adds opens room =
    let ready = option_to_list old.ready in
    let spooled = spooled_in old.spool in
    subst (λ v. TakesRecord v r n (record old { count = n; bytes = bytes; last = last; packer = p })) now-is (record {
      active = active;
      may_take = may;
      none_waits = none;
      number = n-is;
      is = ap (λ k. let s : SessionView = record old { count = k; bytes = bytes; last = last; packer = p } in s) n-is
          ∙ ap (λ k. let s : SessionView = record old { count = old.count + 1; bytes = k; last = last; packer = p } in s) bytes-is
          ∙ ap (λ k. let s : SessionView = record old { count = old.count + 1; bytes = old.bytes + length r.bytes; last = k; packer = p } in s) last-is;
      room_is = room;
      body_open = opens;
      fragments = adds.parts;
      fragments_are = adds.parts_are;
      bytes_are = bytes_behind ready (spooled ++ bodies_of old.packer) (spooled ++ bodies_of p) (fragments_bytes adds.parts)
          (bytes_behind spooled (bodies_of old.packer) (bodies_of p) (fragments_bytes adds.parts) adds.bytes_are);
      packs = (λ before records. behind_parts old.packer.room ready spooled (bodies_of old.packer) (bodies_of p) records (records ++ r ∷ []) Between before
          (λ h. subst (λ k. Packs k ((before ++ (ready ++ spooled)) ++ bodies_of p) (records ++ r ∷ []) Between) room (packs (before ++ (ready ++ spooled)) records h)));
    })

-- an end label with the session's counts has the totals of its records
ends : (label : SessionLabel) (old : SessionView) (moment : ℤ) (records : List Record) → label ≡ end_label old moment → IsSessionLabel label
    → length records ≡ old.count → total_bytes records ≡ old.bytes → IsEnd label records
ends label old moment records label-is is count bytes = record {
  label_is = is;
  totals_are = ap (λ l. l.totals) label-is
      ∙ ap (λ n. Some (record { records = n; bytes = old.bytes })) (sym count)
      ∙ ap (λ n. Some (record { records = length records; bytes = n })) (sym bytes);
}

pub ends_session : (old now : SessionView) (moment : ℤ) (label : SessionLabel) (between p : PackerView)
    → old ≡ now → old.status ≡ Active → HasOpen old.packer → label ≡ end_label old moment → IsSessionLabel label
    → (HasOpen old.packer → PacksEnd old.packer between label) → AddsLabel old.packer between label → between.room ≡ old.packer.room
    → p.waiting ≡ bodies_of between → p.open_body ≡ empty_body → p.room ≡ between.room
    → EndsSession now moment (record old { status = Ended; packer = p })
ends_session old now moment label between p now-is active has label-is is packs adds room closed none room' =
    let ready = option_to_list old.ready in
    let spooled = spooled_in old.spool in
    let all : bodies_of p ≡ bodies_of between = waiting_alone p none ∙ closed in
    let bytes = ap all_bytes all ∙ adds ∙ ap (λ l. all_bytes (bodies_of old.packer) ++ session_label_bytes l) label-is in
    subst (λ v. EndsSession v moment (record old { status = Ended; packer = p })) now-is (record {
      active = active;
      is = refl;
      room_is = room' ∙ room;
      none_open = none;
      packs = (λ before records count bytes. behind_parts old.packer.room ready spooled (bodies_of old.packer) (bodies_of p) records records AtEnd before
          (λ h. subst (λ l. Packs old.packer.room ((before ++ (ready ++ spooled)) ++ l) records AtEnd) (sym all)
          (subst (λ k. Packs k ((before ++ (ready ++ spooled)) ++ bodies_of between) records AtEnd) room
          (packs has (before ++ (ready ++ spooled)) records (ends label old moment records label-is is count bytes) h))));
      bytes_are = bytes_behind ready (spooled ++ bodies_of old.packer) (spooled ++ bodies_of p) (session_label_bytes (end_label old moment))
          (bytes_behind spooled (bodies_of old.packer) (bodies_of p) (session_label_bytes (end_label old moment)) bytes);
    })
