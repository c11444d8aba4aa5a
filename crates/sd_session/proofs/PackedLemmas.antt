-- What is packed of a session stays packed, whatever its steps do.
use Rattle.std.proofs.Common.{◌≡◌, ◌≢◌, ◌⊎◌, inl, inr, refl, map, ℕ, ◌+◌, ◌^◌, ◌<◌, ◌≤◌, Bool, sym, ap, subst, ◌∙◌, arith, List, [], ◌∷◌, ◌++◌, length}
use Rattle.std.specs.Prelude.{Option, Some, None}
use Rattle.std.specs.Option.{option_to_list}
use Rattle.std.proofs.lemmas.List.{append_assoc, append-nil, length-append}
use Rattle.sd_base.specs.Record.{Record}
use Rattle.sd_record.specs.Fragment.{Fragment}
use Rattle.sd_label.specs.Cutting.{Standing, Between, AtEnd, joined}
use Rattle.sd_pack.specs.Body.{PackedBody, body_of, empty_body}
use Rattle.sd_pack.specs.Packing.{PackerView, Packs, bodies_of, unless_empty, PacksRecord}
use Rattle.sd_spool.specs.Job.{JobView, shape_of}
use Rattle.sd_session.specs.declared.answer.Spooling.{Spooling}
use Rattle.sd_session.specs.declared.answer.Spooling.TheVariants.{Spooled, SpoolFull, Nothing, NoSpool}
use Rattle.sd_session.specs.declared.status.Status.{Status}
use Rattle.sd_session.specs.declared.status.Status.TheVariants.{Active}
use Rattle.sd_session.specs.Session.{SessionView, IsRunning, IsPacked, HasNoneDue, standing_of, spooled_count, spooled_in, due_of, parts_of}
use Rattle.sd_session.specs.Spooling.{PutsWaiting}
use Rattle.sd_session.specs.Sending.{Stations, stations_of, TakesNext}
use Rattle.sd_session.proofs.PartLemmas.{none_ready}
use Rattle.sd_session.proofs.CountLemmas.{bodies_counted, total_bytes-push}
use Rattle.sd_session.proofs.SessionLemmas.{waiting_alone}

pub packed_record : (old : SessionView) (r : Record) (n bytes last : ℕ) (p : PackerView) → IsPacked old → old.status ≡ Active
    → n ≡ old.count + 1 → bytes ≡ old.bytes + length r.bytes → PacksRecord old.packer p r → p.room ≡ old.packer.room
    → IsPacked (record old { count = n; bytes = bytes; last = last; packer = p })
packed_record old r n bytes last p packed active n-is bytes-is packs room =
    let between : Packs old.packer.room (packed.left ++ bodies_of old.packer) packed.records Between =
    subst (λ (st : Status). Packs old.packer.room (packed.left ++ bodies_of old.packer) packed.records (standing_of st)) active packed.packs in
    record {
      left = packed.left;
      records = packed.records ++ r ∷ [];
      count_is = length-append packed.records (r ∷ []) ∙ ap (λ (k : ℕ). k + 1) packed.count_is ∙ sym n-is;
      bytes_are = total_bytes-push packed.records r ∙ ap (λ (k : ℕ). k + length r.bytes) packed.bytes_are ∙ sym bytes-is;
      room_least = subst (λ (k : ℕ). 1000 ≤ k) (sym room) packed.room_least;
      packs = subst (λ (st : Status). Packs p.room (packed.left ++ bodies_of p) (packed.records ++ r ∷ []) (standing_of st)) (sym active) (packs packed.left packed.records between);
      left_are = packed.left_are;
    }

-- bodies move from one station to another
packed_with : (old : SessionView) (packed : IsPacked old) (left : List PackedBody) (sent : ℕ) (ready : Option PackedBody) (spool : Option JobView) (despooling : Bool) (p : PackerView)
    → p.room ≡ old.packer.room → left ++ bodies_of p ≡ packed.left ++ bodies_of old.packer
    → length left ≡ sent + (length (option_to_list ready) + spooled_count spool)
    → IsPacked (record old { sent = sent; ready = ready; spool = spool; despooling = despooling; packer = p })
packed_with old packed left sent ready spool despooling p room same left-are = record {
  left = left;
  records = packed.records;
  count_is = packed.count_is;
  bytes_are = packed.bytes_are;
  room_least = subst (λ (k : ℕ). 1000 ≤ k) (sym room) packed.room_least;
  packs = subst (λ (k : ℕ). Packs k (left ++ bodies_of p) packed.records (standing_of old.status)) (sym room)
      (subst (λ (l : List PackedBody). Packs old.packer.room l packed.records (standing_of old.status)) (sym same) packed.packs);
  left_are = left-are;
}

-- the body that waited longest has left the packer
body_out : (left : List PackedBody) (body : PackedBody) (p q : PackerView) → p.waiting ≡ body ∷ q.waiting → q.open_body ≡ p.open_body
    → (left ++ body ∷ []) ++ bodies_of q ≡ left ++ bodies_of p
body_out left body p q waiting open_is =
    let out : bodies_of p ≡ body ∷ bodies_of q =
    ap (λ (l : List PackedBody). l ++ unless_empty p.open_body.bytes p.open_body) waiting
    ∙ ap (λ (b : PackedBody). body ∷ (q.waiting ++ unless_empty b.bytes b)) (sym open_is) in
    append_assoc left (body ∷ []) (bodies_of q) ∙ ap (λ (l : List PackedBody). left ++ l) (sym out)

same_session : (old : SessionView) (spool : Option JobView) (despooling : Bool) (p : PackerView) → spool ≡ old.spool → p ≡ old.packer → IsPacked old
    → IsPacked (record old { spool = spool; despooling = despooling; packer = p })
same_session old spool despooling p spool-is packer-is packed =
    packed_with old packed packed.left old.sent old.ready spool despooling p (ap (λ (x : PackerView). x.room) packer-is)
    (ap (λ (x : PackerView). packed.left ++ bodies_of x) packer-is)
    (packed.left_are ∙ ap (λ (j : Option JobView). old.sent + (length (option_to_list old.ready) + spooled_count j)) (sym spool-is))

pub packed_spooling : (answer : Spooling) (old : SessionView) (job job' : JobView) (despooling despooling' : Bool) (p : PackerView)
    → PutsWaiting answer despooling job old.packer job' p → old.spool ≡ Some job → IsPacked old
    → IsPacked (record old { spool = Some job'; despooling = despooling'; packer = p })
packed_spooling Spooled old job job' despooling despooling' p moves spool-is packed =
    let body = moves.body in
    let before = ap spooled_count spool-is in
    let more = ap length moves.puts.shapes ∙ length-append job.shapes (shape_of body ∷ []) in
    let longer = length-append packed.left (body ∷ []) in
    let left = packed.left_are in
    packed_with old packed (packed.left ++ body ∷ []) old.sent old.ready (Some job') despooling' p moves.room_is
    (body_out packed.left body old.packer p moves.goes_in.waits moves.open_is) (omega arith)
packed_spooling SpoolFull old job job' despooling despooling' p same spool-is packed =
    same_session old (Some job') despooling' p (ap (λ (j : JobView). Some j) same.1 ∙ sym spool-is) same.2 packed
packed_spooling Nothing old job job' despooling despooling' p same spool-is packed =
    same_session old (Some job') despooling' p (ap (λ (j : JobView). Some j) same.1 ∙ sym spool-is) same.2 packed
packed_spooling NoSpool old job job' despooling despooling' p never spool-is packed = absurd never

-- the next body is sent or ready
pub packed_next : (old : SessionView) (body : PackedBody) (between : Stations) (sent : ℕ) (ready : Option PackedBody) (despooling : Bool)
    → TakesNext body (stations_of old) between → sent + length (option_to_list ready) ≡ old.sent + 1 → IsPacked old
    → IsPacked (record old { sent = sent; ready = ready; spool = between.spool; despooling = despooling; packer = between.packer })
packed_next old body between sent ready despooling (inl (there, is)) one packed =
    let had = ap (λ (o : Option PackedBody). length (option_to_list o)) there in
    let spool = ap (λ (x : Stations). spooled_count x.spool) is in
    let left = packed.left_are in
    packed_with old packed packed.left sent ready between.spool despooling between.packer (ap (λ (x : Stations). x.packer.room) is)
    (ap (λ (x : Stations). packed.left ++ bodies_of x.packer) is) (omega arith)
packed_next old body between sent ready despooling (inr (inl (none, leaves))) one packed =
    let had = ap (λ (o : Option PackedBody). length (option_to_list o)) none in
    let before = ap spooled_count leaves.spool_is in
    let less = ap length leaves.takes.shapes in
    let spool = ap (λ (x : Stations). spooled_count x.spool) leaves.is in
    let left = packed.left_are in
    packed_with old packed packed.left sent ready between.spool despooling between.packer (ap (λ (x : Stations). x.packer.room) leaves.is)
    (ap (λ (x : Stations). packed.left ++ bodies_of x.packer) leaves.is) (omega arith)
packed_next old body between sent ready despooling (inr (inr (none, no_spool, stops))) one packed =
    let had = ap (λ (o : Option PackedBody). length (option_to_list o)) none in
    let spool = ap (λ (x : Stations). spooled_count x.spool) stops.is in
    let longer = length-append packed.left (body ∷ []) in
    let left = packed.left_are in
    packed_with old packed (packed.left ++ body ∷ []) sent ready between.spool despooling between.packer stops.room_is
    (body_out packed.left body old.packer between.packer stops.waiting stops.open_is) (omega arith)

pub packed_sent : (old : SessionView) (body : PackedBody) (between : Stations) (despooling : Bool) → TakesNext body (stations_of old) between → IsPacked old
    → IsPacked (record old { sent = old.sent + 1; ready = between.ready; spool = between.spool; despooling = despooling; packer = between.packer })
packed_sent old body between despooling takes packed =
    let none = ap (λ (o : Option PackedBody). length (option_to_list o)) (none_ready body (stations_of old) between takes) in
    packed_next old body between (old.sent + 1) between.ready despooling takes (omega arith) packed

pub packed_ready : (old : SessionView) (body back : PackedBody) (between : Stations) → TakesNext body (stations_of old) between → IsPacked old
    → IsPacked (record old { ready = Some back; spool = between.spool; packer = between.packer })
packed_ready old body back between takes packed = packed_next old body between old.sent (Some back) old.despooling takes (omega arith) packed

how_it_stands : (status : Status) → IsRunning status → (standing_of status ≡ Between) ⊎ (standing_of status ≡ AtEnd)
how_it_stands status (inl e) = inl (ap standing_of e)
how_it_stands status (inr e) = inr (ap standing_of e)

-- the number of the next piece can be counted
pub number_fits : (old : SessionView) (body : PackedBody) (between : Stations) → TakesNext body (stations_of old) between → IsRunning old.status → IsPacked old
    → old.count < 2 ^ 64 → old.bytes < 2 ^ 64 → old.sent + 1 < 2 ^ 64
number_fits old body between takes running packed count bytes =
    let next = packed_next old body between (old.sent + 1) None old.despooling takes (omega arith) packed in
    let fewer = bodies_counted between.packer.room (next.left ++ bodies_of between.packer) next.records (standing_of old.status) (how_it_stands old.status running)
    next.room_least next.packs (subst (λ (k : ℕ). k < 2 ^ 64) (sym next.count_is) count) (subst (λ (k : ℕ). k < 2 ^ 64) (sym next.bytes_are) bytes) in
    let long = length-append next.left (bodies_of between.packer) in
    let left = next.left_are in
    omega arith

-- A body was sent.

none_joined : (fragments : List (List Fragment)) → [] ≡ map body_of fragments → fragments ≡ []
none_joined [] is = refl
none_joined (fs ∷ fragments) is = cc

-- no bodies hold no session, which has its start label at least
some_bodies : (room : ℕ) (records : List Record) (standing : Standing) → Packs room [] records standing → ⊥
some_bodies room records standing packs = cc (ap joined (sym (none_joined packs.fragments packs.bodies_are)) ∙ packs.holds_by.session_is.order)

one_left : (room : ℕ) (left : List PackedBody) (records : List Record) (standing : Standing) → Packs room left records standing → 1 ≤ length left
one_left room [] records standing packs = absurd (some_bodies room records standing packs)
one_left room (body ∷ left) records standing packs = omega arith

-- a session that has no closed body, and none open, has none
pub nothing_left : (s : SessionView) → s.packer.open_body ≡ empty_body → (due_of s ≢ [] → ⊥) → parts_of s ≡ []
nothing_left s closed none =
    ap (λ l. option_to_list s.ready ++ (spooled_in s.spool ++ l)) (waiting_alone s.packer closed) ∙ empty (due_of s) none
  where
    empty : (bodies : List PackedBody) → (bodies ≢ [] → ⊥) → bodies ≡ []
    empty [] none = refl
    empty (b ∷ bodies) none = absurd (none (λ e. cc e))

-- of a session that has no closed body left, and none open, one was sent
pub some_sent : (s : SessionView) → IsPacked s → s.packer.open_body ≡ empty_body → HasNoneDue s → 1 ≤ s.sent
some_sent s packed closed none =
    let nothing : bodies_of s.packer ≡ [] = waiting_alone s.packer closed ∙ none.none_waits in
    let one = one_left s.packer.room packed.left packed.records (standing_of s.status)
    (subst (λ (l : List PackedBody). Packs s.packer.room l packed.records (standing_of s.status)) (ap (λ (l : List PackedBody). packed.left ++ l) nothing ∙ append-nil packed.left) packed.packs) in
    let ready = ap (λ (o : Option PackedBody). length (option_to_list o)) none.none_ready in
    let spooled = none.none_spooled in
    let left = packed.left_are in
    omega arith
