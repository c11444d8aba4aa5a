-- What a packer keeps, and that all bytes stay.
use Rattle.std.proofs.Common.{◌≡◌, ◌≢◌, ℕ, ◌+◌, ◌<◌, ◌≤◌, refl, sym, ap, subst, ◌∙◌, arith, List, [], ◌∷◌, ◌++◌, length}
use Rattle.std.proofs.lemmas.List.{append_assoc, append-nil, length-append}
use Rattle.std.proofs.lemmas.Grind.{flat_map-append}
use Rattle.sd_base.specs.Record.{Record}
use Rattle.sd_label.specs.Cutting.{Standing, Between}
use Rattle.sd_record.specs.Fragment.{Fragment, fragment_bytes, fragments_bytes}
use Rattle.sd_record.proofs.FragmentLemmas.{length-fragment_bytes}
use Rattle.sd_pack.specs.Body.{PackedBody, IsWithin, IsBody, with_fragment, empty_body}
use Rattle.sd_pack.specs.Packing.{Packs, unless_empty, all_bytes}
use Rattle.sd_pack.specs.RecordParts.{bodies_alone}
use Rattle.sd_pack.specs.KeptPacker.{AreWithin, IsPacker}
use Rattle.sd_pack.proofs.BodyLemmas.{same_body, length_some, all_bytes-alone, all_bytes_and_open, bodies_and_open}

pub AreWithin-append : (room : ℕ) (xs ys : List PackedBody) → AreWithin room xs → AreWithin room ys → AreWithin room (xs ++ ys)
AreWithin-append room [] ys are are' = are'
AreWithin-append room (x ∷ xs) ys are are' = (are.0, AreWithin-append room xs ys are.1 are')

AreWithin-front : (room : ℕ) (xs ys : List PackedBody) → AreWithin room (xs ++ ys) → AreWithin room xs
AreWithin-front room [] ys are = tt
AreWithin-front room (x ∷ xs) ys are = (are.0, AreWithin-front room xs ys are.1)

AreWithin-back : (room : ℕ) (xs ys : List PackedBody) → AreWithin room (xs ++ ys) → AreWithin room ys
AreWithin-back room [] ys are = are
AreWithin-back room (x ∷ xs) ys are = AreWithin-back room xs ys are.1

pub AreWithin-wider : (room most : ℕ) (xs : List PackedBody) → room ≤ most → AreWithin room xs → AreWithin most xs
AreWithin-wider room most [] wide are = tt
AreWithin-wider room most (x ∷ xs) wide are =
    (record { least = are.0.least; most = let fits = are.0.most in omega arith }, AreWithin-wider room most xs wide are.1)

-- a body is within the room once a fragment that fits is in it
pub with_fragment_within : (room : ℕ) (body : PackedBody) (f : Fragment) → length body.bytes + length (fragment_bytes f) ≤ room → IsWithin room (with_fragment body f)
with_fragment_within room body f fits =
    let long = length-append body.bytes (fragment_bytes f) in
    let header = length-fragment_bytes f in
    record { least = omega arith; most = omega arith }

-- the last of bodies that were closed in order is within the room
pub last_within : (room : ℕ) (waiting waiting' : List PackedBody) (body body' : PackedBody) (later : List PackedBody) → AreWithin room waiting
    → AreWithin room (body ∷ later) → waiting' ++ body' ∷ [] ≡ (waiting ++ body ∷ []) ++ later → AreWithin room waiting' × IsWithin room body'
last_within room waiting waiting' body body' later are are' order =
    let all = subst (AreWithin room) (sym (order ∙ append_assoc waiting (body ∷ []) later)) (AreWithin-append room waiting (body ∷ later) are are') in
    (AreWithin-front room waiting' (body' ∷ []) all, (AreWithin-back room waiting' (body' ∷ []) all).0)

pub within_some : (room : ℕ) (body : PackedBody) → IsWithin room body → body.bytes ≢ []
within_some room body is = length_some body.bytes (let least = is.least in omega arith)

-- a packer stays one if the bodies that it closes and opens are within its room
pub stays_packer : (room : ℕ) (waiting waiting' : List PackedBody) (open_body body body' : PackedBody) (later : List PackedBody) (spare spare' : ℕ)
    → IsPacker room waiting open_body spare → AreWithin room (body ∷ later)
    → waiting' ++ body' ∷ [] ≡ (waiting ++ body ∷ []) ++ later → 0 < spare' → IsPacker room waiting' body' spare'
stays_packer room waiting waiting' open_body body body' later spare spare' is are order more =
    let last = last_within room waiting waiting' body body' later is.waiting_fit are order in
    let least = last.1.least in
    record {
      room_least = is.room_least;
      room_most = is.room_most;
      waiting_fit = last.0;
      open_fits = last.1.most;
      open_least = (λ some. least);
      open_spare = (λ some. more);
      none_open = (λ none. absurd (omega arith));
    }

-- an open body that has a byte may be closed
pub open_within : (room : ℕ) (waiting : List PackedBody) (body : PackedBody) (spare : ℕ) → IsPacker room waiting body spare → 0 < length body.bytes → IsWithin room body
open_within room waiting body spare is some = record { least = is.open_least some; most = is.open_fits }

pub open_is_body : (room : ℕ) (waiting : List PackedBody) (body : PackedBody) (spare : ℕ) → IsPacker room waiting body spare → 0 < length body.bytes → IsBody body
open_is_body room waiting body spare is some =
    record { least = is.open_least some; most = let fits = is.open_fits in let most = is.room_most in omega arith }

-- a packer without an open body stays one
pub finished_packer : (room : ℕ) (waiting waiting' : List PackedBody) (body body' : PackedBody) (spare spare' : ℕ) → IsPacker room waiting body spare
    → 0 < length body.bytes → waiting' ≡ waiting ++ body ∷ [] → body' ≡ empty_body → IsPacker room waiting' body' spare'
finished_packer room waiting waiting' body body' spare spare' is some closed none = record {
  room_least = is.room_least;
  room_most = is.room_most;
  waiting_fit = subst (AreWithin room) (sym closed) (AreWithin-append room waiting (body ∷ []) is.waiting_fit (open_within room waiting body spare is some, tt));
  open_fits = (let zero = ap (λ b. length b.bytes) none in omega arith);
  open_least = (λ more. let zero = ap (λ b. length b.bytes) none in absurd (omega arith));
  open_spare = (λ more. let zero = ap (λ b. length b.bytes) none in absurd (omega arith));
  none_open = (λ zero. (ap (λ b. b.first) none, ap (λ b. b.last) none));
}

-- a packer of no bodies has nothing in its open one
nothing_open : (bytes : List ℕ) (waiting : List PackedBody) (body : PackedBody) → waiting ++ unless_empty bytes body ≡ [] → (waiting ≡ []) × (bytes ≡ [])
nothing_open [] [] body e = (refl, refl)
nothing_open [] (x ∷ waiting) body e = absurd (cc e)
nothing_open (b ∷ bytes) [] body e = absurd (cc e)
nothing_open (b ∷ bytes) (x ∷ waiting) body e = absurd (cc e)

pub none_packed : (room : ℕ) (waiting : List PackedBody) (body : PackedBody) (spare : ℕ) → IsPacker room waiting body spare
    → waiting ++ unless_empty body.bytes body ≡ [] → (waiting ≡ []) × (body ≡ empty_body)
none_packed room waiting body spare is e =
    let none = nothing_open body.bytes waiting body e in
    let indexes = is.none_open (ap length none.1) in
    (none.0, same_body body empty_body none.1 indexes.0 indexes.1)

-- bodies as the list of those that wait and the open one, which is there before and after
pub framed : (room : ℕ) (taken waiting waiting' bodies : List PackedBody) (body body' : PackedBody) (records records' : List Record) (standing : Standing)
    → body.bytes ≢ [] → body'.bytes ≢ [] → waiting' ++ body' ∷ [] ≡ bodies
    → (Packs room (taken ++ (waiting ++ body ∷ [])) records Between → Packs room (taken ++ bodies) records' standing)
    → Packs room (taken ++ (waiting ++ unless_empty body.bytes body)) records Between
    → Packs room (taken ++ (waiting' ++ unless_empty body'.bytes body')) records' standing
framed room taken waiting waiting' bodies body body' records records' standing some some' order step packs =
    subst (λ l. Packs room (taken ++ l) records' standing) (sym (bodies_and_open waiting' body' some' ∙ order))
    (step (subst (λ l. Packs room (taken ++ l) records Between) (bodies_and_open waiting body some) packs))

-- All bytes stay.

pub adds_in : (waiting waiting' : List PackedBody) (body body' : PackedBody) (f : Fragment) (parts : List Fragment) (later : List PackedBody)
    → later ≡ bodies_alone parts → body'.bytes ≢ [] → waiting' ++ body' ∷ [] ≡ (waiting ++ with_fragment body f ∷ []) ++ later
    → all_bytes (waiting' ++ unless_empty body'.bytes body') ≡ all_bytes (waiting ++ unless_empty body.bytes body) ++ fragments_bytes (f ∷ parts)
adds_in waiting waiting' body body' f parts later are some order =
    ap all_bytes (bodies_and_open waiting' body' some ∙ order)
    ∙ flat_map-append (λ b. b.bytes) (waiting ++ with_fragment body f ∷ []) later
    ∙ ap (λ l. l ++ all_bytes later) (flat_map-append (λ b. b.bytes) waiting (with_fragment body f ∷ []))
    ∙ ap (λ l. (all_bytes waiting ++ ((body.bytes ++ fragment_bytes f) ++ [])) ++ l) (ap all_bytes are ∙ all_bytes-alone parts)
    ∙ ap (λ l. (all_bytes waiting ++ l) ++ fragments_bytes parts) (append-nil (body.bytes ++ fragment_bytes f))
    ∙ ap (λ l. l ++ fragments_bytes parts) (sym (append_assoc (all_bytes waiting) body.bytes (fragment_bytes f)))
    ∙ append_assoc (all_bytes waiting ++ body.bytes) (fragment_bytes f) (fragments_bytes parts)
    ∙ ap (λ l. l ++ fragments_bytes (f ∷ parts)) (sym (all_bytes_and_open waiting body))

pub adds_behind : (waiting waiting' : List PackedBody) (body body' : PackedBody) (f : Fragment) (parts : List Fragment) (later : List PackedBody)
    → later ≡ bodies_alone parts → body'.bytes ≢ [] → waiting' ++ body' ∷ [] ≡ (waiting ++ body ∷ []) ++ with_fragment empty_body f ∷ later
    → all_bytes (waiting' ++ unless_empty body'.bytes body') ≡ all_bytes (waiting ++ unless_empty body.bytes body) ++ fragments_bytes (f ∷ parts)
adds_behind waiting waiting' body body' f parts later are some order =
    ap all_bytes (bodies_and_open waiting' body' some ∙ order)
    ∙ flat_map-append (λ b. b.bytes) (waiting ++ body ∷ []) (with_fragment empty_body f ∷ later)
    ∙ ap (λ l. l ++ (fragment_bytes f ++ all_bytes later)) (flat_map-append (λ b. b.bytes) waiting (body ∷ []) ∙ ap (λ l. all_bytes waiting ++ l) (append-nil body.bytes))
    ∙ ap (λ l. (all_bytes waiting ++ body.bytes) ++ (fragment_bytes f ++ l)) (ap all_bytes are ∙ all_bytes-alone parts)
    ∙ ap (λ l. l ++ fragments_bytes (f ∷ parts)) (sym (all_bytes_and_open waiting body))
