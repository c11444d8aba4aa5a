-- What jobs came to, place by place.
use Rattle.std.proofs.Common.{◌≡◌, ℕ, zero, suc, ◌+◌, ◌-◌, ◌<◌, refl, sym, ap, subst, ◌∙◌, arith, if◌then◌else◌, append-nil, append_assoc, Bool, true, false, Option, Some, None, List, [], ◌∷◌, ◌++◌, length, map, option_to_list, take, slice_get}
use Rattle.std.specs.List.{AllZip}
use Rattle.std.specs.Option.{option_map}
use Rattle.std.proofs.lemmas.Option.{slice_get-map, slice_get_within}
use Rattle.sd_drive.specs.Receipt.{ReceiptIs}
use Rattle.sd_hub.specs.Settles.{end_at, is_end}
use Rattle.sd_jobs.specs.Jobs.{JobIs, JobEndIs, EndEach, EndsJob}
use Rattle.sd_line.specs.Ends.{EndIs, ToldSession}
use Rattle.sd_returned.specs.Listed.{lane_ends, last_spools, receipts_in}

-- Places.

-- what is at a place of a list is at that of its image
pub get_map : {X Y : Type 0} (f : X → Y) (xs : List X) (k : ℕ) (x : X) → slice_get xs k ≡ Some x → slice_get (map f xs) k ≡ Some (f x)
get_map f xs k x is = slice_get-map f xs k ∙ ap (option_map f) is

-- what is at a place of a list is behind others too
get_behind : {A : Type 0} (xs ys : List A) (at : ℕ) (x : A) → slice_get ys at ≡ Some x → (k : ℕ) × (slice_get (xs ++ ys) k ≡ Some x)
get_behind [] ys at x there = (at, there)
get_behind (y ∷ xs) ys at x there = let k = get_behind xs ys at x there in (suc k.0, k.1)

-- the last is behind the others
pub last_there : {A : Type 0} (xs : List A) (x : A) → slice_get (xs ++ x ∷ []) (length xs) ≡ Some x
last_there [] x = refl
last_there (y ∷ xs) x = last_there xs x

-- What jobs came to.

-- each job came to what is at its place
pub ends_at : (jobs : List JobIs) (ends : List JobEndIs) (place : ℕ) (job : JobIs) (end : JobEndIs) → EndEach jobs ends → slice_get jobs place ≡ Some job
    → slice_get ends place ≡ Some end → EndsJob job end
ends_at [] ends place job end each there is = absurd (cc there)
ends_at (j ∷ jobs) [] place job end each there is = absurd each
ends_at (j ∷ jobs) (e ∷ ends) zero job end each there is =
    let one : j ≡ job = cc there in
    let other : e ≡ end = cc is in
    subst (λ x. EndsJob x end) one (subst (EndsJob j) other each.0)
ends_at (j ∷ jobs) (e ∷ ends) (suc place) job end each there is = ends_at jobs ends place job end each.1 there is

-- the receipt of one is among all
pub receipt_there : (ends : List JobEndIs) (place : ℕ) (end : JobEndIs) (r : ReceiptIs) → slice_get ends place ≡ Some end → end.receipt ≡ Some r
    → (at : ℕ) × (slice_get (receipts_in ends) at ≡ Some r)
receipt_there [] place end r there is = absurd (cc there)
receipt_there (e ∷ ends) zero end r there is =
    let same : e ≡ end = cc there in
    let own : e.receipt ≡ Some r = ap (λ (x : JobEndIs). x.receipt) same ∙ is in
    (0, by e.receipt own)
  where
    by : (o : Option ReceiptIs) → o ≡ Some r → slice_get (option_to_list o ++ receipts_in ends) 0 ≡ Some r
    by None is = absurd (cc is)
    by (Some x) is = is
receipt_there (e ∷ ends) (suc place) end r there is =
    let rest = receipt_there ends place end r there is in
    get_behind (option_to_list e.receipt) (receipts_in ends) rest.0 r rest.1

-- Ends.

-- the end that is found of a lane is among the ends
pub end_there : (own lane : ℕ) (ends : List EndIs) (end : EndIs) → end_at own lane ends ≡ Some end → (at : ℕ) × (slice_get ends at ≡ Some end)
end_there own lane [] end found = absurd (cc found)
end_there own lane (e ∷ ends) end found = by (λ is. end_there own lane ends end is) (is_end own lane e) found
  where
    by : (end_at own lane ends ≡ Some end → (at : ℕ) × (slice_get ends at ≡ Some end)) → (b : Bool) → (if b then Some e else end_at own lane ends) ≡ Some end
        → (at : ℕ) × (slice_get (e ∷ ends) at ≡ Some end)
    by behind true is = (0, is)
    by behind false is = let rest = behind is in (suc rest.0, rest.1)

-- whether the last session spools
pub last_spools-is : (before : List ToldSession) (s : ToldSession) → last_spools (before ++ s ∷ []) ≡ s.spools
last_spools-is [] s = refl
last_spools-is (x ∷ []) s = refl
last_spools-is (x ∷ y ∷ before) s = last_spools-is (y ∷ before) s

-- The last session.

last_spools-at : (ss : List ToldSession) (at : ℕ) (s : ToldSession) → at + 1 ≡ length ss → slice_get ss at ≡ Some s → s.spools ≡ last_spools ss
last_spools-at [] at s long there = absurd (cc there)
last_spools-at (x ∷ []) zero s long there = let same : x ≡ s = cc there in ap (λ (y : ToldSession). y.spools) (sym same)
last_spools-at (x ∷ []) (suc at) s long there = absurd (cc there)
last_spools-at (x ∷ y ∷ ss) zero s long there = absurd (omega (arith, long))
last_spools-at (x ∷ y ∷ ss) (suc at) s long there = last_spools-at (y ∷ ss) at s (omega (arith, long)) there

-- if there is one
pub last_is : (ss : List ToldSession) (s : ToldSession) → Some s ≡ slice_get ss (length ss - 1) → s.spools ≡ last_spools ss
last_is ss s is =
    let within = slice_get_within ss (length ss - 1) s (sym is) in
    last_spools-at ss (length ss - 1) s (omega (arith, within)) (sym is)

-- if there is none
pub none_last : (ss : List ToldSession) → None ≡ slice_get ss (length ss - 1) → false ≡ last_spools ss
none_last [] is = refl
none_last (x ∷ ss) is = absurd (some (x ∷ ss) (length (x ∷ ss) - 1) (omega arith) (sym is))
  where
    some : (ys : List ToldSession) (at : ℕ) → at < length ys → slice_get ys at ≡ None → ⊥
    some [] at below none = omega (arith, below)
    some (y ∷ ys) zero below none = cc none
    some (y ∷ ys) (suc at) below none = some ys at (omega (arith, below)) none

-- One more.

-- of one more of these
pub map_more : {X Y : Type 0} (f : X → Y) (xs : List X) (at : ℕ) (x : X) → slice_get xs at ≡ Some x → map f (take (at + 1) xs) ≡ map f (take at xs) ++ f x ∷ []
map_more f [] at x is = absurd (cc is)
map_more f (y ∷ xs) zero x is = let same : y ≡ x = cc is in ap (λ z. f z ∷ []) same
map_more f (y ∷ xs) (suc at) x is =
    let up : suc at + 1 ≡ suc (at + 1) = omega arith in
    ap (λ n. map f (take n (y ∷ xs))) up ∙ ap (λ l. f y ∷ l) (map_more f xs at x is)

-- the receipts with one more
pub receipts_more : (es : List JobEndIs) (e : JobEndIs) → receipts_in (es ++ e ∷ []) ≡ receipts_in es ++ option_to_list e.receipt
receipts_more [] e = append-nil (option_to_list e.receipt)
receipts_more (x ∷ es) e = ap (λ l. option_to_list x.receipt ++ l) (receipts_more es e) ∙ sym (append_assoc (option_to_list x.receipt) (receipts_in es) (option_to_list e.receipt))

-- Two lists, place by place.

-- what holds with one more
pub zip_more : {A B : Type 0} (R : A → B → Type 0) (xs : List A) (ys : List B) (x : A) (y : B) → AllZip R xs ys → R x y → AllZip R (xs ++ x ∷ []) (ys ++ y ∷ [])
zip_more R [] [] x y all one = (one, tt)
zip_more R [] (b ∷ ys) x y all one = absurd all
zip_more R (a ∷ xs) [] x y all one = absurd all
zip_more R (a ∷ xs) (b ∷ ys) x y all one = (all.0, zip_more R xs ys x y all.1 one)

-- with as many in the other there is one at each place
pub same_place : {A B : Type 0} (xs : List A) (ys : List B) (k : ℕ) (x : A) → slice_get xs k ≡ Some x → length ys ≡ length xs → (y : B) × (slice_get ys k ≡ Some y)
same_place [] ys k x is long = absurd (cc is)
same_place (z ∷ xs) [] k x is long = absurd (omega (arith, long))
same_place (z ∷ xs) (y ∷ ys) zero x is long = (y, refl)
same_place (z ∷ xs) (y ∷ ys) (suc k) x is long = same_place xs ys k x is (omega (arith, long))

-- it holds at each place
pub zip_at : {A B : Type 0} (R : A → B → Type 0) (xs : List A) (ys : List B) → AllZip R xs ys → (k : ℕ) (x : A) (y : B) → slice_get xs k ≡ Some x → slice_get ys k ≡ Some y → R x y
zip_at R [] ys all k x y at is = absurd (cc at)
zip_at R (a ∷ xs) [] all k x y at is = absurd all
zip_at R (a ∷ xs) (b ∷ ys) all zero x y at is =
    let one : a ≡ x = cc at in
    let other : b ≡ y = cc is in
    subst (λ z. R z y) one (subst (R a) other all.0)
zip_at R (a ∷ xs) (b ∷ ys) all (suc k) x y at is = zip_at R xs ys all.1 k x y at is

-- what holds at each place holds
pub zip_from : {A B : Type 0} (R : A → B → Type 0) (xs : List A) (ys : List B) → length ys ≡ length xs
    → ((k : ℕ) (x : A) (y : B) → slice_get xs k ≡ Some x → slice_get ys k ≡ Some y → R x y) → AllZip R xs ys
zip_from R [] [] long each = tt
zip_from R [] (y ∷ ys) long each = absurd (omega (arith, long))
zip_from R (x ∷ xs) [] long each = absurd (omega (arith, long))
zip_from R (x ∷ xs) (y ∷ ys) long each = (each 0 x y refl refl, zip_from R xs ys (omega (arith, long)) (λ k a b at is. each (suc k) a b at is))

-- Ends of jobs.

-- the end at a place is that of a job
pub end_of_job : (ends : List JobEndIs) (at : ℕ) (end : EndIs) → slice_get (lane_ends ends) at ≡ Some end → (job : JobEndIs) × (slice_get ends at ≡ Some job) × (job.lane_end ≡ end)
end_of_job [] at end there = absurd (cc there)
end_of_job (e ∷ ends) zero end there = (e, refl, cc there)
end_of_job (e ∷ ends) (suc at) end there = end_of_job ends at end there
