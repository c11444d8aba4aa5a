-- The bodies of a session that are found are those that were placed.
use Rattle.std.proofs.Common.{◌≡◌, ℕ, List, [], ◌∷◌, ◌++◌, map, sym, ap, ap₂, ◌∙◌}
use Rattle.std.proofs.lemmas.List.{append-nil, map-append}
use Rattle.sd_base.specs.declared.number.SessionKey.{SessionKey}
use Rattle.sd_drive.specs.Shelf.{placements_on}
use Rattle.sd_driver.specs.Shelf.{Shelf}
use Rattle.sd_scan.specs.Found.{Found, blocks_in, bodies_of}
use Rattle.sd_pack.specs.Body.{PackedBody}
use Rattle.sd_pack.specs.Packing.{bytes_of}
use Rattle.sd_readback.specs.Reading.{blocks_of}
use Rattle.sd_readback.proofs.ReadingLemmas.{blocks_of-append}
use Rattle.sd_span.specs.Spans.{placements_of}
use Rattle.sd_span.specs.declared.placement.Placement.{Placement}
use Rattle.sd_volume.specs.Volume.{VolumeView}
use Rattle.sd_world.proofs.BodyLemmas.{placed_bytes}
use Rattle.sd_theorem.specs.Placed.{FindOwn, FindsOwn, placements_over}
use Rattle.sd_theorem.proofs.SayLemmas.{placed_body, placed_own}

-- the bytes of the bodies at placements
abbrev pub bytes_at : Shelf → List Placement → List (List ℕ)
bytes_at shelf ps = bytes_of (map (placed_body shelf) ps)

bytes_more : (shelf : Shelf) (ps qs : List Placement) → bytes_at shelf (ps ++ qs) ≡ bytes_at shelf ps ++ bytes_at shelf qs
bytes_more shelf ps qs =
    ap bytes_of (map-append (placed_body shelf) ps qs) ∙ map-append (λ (b : PackedBody). b.bytes) (map (placed_body shelf) ps) (map (placed_body shelf) qs)

bodies_more : (key : SessionKey) (xs ys : List Found) → bodies_of key (xs ++ ys) ≡ bodies_of key xs ++ bodies_of key ys
bodies_more key xs ys = ap (blocks_of key) (map-append (λ (f : Found). f.block) xs ys) ∙ blocks_of-append key (blocks_in xs) (blocks_in ys)

-- on a volume
found_on : (key : SessionKey) (shelf : Shelf) (ps : List Placement) (v : VolumeView) (found : List Found) → FindsOwn key shelf ps v found
    → bodies_of key found ≡ bytes_at shelf (placements_of key (placements_on v.name ps))
found_on key shelf ps v found own =
    let f = own.finds in
    let here = placements_on v.name ps in
    let placed : bodies_of key f.own ≡ bytes_at shelf (placements_of key here) =
    ap (blocks_of key) f.blocks_are ∙ sym (placed_bytes key shelf here) ∙ ap bytes_of (placed_own key shelf here) in
    ap (bodies_of key) f.found_is ∙ bodies_more key f.earlier (f.own ++ f.behind)
    ∙ ap₂ (λ (x y : List (List ℕ)). x ++ y) own.none_earlier (bodies_more key f.own f.behind)
    ∙ ap₂ (λ (x y : List (List ℕ)). x ++ y) placed own.none_behind ∙ append-nil (bytes_at shelf (placements_of key here))

-- on volumes
pub found_over : (key : SessionKey) (shelf : Shelf) (ps : List Placement) (vs : List VolumeView) (found : List Found) → FindOwn key shelf ps vs found
    → bodies_of key found ≡ bytes_at shelf (placements_over key ps vs)
found_over key shelf ps [] found own = ap (bodies_of key) own
found_over key shelf ps (v ∷ vs) found own =
    ap (bodies_of key) own.2 ∙ bodies_more key own.0 own.1
    ∙ ap₂ (λ (x y : List (List ℕ)). x ++ y) (found_on key shelf ps v own.0 own.3) (found_over key shelf ps vs own.1 own.4)
    ∙ sym (bytes_more shelf (placements_of key (placements_on v.name ps)) (placements_over key ps vs))
