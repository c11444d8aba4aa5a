use Rattle.sd_pack.specs.Packing.{bytes_of}
use Rattle.sd_unpack.proofs.BodyLemmas.{cutting_unpacked}
use Rattle.sd_theorem.proofs.round_trip.packed_comes_back.Goals as goal

pub returns : goal.returns
returns c room bodies records taken view unpacks =
    let back = cutting_unpacked (bytes_of bodies) records taken view unpacks in (
      (λ packs. back.0 (record { fragments = packs.fragments; holds_by = packs.holds_by })),
      (λ packs. back.1 (record { fragments = packs.fragments; holds_by = packs.holds_by })),
    )
