-- What goes into bodies comes out of them.
use Rattle.std.specs.Prelude.{◌≡◌, ℕ, List, ◌++◌}
use Rattle.sd_base.specs.Record.{Record}
use Rattle.sd_label.specs.Cutting.{Between, AtEnd}
use Rattle.sd_pack.specs.Body.{PackedBody}
use Rattle.sd_pack.specs.Packing.{Packs, bytes_of}
use Rattle.sd_unpack.specs.Unpacking.{Unpacking, Unpacks}
use Rattle.sd_unpack.specs.declared.stage.Stage.TheVariants.{Closed}

-- Whoever unpacked bodies that a packer made has, taken or still to be taken, exactly the records that
-- were put, once each and in order; and with the end label knows that the session ended.
abbrev pub PackedComesBack : Type 0
PackedComesBack = (room : ℕ) (bodies : List PackedBody) (records taken : List Record)
    (view : Unpacking)
    → Unpacks (bytes_of bodies) taken view
    → (Packs room bodies records Between → records ≡ taken ++ view.ready)
    × (Packs room bodies records AtEnd → (records ≡ taken ++ view.ready) × (view.stage ≡ Closed))
