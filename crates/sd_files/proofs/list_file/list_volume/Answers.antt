use Rattle.std.proofs.Common.{[], Err, inl, inr, refl, rules}
use Rattle.sd_volume.proofs.DeviceLemmas.{OnlyReads-as}
use Rattle.sd_volume.specs.Device.{OnlyReads}
use Rattle.sd_files.specs.declared.listing.ListFault.TheVariants.{Memory}
use Rattle.sd_files.proofs.list_file.list_volume.Goals as goal

pub returns-in_default-open_folder : goal.returns-in_default-open_folder
returns-in_default-open_folder g c =
    let folder = c.split_path-place.result.folder.now in
    let name = c.split_path-place.result.name.now in
    let device = g.H.Host.device_of c.args.host.now folder c.args.progress in
    let same : OnlyReads ⊥ device device = search rules in (
      folder,
      name,
      c.split_path-place.ensures,
      inr (
        c.in-Ok.ensures.accepted.0 refl,
        device,
        record {
          result = Err Memory;
          due = [];
          device = OnlyReads-as _ _ _ _ (λ f. absurd f) (λ f. cc) same;
          form = inl refl;
          lists = λ honest. inl refl;
          prints = c.refused-in_default-open_folder.ensures.says;
          status_is = c.refused-in_default-open_folder.ensures.status;
        },
      ),
    )
