use Rattle.std.proofs.Common.{inl, refl}
use Rattle.std.specs.Prelude.{IfSome, Option, None, Some}
use Rattle.sd_span.specs.declared.jobmedia.JobMediaFault.TheVariants as media
use Rattle.sd_files.specs.declared.input.SpansFault.TheVariants.{File, Text}
use Rattle.sd_files.proofs.read_file.read_back.Goals as goal

-- an input may fail at any text, and memory may run out at any
any_text : {A : Type 0} (o : Option A) → IfSome o (λ x. Unit {0})
any_text None = tt
any_text (Some x) = tt

pub returns-in_default : goal.returns-in_default
returns-in_default g c = (
  g.H.Host.device_of c.args.host.now c.args.folder.now c.args.progress,
  inl (record {
    fault = File;
    input_is = any_text _;
    device = refl;
    prints = c.given_up.ensures.says;
    status_is = c.given_up.ensures.status;
  }),
)

pub returns-in_default-open_folder : goal.returns-in_default-open_folder
returns-in_default-open_folder g c = (
  g.H.Host.device_of c.args.host.now c.args.folder.now c.args.progress,
  inl (record {
    fault = Text media.Memory;
    input_is = any_text _;
    device = refl;
    prints = c.given_up-in_default-open_folder.ensures.says;
    status_is = c.given_up-in_default-open_folder.ensures.status;
  }),
)
