use Rattle.std.proofs.Common.{◌≡◌, ◌++◌, take}
use Rattle.std.specs.List.{flat_map}
use Rattle.std.specs.String.{string_bytes}
use Rattle.sd_text.specs.Lines.{line}
use Rattle.sd_console.specs.Requests.{request_line}
use Rattle.sd_console.proofs.requests.put_requests.Given as goal

abbrev pub invariant-loop-request : goal.invariant-loop-request
invariant-loop-request l =
    string_bytes l.text ≡ string_bytes l.fn.text ++ flat_map (λ request. line (request_line request)) (take l.request-index l.requests)
