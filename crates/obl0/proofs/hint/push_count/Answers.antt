use Rattle.std.proofs.Common.{◌++◌, ◌∙◌, List, ℕ, ap, append_assoc, codes, string_bytes}
use Rattle.std.specs.Fmt.{decimal}
use Rattle.obl0.proofs.hint.push_count.Goals as goal

pub returns : goal.returns
returns c =
    let old = string_bytes c.args.text.now in
    let option : List ℕ = codes " -n " in
    let number : List ℕ = decimal c.args.processes in
    c.in_ok-push_number.ensures.ok ∙ ap (λ t. t ++ number) c.in_ok-push_str.ensures.bytes ∙ append_assoc old option number
