use Rattle.std.proofs.Common.{◌++◌, ◌∙◌, List, ℕ, ap, append_assoc, decimal, string_bytes}
use Rattle.ob_fault_lines.proofs.count_lines.push_part.Goals as goal

pub returns : goal.returns
returns c =
    let old = string_bytes c.args.line.now in
    let number : List ℕ = decimal c.args.number in
    let words : List ℕ = c.args.words.now in
    c.in_ok-push_str.ensures.bytes ∙ ap (λ t. t ++ words) c.in_ok-push_number.ensures.ok ∙ append_assoc old number words
