use Rattle.std.proofs.Common.{◌++◌, ◌∙◌, List, ℕ, ap, append_assoc, codes, string_bytes}
use Rattle.ob_command.proofs.mistakes.push_tip.Goals as goal

pub returns : goal.returns
returns c =
    let old = string_bytes c.args.text.now in
    let first : List ℕ = codes "\n\n  tip: `-n " in
    let number : List ℕ = c.args.number.now in
    let last : List ℕ = codes "` gives the number of processes\n\n" in
    c.in_ok-push_str-3.ensures.bytes
    ∙ ap (λ t. t ++ last) (c.in_ok-push_str-2.ensures.bytes ∙ ap (λ t. t ++ number) c.in_ok-push_str.ensures.bytes)
    ∙ ap (λ t. t ++ last) (append_assoc old first number) ∙ append_assoc old (first ++ number) last
