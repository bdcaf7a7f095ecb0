use Rattle.std.proofs.Common.{◌++◌, ◌∙◌, List, ℕ, ap, append_assoc, codes, string_bytes}
use Rattle.obl0.proofs.hint.push_name.Goals as goal

pub returns : goal.returns
returns c =
    let old = string_bytes c.args.text.now in
    let blank : List ℕ = codes " " in
    let name : List ℕ = c.named.result.now in
    c.in_ok-push_str-2.ensures.bytes ∙ ap (λ t. t ++ name) c.in_ok-push_str.ensures.bytes
    ∙ append_assoc old blank name ∙ ap (λ (t : List ℕ). old ++ (blank ++ t)) c.named.ensures
