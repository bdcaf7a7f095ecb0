use Rattle.std.proofs.Common.{◌≡◌, ◌∙◌, ◌++◌, ◌-◌, ap, append_assoc, codes, rules, string_bytes}
use Rattle.std.proofs.lemmas.Result.{on_ok_weaker}
use Rattle.std.specs.Prelude.{decimal}
use Rattle.ob_explained.specs.TrapSentences.{indices_text}
use Rattle.ob_explained.proofs.cause.push_indices.Goals as goal

pub returns : goal.returns
unfolding indices_text
returns c =
    let before : c.saturating_sub.result ≡ c.args.length - 1 = search rules in
    on_ok_weaker c.push_number.result
    (λ h. h ∙ ap (λ t. t ++ decimal c.saturating_sub.result) c.in_ok-push_str.ensures.bytes
    ∙ append_assoc (string_bytes c.args.sentence.now) (codes ", and the array has the indices 0 to ") (decimal c.saturating_sub.result)
    ∙ ap (λ n. string_bytes c.args.sentence.now ++ (codes ", and the array has the indices 0 to " ++ decimal n)) before)
    c.push_number.ensures.ok
