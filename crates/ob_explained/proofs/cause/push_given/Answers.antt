use Rattle.std.proofs.Common.{◌≡◌, ◌∙◌, ◌++◌, ap, append_assoc, arith, codes, of_z, string_bytes, to_z, to_z-of_z, w32}
use Rattle.std.proofs.lemmas.Result.{on_ok_weaker}
use Rattle.std.specs.Fmt.{signed_decimal}
use Rattle.ob_explained.specs.TrapSentences.{index_text}
use Rattle.ob_explained.proofs.cause.push_given.Goals as goal

pub returns : goal.returns
unfolding index_text
returns c =
    let index = to_z w32 (of_z w32 c.args.index) in
    let same : to_z w32 (of_z w32 c.args.index) ≡ c.args.index = search (arith, to_z-of_z) in
    on_ok_weaker c.push_number.result
    (λ h. h ∙ ap (λ t. t ++ signed_decimal index) c.in_ok-push_str.ensures.bytes
    ∙ append_assoc (string_bytes c.args.sentence.now) (codes "the index is ") (signed_decimal index)
    ∙ ap (λ z. string_bytes c.args.sentence.now ++ (codes "the index is " ++ signed_decimal z)) same)
    c.push_number.ensures.ok
