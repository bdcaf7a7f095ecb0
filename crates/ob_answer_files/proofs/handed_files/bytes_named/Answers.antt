use Rattle.std.proofs.Common.{◌∙◌, ◌<◌, ℕ, Bor, List, arith, length, map}
use Rattle.std.proofs.lemmas.List.{length-map}
use Rattle.ob_answer_files.proofs.Named.{none_left}
use Rattle.ob_answer_files.proofs.handed_files.bytes_named.Goals as goal

pub returns : goal.returns
returns c =
    let rest : List (List ℕ) = map (λ (text : Bor (List ℕ)). text.now) c.loop-place.rest.now in
    let same = length-map c.loop-place.rest.now (λ (text : Bor (List ℕ)). text.now) in
    let short : length rest < 2 = omega (arith, same, c.loop-place.invariant.left, c.loop-place-test.false) in
    none_left c.args.name.now rest short ∙ c.loop-place.invariant.found
