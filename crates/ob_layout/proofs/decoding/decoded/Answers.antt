use Rattle.std.proofs.Common.{◌++◌, ◌∙◌, option_map, map, drop, ap, sym}
use Rattle.ob_code_scheme.specs.Layout as Words
use Rattle.ob_meaning.specs.ByPositionStore.{Activation}
use Rattle.ob_store.specs.View.{variables_in}
use Rattle.ob_layout.specs.Frames.{variable_by}
use Rattle.ob_layout.specs.Shapes.{types_of}
use Rattle.ob_layout.specs.View.{shapes_of}
use Rattle.ob_layout.proofs.Decoded.{drop_end, words_left}
use Rattle.ob_layout.proofs.decoding.decoded.Goals as goal

pub returns-then-at-words : goal.returns-then-at-words
returns-then-at-words c =
    let so_far = λ (s : Activation). variables_in c.loop-variable.values.items ++ s in
    ap (option_map so_far) (words_left c.args.words.now c.loop-variable.at c.if-at-words.true)
    ∙ ap (λ vs. option_map so_far (Words.decoded (map (variable_by (types_of (shapes_of c.args.shapes.now))) vs) (drop c.loop-variable.at c.args.words.now))) (sym (drop_end c.args.variables.now c.loop-variable.variable-index c.loop-variable-test.false))
    ∙ c.loop-variable.invariant
