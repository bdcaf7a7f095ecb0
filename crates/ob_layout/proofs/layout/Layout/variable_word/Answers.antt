use Rattle.std.proofs.Common.{ap, sym, ◌∙◌}
use Rattle.std.proofs.Math.Logic.{∥∥₁_elim}
use Rattle.std.proofs.Props.{props}
use Rattle.ob_code_scheme.specs.Types.{word_in}
use Rattle.ob_layout.specs.Shapes.{types_of}
use Rattle.ob_layout.specs.View.{shapes_of}
use Rattle.ob_layout.proofs.Counted.{word_past}
use Rattle.ob_layout.proofs.layout.Layout.variable_word.Goals as goal

pub returns-in-None : goal.returns-in-None
returns-in-None c =
    let ts = types_of (shapes_of c.args.self.now.shapes) in
    ∥∥₁_elim c.args.self.now.scope (hlevel props)
    (λ e. c.words.ensures ∙ c.args.self.now.words.words ∙ sym (word_past ts c.args.self.now.block.spaces.items c.args.position c.in-None.ensures) ∙ ap (λ s. word_in s c.args.position) e)
