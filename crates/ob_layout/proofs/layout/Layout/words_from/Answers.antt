use Rattle.std.proofs.Common.{arith}
use Rattle.ob_code_scheme.specs.Types.{scope_at}
use Rattle.ob_layout.specs.Layout.{parts_of}
use Rattle.ob_layout.proofs.Counted.{words_apart}
use Rattle.ob_layout.proofs.layout.Layout.words_from.Goals as goal

pub returns : goal.returns
returns c =
    let apart = words_apart (scope_at (parts_of c.args.self.now).frames c.args.procedure) c.args.position in
    omega (arith, apart, c.frame_words.ensures, c.own.ensures.word)

pub overflow_sub-result : goal.overflow_sub-result
overflow_sub-result c =
    let apart = words_apart (scope_at (parts_of c.args.self.now).frames c.args.procedure) c.args.position in
    omega (arith, apart, c.frame_words.ensures, c.own.ensures.word)
