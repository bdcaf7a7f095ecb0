use Rattle.std.proofs.Common.{refl}
use Rattle.obl0_c.proofs.NoWords.{not_utf8}
use Rattle.obl0_c.proofs.asking.words_in.Goals as goal

pub returns-in_default : goal.returns-in_default
returns-in_default c = not_utf8 c.args.texts.now c.loop-text.text-index _ c.loop-text-test.true c.in_default.ensures.cases.0
