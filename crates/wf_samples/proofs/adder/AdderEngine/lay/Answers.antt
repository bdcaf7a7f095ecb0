use Rattle.std.proofs.Common.{◌≡◌, arith, to_z, of_z, w64, to_z-of_z, ◌∙◌}
use Rattle.wf_samples.proofs.Laid.{one_word}
use Rattle.wf_samples.proofs.adder.AdderEngine.lay.Goals as goal

pub returns : goal.returns
returns c =
    let same : to_z w64 (of_z w64 c.argument.result) ≡ c.argument.result = search (arith, to_z-of_z) in
    one_word c.args.words.now _ _ c.requires.words (same ∙ c.argument.ensures)
