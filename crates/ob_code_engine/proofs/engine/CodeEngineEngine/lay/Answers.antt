use Rattle.std.proofs.Common.{◌≡◌, length, ap, arith}
use Rattle.std.proofs.lemmas.Option.{slice_get_within}
use Rattle.ob_code_correct.specs.CodeMeaning.{value_count}
use Rattle.ob_code_correct.proofs.ExportLaw.{most_has}
use Rattle.ob_code_engine.specs.CodeEngine.{CompiledParts}
use Rattle.ob_code_engine.proofs.Counts.{arguments_count}
use Rattle.ob_code_engine.proofs.engine.CodeEngineEngine.lay.Goals as goal

pub lay-requires-clause-number : goal.lay-requires-clause-number
lay-requires-clause-number c =
    let f = c.requires.fits in
    let within = slice_get_within c.args.self.now.parts.exports c.args.call.now.proc f.entrance f.there in
    let same : length c.self.inside.exports.items ≡ length c.args.self.now.parts.exports = ap (λ (v : CompiledParts). length v.parts.exports) c.self.view_is in
    omega (arith, within, same, c.self.inside.exports.ok, c.self.inside.exports.small)
