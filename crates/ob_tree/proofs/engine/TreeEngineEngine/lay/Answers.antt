use Rattle.std.proofs.Common.{◌≡◌, suc, length, ap, arith}
use Rattle.std.proofs.lemmas.Option.{slice_get_within}
use Rattle.ob_checked.specs.CheckedModule.{program_in}
use Rattle.ob_code_correct.specs.CodeMeaning.{most, value_count}
use Rattle.ob_code_correct.specs.Compiled.{entrances_from}
use Rattle.ob_code_correct.proofs.ExportLaw.{most_has}
use Rattle.ob_tree.proofs.Known.{exports_are}
use Rattle.ob_tree.proofs.Typed.{arguments_count}
use Rattle.ob_tree.proofs.engine.TreeEngineEngine.lay.Goals as goal

pub lay-requires-clause-number : goal.lay-requires-clause-number
lay-requires-clause-number c =
    let f = c.requires.fits in
    let e = c.args.self.now in
    let exports = entrances_from 0 (program_in e.checked.now).procedures in
    let within = slice_get_within exports c.args.call.now.proc f.entrance f.there in
    let same : length e.exports.items ≡ length exports = ap (λ xs. length xs) (exports_are _ _ e.listed) in
    omega (arith, within, same, e.exports.ok, e.exports.small)

pub lay-requires-clause-room : goal.lay-requires-clause-room
lay-requires-clause-room c =
    let f = c.requires.fits in
    let exports = entrances_from 0 (program_in c.args.self.now.checked.now).procedures in
    let count = arguments_count f.entrance.parameters c.args.call.now.args.items f.typed in
    let has = most_has value_count exports c.args.call.now.proc f.entrance f.there in
    let long : length c.args.words.now ≡ suc (most value_count exports) = c.requires.words in
    let same = ap length c.as_slice.ensures in
    omega (arith, count, has, long, same)
