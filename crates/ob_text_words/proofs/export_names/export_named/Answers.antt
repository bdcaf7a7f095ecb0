use Rattle.std.proofs.Common.{◌≡◌, ℕ, rules, tests, option_map, Bor}
use Rattle.std.specs.Prelude.{bytes_eq, string_bytes}
use Rattle.std.specs.List.{find, enumerate_from}
use Rattle.std.proofs.lemmas.Iterator.{YieldsList-from_slice}
use Rattle.std.proofs.lemmas.Iterator.Consumers.{YieldsList-from_enumerate, YieldsList-at}
use Rattle.std.proofs.lemmas.Iterator.Search.{find_from_yields_List}
use Rattle.ob_interface.specs.declared.export.Export.{Export}
use Rattle.ob_text_words.proofs.ExportSearch.{export_found}
use Rattle.ob_text_words.proofs.export_names.export_named.Goals as goal

pub returns : goal.returns
returns c =
    let exports = c.args.exports.now in
    let name = c.args.name.now in
    let found : option_map (λ (e : ℕ × Bor Export). (e.0, e.1.now)) c.find.result
    ≡ find (λ (e : ℕ × Export). bytes_eq (string_bytes e.1.name) name) (enumerate_from 0 exports) =
    find_from_yields_List _ _ _ _ c.find.ensures.ran
    (YieldsList-from_enumerate (YieldsList-at c.enumerate.ensures.source (YieldsList-from_slice exports cc)) c.enumerate.ensures.count)
    (λ x r q k. search (rules, tests)) in
    export_found exports name c.find.result found
