use Rattle.std.proofs.Common.{◌≡◌, rules, tests, option_map, Bor}
use Rattle.std.specs.Prelude.{filter, slice_get}
use Rattle.std.proofs.lemmas.Iterator.{YieldsList-from_slice}
use Rattle.std.proofs.lemmas.Iterator.Consumers.{nth_from_yields_List, YieldsList-from_filter, YieldsList-at}
use Rattle.ob_checked.specs.declared.program.Procedure.{Procedure}
use Rattle.ob_checked.specs.View.{table_of}
use Rattle.ob_mean.proofs.Exports.{export_is}
use Rattle.ob_mean.proofs.outside_call.export.Goals as goal

pub returns : goal.returns
returns c =
    let procedures = c.args.program.now.procedures.items in
    let found : option_map (λ (p : Bor Procedure). p.now) c.nth.result ≡ slice_get (filter (λ (p : Procedure). p.is_exported) procedures) c.args.number =
    nth_from_yields_List _ _ _ c.nth.ensures.ran (YieldsList-from_filter _ (λ (p : Procedure). p.is_exported)
    (YieldsList-at c.filter.ensures.source (YieldsList-from_slice procedures cc)) c.filter.ensures.closure (λ x r q k. search (rules, tests))) in
    export_is (table_of c.args.program.now.types) c.nth.result procedures c.args.number found
