use Rattle.std.proofs.lemmas.Result.{on_ok_weaker}
use Rattle.ob_object_compile.proofs.Listings.{procedure_written, procedure_missing}
use Rattle.ob_object_compile.proofs.code_text.push_procedure.Goals as goal

pub returns-in_ok-push_heading-in-Some : goal.returns-in_ok-push_heading-in-Some
returns-in_ok-push_heading-in-Some c =
    on_ok_weaker c.push_lines.result
    (λ lines. procedure_written _ _ _ c.args.name.now c.args.code.now.instructions c.args.code.now.entries c.args.procedure c.in-Some.entry c.from.result c.end_of.result c.in-Some.ensures c.from.ensures c.end_of.ensures c.in_ok-push_heading-in-Some.ensures lines)
    c.push_lines.ensures

pub returns-in-None : goal.returns-in-None
returns-in-None c = procedure_missing _ c.args.name.now c.args.code.now.instructions c.args.code.now.entries c.args.procedure c.in-None.ensures
