use Rattle.std.proofs.Common.{◌<◌, ◌++◌, drop, length, map, ap, ◌∙◌, arith}
use Rattle.std.specs.Prelude.{string_bytes}
use Rattle.std.proofs.lemmas.List.{length-map}
use Rattle.ob_object_compile.specs.Listing.{procedure_text}
use Rattle.ob_object_compile.proofs.Listings.{name_at, procedure_more}
use Rattle.ob_object_compile.proofs.code_text.list.Goals as goal

pub loop-k-preserved : goal.loop-k-preserved
loop-k-preserved c =
    let names = map string_bytes c.args.names.now in
    let k = c.loop-k.k in
    let instructions = c.args.code.now.instructions in
    let entries = c.args.code.now.entries in
    let within : k < length names = simp length-map (omega arith) in
    let written = c.in_ok-push_procedure.ensures ∙ ap (λ name. string_bytes c.loop-k.text ++ procedure_text instructions (drop k entries) name) c.as_str.ensures.value in
    procedure_more _ _ _ instructions entries names k (string_bytes c.index-names-k.result) within
    (name_at string_bytes c.args.names.now k c.index-names-k.result c.loop-k-test.true c.index-names-k.is) written c.loop-k.invariant
