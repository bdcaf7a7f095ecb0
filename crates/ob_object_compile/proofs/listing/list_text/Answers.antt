use Rattle.std.proofs.Common.{◌∙◌, ap, ap₂, map, string_bytes, sym}
use Rattle.ob_checked.specs.View.{table_of}
use Rattle.ob_code_correct.specs.CodeMeaning.{EngineParts}
use Rattle.ob_code_machine.specs.Code.{CodeParts}
use Rattle.ob_object_compile.specs.Listing.{listing}
use Rattle.ob_object_compile.proofs.Names.{names_map}
use Rattle.ob_object_compile.specs.View.{object_in}
use Rattle.ob_typing.specs.Program.{Program}
use Rattle.ob_object_compile.proofs.listing.list_text.Goals as goal

pub returns-clause-listing : goal.returns-clause-listing
returns-clause-listing c =
    let is = c.in_ok-object.ensures.object in
    let code = c.code.ensures ∙ (ap (λ (p : EngineParts). p.code) c.engine.ensures ∙ ap (λ (p : EngineParts). p.code) is.engine_is) in
    let names = ap (map string_bytes) c.as_slice-2.ensures.value ∙ (c.in_ok-names.ensures ∙ (ap (map (λ p. string_bytes p.name)) c.as_slice.ensures.value
    ∙ (sym (names_map (table_of c.program.result.now.types) c.program.result.now.procedures.items) ∙ (ap (λ (p : Program). map (λ q. q.name) p.procedures) c.program.ensures.program
    ∙ ap (λ (p : Program). map (λ q. q.name) p.procedures) c.checked.ensures.program)))) in
    record {
      object = object_in c.in_ok-object.object;
      compiled = is;
      printed = c.in_ok-list.ensures ∙ ap₂ (λ (k : CodeParts) ns. listing k.instructions k.entries ns) code names;
    }
