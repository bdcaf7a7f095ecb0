use Rattle.std.proofs.Common.{◌≡◌, ◌∷◌, [], ◌∙◌, ap, map, sym, arith}
use Rattle.std.proofs.lemmas.List.{length-map, map-append}
use Rattle.ob_checked.specs.CheckedModule.{program_in}
use Rattle.ob_checked.specs.View.{table_of, variable_of}
use Rattle.ob_meaning.specs.ByPositionStore.{Holds}
use Rattle.ob_store.specs.View.{value_in, variables_in}
use Rattle.ob_text_reading.proofs.Openers.{next_own, no_opening, with_held}
use Rattle.ob_typing.specs.Program.{Program}
use Rattle.ob_text_reading.proofs.line_reader.Reader.take_opening.Goals as goal

pub returns-in_default-2 : goal.returns-in_default-2
returns-in_default-2 c =
    let own : map (variable_of (table_of c.program-program.result.now.types)) c.as_slice-variables.result.now ≡ (program_in c.args.checked.now).variables =
    ap (map (variable_of (table_of c.program-program.result.now.types))) c.as_slice-variables.ensures.value ∙ ap (λ (p : Program). p.variables) c.program-program.ensures.program in
    let at = next_own _ _ _ _ _ _ _ c.variable_at.ensures c.in-Some.is own (c.len.ensures ∙ c.args.self.values.ok.0 ∙ sym (length-map c.args.self.values.items _)) in
    λ x. no_opening _ _ x _ _ at (rw c.in_default-2.is at c.in_ok-value.ensures)

pub returns : goal.returns
returns c =
    let own : map (variable_of (table_of c.program-program.result.now.types)) c.as_slice-variables.result.now ≡ (program_in c.args.checked.now).variables =
    ap (map (variable_of (table_of c.program-program.result.now.types))) c.as_slice-variables.ensures.value ∙ ap (λ (p : Program). p.variables) c.program-program.ensures.program in
    let at = next_own _ _ _ _ _ _ _ c.variable_at.ensures c.in-Some.is own (c.len.ensures ∙ c.args.self.values.ok.0 ∙ sym (length-map c.args.self.values.items _)) in
    record {
      variable = variable_of (table_of c.program-program.result.now.types) c.in-Some.variable.now;
      value = value_in c.in-Some-2.value;
      early = let here = c.place.ensures in let last = c.place-2.ensures in let low = c.if-place.false in omega (arith, here, last, low);
      own = at;
      says = rw c.in-Some-2.is at c.in_ok-value.ensures;
      after = with_held _ _ _ (ap variables_in c.in_ok-push_value.ensures ∙ map-append (λ v. Holds (value_in v)) c.args.self.values.items (c.in-Some-2.value ∷ []));
    }
