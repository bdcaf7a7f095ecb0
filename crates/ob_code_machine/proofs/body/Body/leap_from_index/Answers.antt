use Rattle.std.proofs.Common.{◌≡◌, ◌∙◌, subst}
use Rattle.ob_code_words.specs.declared.instr.Instr.TheVariants.{Index}
use Rattle.ob_code_machine.specs.Body.{Run}
use Rattle.ob_code_machine.specs.Machine.{act}
use Rattle.ob_code_machine.specs.Body.{at, shown}
use Rattle.ob_code_machine.proofs.Leaps.{by_itself}
use Rattle.ob_code_machine.proofs.body.Body.leap_from_index.Goals as goal
use Rattle.ob_code_machine.proofs.body.Body.leap_from_index.Goals.{else-is_got-via-then-is_got+else-get_element, else-is_got-via-else-is_got}

pub returns : goal.returns
returns c =
    let code = c.args.code.now.instructions in
    let block = c.args.block.now in
    let instr = Index c.args.length c.args.element_words in
    let same : c.else-is_got.self ≡ c.args.self.now = elim c.else-is_got.branch [
      | else-is_got-via-then-is_got+else-get_element w ↦ w.self-is ∙ w.if-get_element.ensures
      | else-is_got-via-else-is_got w ↦ w.self-is
    ] in
    by_itself code c.args.self.now c.combine.new.self block c.combine.result instr c.requires.works c.requires.here
    (subst (λ (r : Run). record { turn = c.combine.result; run = c.combine.new.self; block = block } ≡ shown r block (act r.reserve instr (at r block))) same (c.combine.ensures block))
