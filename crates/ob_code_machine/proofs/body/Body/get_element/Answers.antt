use Rattle.std.proofs.Common.{◌+◌, ◌-◌, [], ◌∷◌, ◌++◌, length, take, FitsSigned, w64, ap, ◌∙◌, rules, sym}
use Rattle.std.proofs.lemmas.Int.{to_z-of_z}
use Rattle.ob_code_words.specs.declared.instr.Instr.TheVariants.{Index, Get}
use Rattle.ob_code_machine.specs.Body.{at, run_view}
use Rattle.ob_code_words.specs.StackWords.{with_words}
use Rattle.ob_code_words.specs.Effect.{word_at}
use Rattle.ob_code_words.specs.Words.{made_of_two}
use Rattle.ob_code_words.proofs.Tops.{made_at}
use Rattle.ob_code_machine.proofs.Leaps.{element_got, lead_of}
use Rattle.ob_code_machine.proofs.body.Body.get_element.Goals as goal

pub returns : goal.returns
returns c =
    let inside = c.self.inside in
    let s = inside.stack in
    let block = c.args.block.now in
    let x = c.in-Some.x in
    let y = c.in-Some.y in
    let address = c.in-Word.address in
    let value = c.in-Some-word_at.value in
    let fits_x : FitsSigned w64 x = search rules in
    let fits_y : FitsSigned w64 y = search rules in
    let fits_a : FitsSigned w64 address = search rules in
    let fits_w : FitsSigned w64 value = search rules in
    let made = made_at (made_of_two (Index c.args.length c.args.element_words)) (to_z-of_z w64 x fits_x) (to_z-of_z w64 y fits_y) c.in-Word.ensures in
    let below = ap (λ k. word_at block (take (k - 2) s.words) address) c.height-below.ensures.height in
    let word = sym below ∙ ap (word_at block (take (c.height-below.result - 2) s.words)) (sym (to_z-of_z w64 address fits_a)) ∙ c.in-Some-word_at.ensures in
    let left = c.replace_two.ensures ∙ ap (λ w. with_words s (take (length s.words - 2) s.words ++ w ∷ [])) (to_z-of_z w64 value fits_w) in
    lead_of c.args.self.now inside.pc inside.fp s c.replace_two.new.self inside.callers inside.turns inside.is_over (Index c.args.length c.args.element_words) Get block (inside.pc + 2)
    (take (length s.words - 2) s.words ++ value ∷ []) c.self.view_is left
    (element_got s.reserve (at (run_view inside.pc inside.fp s inside.callers inside.turns inside.is_over) block) c.args.length c.args.element_words x y address value c.in-Some.ensures made (sym word))
