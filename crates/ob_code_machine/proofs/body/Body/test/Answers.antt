use Rattle.std.proofs.Common.{◌≡◌, ◌+◌, ◌-◌, length, take, FitsSigned, w64, ap, ◌∙◌, rules, pos}
use Rattle.std.specs.Prelude.{if◌then◌else◌}
use Rattle.std.specs.Ordering.{int_eq}
use Rattle.std.proofs.lemmas.Int.{to_z-of_z}
use Rattle.ob_code_words.specs.declared.instr.Instr.TheVariants.{JumpIfFalse}
use Rattle.ob_code_machine.specs.Body.{at, run_view}
use Rattle.ob_code_machine.specs.Machine.{Unfinished}
use Rattle.ob_code_words.specs.StackWords.{with_words}
use Rattle.ob_code_words.specs.Words.{made_of_two}
use Rattle.ob_code_words.proofs.Tops.{made_at}
use Rattle.ob_code_machine.proofs.Leaps.{tested, lead_of}
use Rattle.ob_code_machine.proofs.body.Body.test.Goals as goal

pub returns-then-word-eq0 : goal.returns-then-word-eq0
returns-then-word-eq0 c = λ block.
    let inside = c.self.inside in
    let s = inside.stack in
    let x = c.in-Some.x in
    let y = c.in-Some.y in
    let word = c.in-Word.word in
    let fits_x : FitsSigned w64 x = search rules in
    let fits_y : FitsSigned w64 y = search rules in
    let made = made_at (made_of_two c.args.first) (to_z-of_z w64 x fits_x) (to_z-of_z w64 y fits_y) c.in-Word.ensures in
    let left = c.truncate.ensures ∙ ap (λ k. with_words s (take (k - 2) s.words)) c.height-below.ensures.height in
    let next : (if int_eq word (pos 0) then c.args.target else inside.pc + 2) ≡ c.from-self-inside.result = search rules in
    lead_of c.args.self.now inside.pc inside.fp s c.truncate.new.self inside.callers inside.turns inside.is_over c.args.first (JumpIfFalse c.args.target) block (c.from-self-inside.result)
    (take (length s.words - 2) s.words) c.self.view_is left
    (tested s.reserve (at (run_view inside.pc inside.fp s inside.callers inside.turns inside.is_over) block) c.args.first c.args.target x y word c.in-Some.ensures made
    ∙ ap (λ p. Unfinished (record { block = block; body = record { pc = p; stack = take (length s.words - 2) s.words; fp = inside.fp; saved = inside.callers; turns = inside.turns } })) next)

pub returns-else-word-eq0 : goal.returns-else-word-eq0
returns-else-word-eq0 c = λ block.
    let inside = c.self.inside in
    let s = inside.stack in
    let x = c.in-Some.x in
    let y = c.in-Some.y in
    let word = c.in-Word.word in
    let fits_x : FitsSigned w64 x = search rules in
    let fits_y : FitsSigned w64 y = search rules in
    let made = made_at (made_of_two c.args.first) (to_z-of_z w64 x fits_x) (to_z-of_z w64 y fits_y) c.in-Word.ensures in
    let left = c.truncate.ensures ∙ ap (λ k. with_words s (take (k - 2) s.words)) c.height-below.ensures.height in
    let next : (if int_eq word (pos 0) then c.args.target else inside.pc + 2) ≡ inside.pc + 2 = search rules in
    lead_of c.args.self.now inside.pc inside.fp s c.truncate.new.self inside.callers inside.turns inside.is_over c.args.first (JumpIfFalse c.args.target) block (inside.pc + 2)
    (take (length s.words - 2) s.words) c.self.view_is left
    (tested s.reserve (at (run_view inside.pc inside.fp s inside.callers inside.turns inside.is_over) block) c.args.first c.args.target x y word c.in-Some.ensures made
    ∙ ap (λ p. Unfinished (record { block = block; body = record { pc = p; stack = take (length s.words - 2) s.words; fp = inside.fp; saved = inside.callers; turns = inside.turns } })) next)
