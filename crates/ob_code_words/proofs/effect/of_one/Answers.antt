use Rattle.std.proofs.Common.{◌-◌, [], ◌∷◌, ◌++◌, length, take, FitsSigned, w64, ap, ◌∙◌, refl, rules, sym, subst}
use Rattle.std.proofs.lemmas.Int.{to_z-of_z}
use Rattle.ob_code_words.specs.declared.effect.Answer.TheVariants.{Done, Trap, Stuck}
use Rattle.ob_code_words.specs.Words.{Gives, Traps, Sticks, made_of_one}
use Rattle.ob_code_words.specs.StackWords.{with_words}
use Rattle.ob_code_words.specs.Running.{LeavesStack}
use Rattle.ob_code_words.proofs.Tops.{of_one_made}
use Rattle.ob_code_words.proofs.effect.of_one.Goals as goal

pub returns-in-Word : goal.returns-in-Word
returns-in-Word c =
    let f = made_of_one c.args.instr in
    let fits : FitsSigned w64 c.in-Some.x = search rules in
    let made = c.in-Word.ensures ∙ ap f (to_z-of_z w64 c.in-Some.x fits) in
    let e = of_one_made f c.args.stack.now.words c.in-Some.x (Gives c.in-Word.word) c.in-Some.ensures made in
    let s = c.args.stack.now in
    let fits_w : FitsSigned w64 c.in-Word.word = search rules in
    let left = c.replace_top.ensures ∙ ap (λ w. with_words s (take (length s.words - 1) s.words ++ w ∷ [])) (to_z-of_z w64 c.in-Word.word fits_w) in
    subst (λ m. LeavesStack Done s c.replace_top.new.self m) (sym e) (refl, left)

pub returns-in-Trap : goal.returns-in-Trap
returns-in-Trap c =
    let f = made_of_one c.args.instr in
    let fits : FitsSigned w64 c.in-Some.x = search rules in
    let made = c.in-Trap.ensures ∙ ap f (to_z-of_z w64 c.in-Some.x fits) in
    let e = of_one_made f c.args.stack.now.words c.in-Some.x (Traps c.in-Trap.number) c.in-Some.ensures made in
    subst (λ m. LeavesStack (Trap c.in-Trap.number) c.args.stack.now c.args.stack.now m) (sym e) (refl, refl)

pub returns-in-Stuck : goal.returns-in-Stuck
returns-in-Stuck c =
    let f = made_of_one c.args.instr in
    let fits : FitsSigned w64 c.in-Some.x = search rules in
    let made = c.in-Stuck.ensures ∙ ap f (to_z-of_z w64 c.in-Some.x fits) in
    let e = of_one_made f c.args.stack.now.words c.in-Some.x Sticks c.in-Some.ensures made in
    subst (λ m. LeavesStack Stuck c.args.stack.now c.args.stack.now m) (sym e) (refl, refl)
