use Rattle.std.proofs.Common.{◌-◌, [], ◌∷◌, ◌++◌, length, take, FitsSigned, w64, ap, ◌∙◌, refl, rules, sym, subst}
use Rattle.std.proofs.lemmas.Int.{to_z-of_z}
use Rattle.ob_code_words.specs.declared.effect.Answer.TheVariants.{Done, Trap, Stuck}
use Rattle.ob_code_words.specs.Words.{Gives, Traps, Sticks, made_of_two}
use Rattle.ob_code_words.specs.StackWords.{with_words}
use Rattle.ob_code_words.specs.Running.{LeavesStack}
use Rattle.ob_code_words.proofs.Tops.{made_at, of_two_made}
use Rattle.ob_code_words.proofs.effect.of_two.Goals as goal

pub returns-in-Word : goal.returns-in-Word
returns-in-Word c =
    let f = made_of_two c.args.instr in
    let fits_x : FitsSigned w64 c.in-Some.x = search rules in
    let fits_y : FitsSigned w64 c.in-Some.y = search rules in
    let made = made_at f (to_z-of_z w64 c.in-Some.x fits_x) (to_z-of_z w64 c.in-Some.y fits_y) c.in-Word.ensures in
    let e = of_two_made f c.args.stack.now.words c.in-Some.x c.in-Some.y (Gives c.in-Word.word) c.in-Some.ensures made in
    let s = c.args.stack.now in
    let fits_w : FitsSigned w64 c.in-Word.word = search rules in
    let left = c.replace_two.ensures ∙ ap (λ w. with_words s (take (length s.words - 2) s.words ++ w ∷ [])) (to_z-of_z w64 c.in-Word.word fits_w) in
    subst (λ m. LeavesStack Done s c.replace_two.new.self m) (sym e) (refl, left)

pub returns-in-Trap : goal.returns-in-Trap
returns-in-Trap c =
    let f = made_of_two c.args.instr in
    let fits_x : FitsSigned w64 c.in-Some.x = search rules in
    let fits_y : FitsSigned w64 c.in-Some.y = search rules in
    let made = made_at f (to_z-of_z w64 c.in-Some.x fits_x) (to_z-of_z w64 c.in-Some.y fits_y) c.in-Trap.ensures in
    let e = of_two_made f c.args.stack.now.words c.in-Some.x c.in-Some.y (Traps c.in-Trap.number) c.in-Some.ensures made in
    subst (λ m. LeavesStack (Trap c.in-Trap.number) c.args.stack.now c.args.stack.now m) (sym e) (refl, refl)

pub returns-in-Stuck : goal.returns-in-Stuck
returns-in-Stuck c =
    let f = made_of_two c.args.instr in
    let fits_x : FitsSigned w64 c.in-Some.x = search rules in
    let fits_y : FitsSigned w64 c.in-Some.y = search rules in
    let made = made_at f (to_z-of_z w64 c.in-Some.x fits_x) (to_z-of_z w64 c.in-Some.y fits_y) c.in-Stuck.ensures in
    let e = of_two_made f c.args.stack.now.words c.in-Some.x c.in-Some.y Sticks c.in-Some.ensures made in
    subst (λ m. LeavesStack Stuck c.args.stack.now c.args.stack.now m) (sym e) (refl, refl)
