use Rattle.std.proofs.Common.{◌-◌, [], ◌∷◌, ◌++◌, length, take, FitsSigned, w64, ap, ◌∙◌, refl, rules, sym, subst}
use Rattle.std.proofs.lemmas.Int.{to_z-of_z}
use Rattle.ob_code_words.specs.declared.effect.Answer.TheVariants.{Done, Trap}
use Rattle.ob_code_words.specs.declared.instr.Instr.TheVariants.{Add}
use Rattle.ob_code_words.specs.Words.{Gives, Traps, made_of_two}
use Rattle.ob_code_words.specs.StackWords.{with_words}
use Rattle.ob_code_words.specs.Running.{LeavesStack}
use Rattle.ob_code_words.proofs.Tops.{made_at, of_two_made}
use Rattle.ob_tree.proofs.effects.add.Goals as goal

pub returns-in-Some-sum : goal.returns-in-Some-sum
returns-in-Some-sum c =
    let f = made_of_two Add in
    let fits_x : FitsSigned w64 c.in-Some.x = search rules in
    let fits_y : FitsSigned w64 c.in-Some.y = search rules in
    let made = made_at f (to_z-of_z w64 c.in-Some.x fits_x) (to_z-of_z w64 c.in-Some.y fits_y) (sym c.in-Some-sum.ensures) in
    let e = of_two_made f c.args.stack.now.words c.in-Some.x c.in-Some.y (Gives c.in-Some-sum.z) c.in-Some.ensures made in
    let s = c.args.stack.now in
    let fits_z : FitsSigned w64 c.in-Some-sum.z = search rules in
    let left = c.replace_two.ensures ∙ ap (λ w. with_words s (take (length s.words - 2) s.words ++ w ∷ [])) (to_z-of_z w64 c.in-Some-sum.z fits_z) in
    subst (λ m. LeavesStack Done s c.replace_two.new.self m) (sym e) (refl, left)

pub returns-in-None : goal.returns-in-None
returns-in-None c =
    let f = made_of_two Add in
    let fits_x : FitsSigned w64 c.in-Some.x = search rules in
    let fits_y : FitsSigned w64 c.in-Some.y = search rules in
    let made = made_at f (to_z-of_z w64 c.in-Some.x fits_x) (to_z-of_z w64 c.in-Some.y fits_y) (sym c.in-None.ensures) in
    let e = of_two_made f c.args.stack.now.words c.in-Some.x c.in-Some.y (Traps 1) c.in-Some.ensures made in
    subst (λ m. LeavesStack (Trap 1) c.args.stack.now c.args.stack.now m) (sym e) (refl, refl)
