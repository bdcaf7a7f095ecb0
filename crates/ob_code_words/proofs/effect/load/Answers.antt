use Rattle.std.proofs.Common.{◌-◌, [], ◌∷◌, ◌++◌, length, take, FitsSigned, w64, ap, ◌∙◌, refl, rules, sym, subst}
use Rattle.std.proofs.lemmas.Int.{to_z-of_z}
use Rattle.ob_code_words.specs.declared.effect.Answer.TheVariants.{Done, Stuck}
use Rattle.ob_code_words.specs.Words.{Gives, ◌>>=◌}
use Rattle.ob_code_words.specs.Effect.{word_at}
use Rattle.ob_code_words.specs.StackWords.{with_words}
use Rattle.ob_code_words.specs.Running.{LeavesStack}
use Rattle.ob_code_words.proofs.Tops.{loaded_found}
use Rattle.ob_code_words.proofs.effect.load.Goals as goal

pub returns-in-Some-word_at : goal.returns-in-Some-word_at
returns-in-Some-word_at c =
    let block = c.args.block.now in
    let s = c.args.stack.now in
    let fits : FitsSigned w64 c.in-Some.address = search rules in
    let fits_w : FitsSigned w64 c.in-Some-word_at.word = search rules in
    let below = ap (λ k. word_at block (take (k - 1) s.words) c.in-Some.address) c.height-below.ensures.height in
    let word = sym below ∙ ap (word_at block (take (c.height-below.result - 1) s.words)) (sym (to_z-of_z w64 c.in-Some.address fits)) ∙ c.in-Some-word_at.ensures in
    let e = loaded_found block s.words c.in-Some.address c.in-Some.ensures ∙ ap (λ m. m >>= (λ w. Gives (take (length s.words - 1) s.words ++ w ∷ []))) word in
    let left = c.replace_top.ensures ∙ ap (λ w. with_words s (take (length s.words - 1) s.words ++ w ∷ [])) (to_z-of_z w64 c.in-Some-word_at.word fits_w) in
    subst (λ m. LeavesStack Done s c.replace_top.new.self m) (sym e) (refl, left)

pub returns-in-None : goal.returns-in-None
returns-in-None c =
    let block = c.args.block.now in
    let s = c.args.stack.now in
    let fits : FitsSigned w64 c.in-Some.address = search rules in
    let below = ap (λ k. word_at block (take (k - 1) s.words) c.in-Some.address) c.height-below.ensures.height in
    let word = sym below ∙ ap (word_at block (take (c.height-below.result - 1) s.words)) (sym (to_z-of_z w64 c.in-Some.address fits)) ∙ c.in-None.ensures in
    let e = loaded_found block s.words c.in-Some.address c.in-Some.ensures ∙ ap (λ m. m >>= (λ w. Gives (take (length s.words - 1) s.words ++ w ∷ []))) word in
    subst (λ m. LeavesStack Stuck s s m) (sym e) (refl, refl)
