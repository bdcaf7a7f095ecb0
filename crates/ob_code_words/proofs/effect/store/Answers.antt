use Rattle.std.proofs.Common.{◌-◌, FitsSigned, w64, take, refl, rules, sym, subst, ap, ◌∙◌}
use Rattle.std.proofs.lemmas.Int.{to_z-of_z}
use Rattle.ob_code_words.specs.declared.effect.Answer.TheVariants.{Done, Stuck}
use Rattle.ob_code_words.specs.Effect.{put_at}
use Rattle.ob_code_words.specs.Running.{HasEffect}
use Rattle.ob_code_words.proofs.Tops.{made_at, stored_found}
use Rattle.ob_code_words.proofs.effect.store.Goals as goal

pub returns-then-put_at : goal.returns-then-put_at
returns-then-put_at c =
    let s = c.args.stack.now in
    let fits_x : FitsSigned w64 c.in-Some.address = search rules in
    let fits_y : FitsSigned w64 c.in-Some.word = search rules in
    let put = c.if-put_at.ensures in
    let made = made_at (put_at c.args.block.now (take (c.height-below.result - 2) s.words)) (to_z-of_z w64 c.in-Some.address fits_x) (to_z-of_z w64 c.in-Some.word fits_y) (sym put.0) in
    let below = ap (λ k. put_at c.args.block.now (take (k - 2) s.words) c.in-Some.address c.in-Some.word) c.height-below.ensures.height in
    let e = made ∙ below ∙ sym (stored_found c.args.block.now s.words c.in-Some.address c.in-Some.word c.in-Some.ensures) in
    subst (λ m. HasEffect Done c.args.block.now c.put_at.new.block s c.put_at.new.stack m) e (refl, refl, ap (λ r. record { reserve = r; words = c.put_at.new.stack.words }) put.1)

pub returns-else-put_at : goal.returns-else-put_at
returns-else-put_at c =
    let s = c.args.stack.now in
    let fits_x : FitsSigned w64 c.in-Some.address = search rules in
    let fits_y : FitsSigned w64 c.in-Some.word = search rules in
    let put = c.if-put_at.ensures in
    let made = made_at (put_at c.args.block.now (take (c.height-below.result - 2) s.words)) (to_z-of_z w64 c.in-Some.address fits_x) (to_z-of_z w64 c.in-Some.word fits_y) (sym put.0) in
    let below = ap (λ k. put_at c.args.block.now (take (k - 2) s.words) c.in-Some.address c.in-Some.word) c.height-below.ensures.height in
    let e = made ∙ below ∙ sym (stored_found c.args.block.now s.words c.in-Some.address c.in-Some.word c.in-Some.ensures) in
    subst (λ m. HasEffect Stuck c.args.block.now c.put_at.new.block s c.put_at.new.stack m) e (refl, put.1, put.2)
