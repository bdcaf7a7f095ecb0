use Rattle.std.proofs.Common.{◌<◌, ◌∙◌, ◌∷◌, [], ◌++◌, ap, ℕ, length, get_or, arith}
use Rattle.std.specs.Prelude.{pos}
use Rattle.ob_interface.specs.declared.scalar.Scalar.TheVariants.{Int}
use Rattle.ob_object_search.proofs.KeptStates.{get_any, words_more_of}
use Rattle.ob_object_search.proofs.state_words.scalar_words.Goals as goal

pub loop-scalar-preserved : goal.loop-scalar-preserved
loop-scalar-preserved c =
    let i = c.loop-scalar.scalar-index in
    let scalars = c.args.scalars.now in
    let s = get_or scalars i (Int (pos 0)) in
    let below : i < length scalars = omega arith in
    words_more_of c.loop-scalar.words.items c.push.new.self.items scalars i s below (get_any scalars i (Int (pos 0)) s below)
    (c.in_ok-push.ensures.ok ∙ ap (λ (x : ℕ). c.loop-scalar.words.items ++ x ∷ []) c.word_of-in-loop-scalar.ensures) c.loop-scalar.invariant
