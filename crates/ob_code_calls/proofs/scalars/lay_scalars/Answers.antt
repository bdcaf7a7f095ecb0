use Rattle.std.proofs.Common.{◌≡◌, ◌∙◌, ◌<◌, [], length, arith, to_z, of_z, w64, to_z-of_z, get_or}
use Rattle.std.specs.Prelude.{pos}
use Rattle.ob_interface.specs.declared.scalar.Scalar.TheVariants.{Int}
use Rattle.ob_code_calls.proofs.Words.{get_any, laid_all, laid_more, typed_more}
use Rattle.ob_code_calls.proofs.scalars.lay_scalars.Goals as goal

pub loop-place-preserved : goal.loop-place-preserved
loop-place-preserved c =
    let i = c.loop-place.place in
    let variables = c.args.variables.now in
    let scalars = c.args.scalars.now in
    let v = get_or variables i c.index-variables-place.result in
    let s = get_or scalars i (Int (pos 0)) in
    let h = c.in-Some.ensures in
    let same : to_z w64 (of_z w64 c.in-Some.word) ≡ c.in-Some.word = search (arith, to_z-of_z) in
    let below : i < length variables = omega arith in
    let within : i < length scalars = omega arith in
    let inside : i < length c.loop-place.words = omega arith in
    record {
      typed = typed_more variables i v below (get_any variables i c.index-variables-place.result v below) scalars s within (get_any scalars i (Int (pos 0)) s within) c.loop-place.invariant.typed (λ types. (h types).typed);
      laid = laid_more c.loop-place.words i (to_z w64 (of_z w64 c.in-Some.word)) scalars s inside within (get_any scalars i (Int (pos 0)) s within) (same ∙ (h []).word_is) c.loop-place.invariant.laid;
    }

pub returns : goal.returns
returns c =
    λ types is. laid_all c.args.variables.now c.args.scalars.now c.loop-place.words c.loop-place.place (omega arith) (omega arith) (omega arith)
    c.loop-place.invariant.typed c.loop-place.invariant.laid types
