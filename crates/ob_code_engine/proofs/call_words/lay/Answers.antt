use Rattle.std.proofs.Common.{◌≡◌, ◌∙◌, ◌≤◌, ◌∷◌, ap, sym, refl, arith, length, map, to_z, of_z, w64, to_z-of_z}
use Rattle.std.specs.Prelude.{pos}
use Rattle.std.proofs.lemmas.List.{length-set, take_all}
use Rattle.ob_code_engine.proofs.Laid.{laid_next, length_padded, word_behind}
use Rattle.ob_code_correct.specs.CodeMeaning.{padded}
use Rattle.ob_code_scheme.specs.Layout.{word}
use Rattle.ob_code_engine.proofs.call_words.lay.Goals as goal

pub loop-place-init : goal.loop-place-init
loop-place-init c =
    let small = c.requires.number in
    let same : to_z w64 c.args.proc ≡ pos c.args.proc = search (arith, small) in
    let some = c.requires.room in
    record {
      behind = omega arith;
      laid = laid_next (length c.args.words.now) (pos c.args.proc ∷ map word c.args.arguments.now) c.args.words.now 0 (to_z w64 c.args.proc) refl some same refl;
    }

pub loop-place-preserved : goal.loop-place-preserved
loop-place-preserved c =
    let i = c.loop-place.place in
    let n = length c.args.words.now in
    let arguments = c.args.arguments.now in
    let h = c.loop-place.invariant in
    let long = length-set c.args.words.now 0 (to_z w64 c.args.proc) in
    let same : to_z w64 (of_z w64 c.word_of_scalar.result) ≡ c.word_of_scalar.result = search (arith, to_z-of_z) in
    let is = same ∙ c.word_of_scalar.ensures ∙ ap word c.argument_at.ensures ∙ word_behind (pos c.args.proc) arguments i h.behind in
    record {
      behind = omega (arith, h.behind);
      laid = laid_next n (pos c.args.proc ∷ map word arguments) c.loop-place.words i (to_z w64 (of_z w64 c.word_of_scalar.result)) (omega (arith, long)) (omega (arith, long)) is h.laid;
    }

pub returns : goal.returns
returns c =
    let n = length c.args.words.now in
    let i = c.loop-place.place in
    let long = length-set c.args.words.now 0 (to_z w64 c.args.proc) in
    let all : n ≤ i = omega (arith, long) in
    let words = pos c.args.proc ∷ map word c.args.arguments.now in
    sym (take_all i c.loop-place.words (omega (arith, long, all))) ∙ c.loop-place.invariant.laid ∙ take_all i (padded n words) (omega (arith, length_padded n words, all))
