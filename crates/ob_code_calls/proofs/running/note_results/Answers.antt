use Rattle.std.proofs.Common.{◌≡◌, ◌<◌, length, sym, ◌∙◌, ap, arith, to_z, of_z, w64, to_z-of_z, map, ℕ}
use Rattle.std.proofs.lemmas.List.{take_all}
use Rattle.std.specs.List.{range_with_len}
use Rattle.ob_code_calls.specs.Calls.{meaning_of}
use Rattle.ob_code_calls.proofs.Results.{results_more}
use Rattle.ob_code_calls.proofs.running.note_results.Goals as goal

pub loop-place-preserved : goal.loop-place-preserved
loop-place-preserved c =
    let same : to_z w64 (of_z w64 c.result.result) ≡ c.result.result = search (arith, to_z-of_z) in
    let inside : c.loop-place.place < length c.loop-place.words = omega arith in
    results_more ((meaning_of c.args.engine.now.parts).result c.args.run.now) c.loop-place.words c.loop-place.place (to_z w64 (of_z w64 c.result.result)) inside (same ∙ c.result.ensures)
    c.loop-place.invariant

pub returns : goal.returns
returns c =
    let m = meaning_of c.args.engine.now.parts in
    let n = c.loop-place.place in
    let all : length c.loop-place.words ≡ n = omega arith in
    let many : n ≡ m.replies = omega (arith, c.requires.room) in
    sym (take_all n c.loop-place.words (omega (arith, all))) ∙ c.loop-place.invariant ∙ ap (λ (k : ℕ). map (m.result c.args.run.now) (range_with_len 0 k)) many
