use Rattle.std.proofs.Common.{◌≤◌, ◌<◌, ◌≡◌, length, get_or, rules, arith, refl, sym, ◌∙◌}
use Rattle.std.proofs.lemmas.List.{length-map}
use Rattle.ob_text_words.proofs.Reading.{word_at}
use Rattle.ob_text_words.proofs.ValueReading.{HasRead-none, HasRead-skip, HasRead-more, no_word, no_value, HasRead-all, left_over}
use Rattle.ob_text_words.proofs.parameter_words.read_values.Goals as goal
use Rattle.ob_text_words.proofs.parameter_words.read_values.Goals.{then-is_of_mode+in-Some+in-Some-read_value+in_ok-push, else-is_of_mode}

pub loop-formal-init : goal.loop-formal-init
loop-formal-init c = rw c.new-values.ensures.items (HasRead-none _ _ _)

pub returns-in_default : goal.returns-in_default
returns-in_default c =
    let long : length c.args.words.now ≤ c.len.result = search rules in
    no_word _ _ _ _ _ _ _ c.loop-formal-test.true refl c.loop-formal.invariant (sym c.is_of_mode.ensures ∙ c.if-is_of_mode.true)
    (rw length-map (omega (arith, c.len.ensures.value)))

pub returns-in_default-read_value : goal.returns-in_default-read_value
returns-in_default-read_value c =
    let n = c.len.result in
    let w = c.in-Some.word.now in
    let short : n < length c.args.words.now = search rules in
    let at : w ≡ get_or c.args.words.now n w = search rules in
    no_value _ _ _ _ _ _ _ c.loop-formal-test.true refl c.loop-formal.invariant w.now (sym c.is_of_mode.ensures ∙ c.if-is_of_mode.true)
    (rw length-map (omega (arith, c.len.ensures.value))) (rw c.len.ensures.value at (word_at c.args.words.now n w at))
    (c.in_default-read_value.ensures)

pub loop-formal-preserved : goal.loop-formal-preserved
loop-formal-preserved c =
    elim c.if-is_of_mode.branch [
      | then-is_of_mode+in-Some+in-Some-read_value+in_ok-push w ↦
          let n = w.len.result in
          let word = w.in-Some.word.now in
          let short : n < length c.args.words.now = search rules in
          let at : word ≡ get_or c.args.words.now n word = search rules in
          rw (w.values-is, w.in_ok-push.ensures.ok) (HasRead-more _ _ _ _ _ _ _ c.loop-formal-test.true refl c.loop-formal.invariant
          word.now w.in-Some-read_value.value (sym c.is_of_mode.ensures ∙ w.if-is_of_mode.true)
          (rw length-map (omega (arith, w.len.ensures.value))) (rw w.len.ensures.value at (word_at c.args.words.now n word at)) (w.in-Some-read_value.ensures))
      | else-is_of_mode w ↦
          rw w.values-is (HasRead-skip _ _ _ _ _ _ _ c.loop-formal-test.true refl c.loop-formal.invariant (sym c.is_of_mode.ensures ∙ w.if-is_of_mode.false))
    ]

pub returns-then-len-words : goal.returns-then-len-words
returns-then-len-words c =
    HasRead-all _ _ _ _ _ c.loop-formal-test.false (rw length-map (omega (arith, c.len-2.ensures.value))) c.loop-formal.invariant

pub returns-else-len-words : goal.returns-else-len-words
returns-else-len-words c =
    left_over _ _ _ _ _ c.loop-formal-test.false (λ e. c.if-len-words.false (c.len-2.ensures.value ∙ e ∙ length-map _ _)) c.loop-formal.invariant
