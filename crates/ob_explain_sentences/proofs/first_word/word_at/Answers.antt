use Rattle.std.proofs.Common.{rules, tests, sym, ◌∙◌}
use Rattle.std.specs.Char.{is_ascii_alphanumeric}
use Rattle.std.proofs.lemmas.Iterator.{YieldsList-from_slice}
use Rattle.std.proofs.lemmas.Iterator.Search.{YieldsList-from_take_while}
use Rattle.std.proofs.lemmas.Iterator.Consumers.{YieldsList-at, count_from_yields_List}
use Rattle.ob_explain_sentences.proofs.WordLemmas.{taken_while, word_here, none_here, none_behind}
use Rattle.ob_explain_sentences.proofs.first_word.word_at.Goals as goal
use Rattle.ob_explain_sentences.proofs.first_word.word_at.Goals.{in_default-via-in-Some+else-is_ascii_alphabetic, in_default-via-in_default}

pub returns-in-Some : goal.returns-in-Some
returns-in-Some c =
    let passing =
    taken_while is_ascii_alphanumeric c.args.line.now c.count-length.result
    (count_from_yields_List c.take_while.result _ c.count-length.ensures.ran
    (YieldsList-from_take_while _ is_ascii_alphanumeric
    (YieldsList-at c.take_while.ensures.source (YieldsList-from_slice c.args.line.now c.iter.ensures.rest))
    c.take_while.ensures.closure c.take_while.ensures.done (λ x b q k. search (rules, tests)))) in
    let first = rw c.in-Some.is at c.first.ensures.item in
    passing ∙ sym (word_here c.args.line.now c.in-Some.first.now first.3.1 (sym c.is_ascii_alphabetic.ensures.value ∙ c.if-is_ascii_alphabetic.true))

pub returns-in_default : goal.returns-in_default
returns-in_default c =
    elim c.in_default.branch [
      | in_default-via-in-Some+else-is_ascii_alphabetic w ↦
          let first = rw w.in-Some.is at c.first.ensures.item in
          none_here c.args.line.now w.in-Some.first.now first.3.1 (sym w.is_ascii_alphabetic.ensures.value ∙ w.if-is_ascii_alphabetic.false)
      | in_default-via-in_default w ↦ let first = rw w.in_default.is at c.first.ensures.item in none_behind c.args.line.now first.3
    ]
