use Rattle.std.proofs.Common.{◌≡◌, ◌∷◌, ◌∙◌, [], true, sym, rules}
use Rattle.std.proofs.lemmas.List.{nil_from_length}
use Rattle.ob_text_words.specs.Words.{is_blank}
use Rattle.ob_text_values_reading.specs.LineBeginnings.{at_blank, at_end}
use Rattle.ob_text_values_reading.proofs.taken_names.behind_word.Goals as goal

pub returns-in_default : goal.returns-in_default
returns-in_default c = let none : c.args.text.now ≡ [] = nil_from_length _ c.in_default.ensures.cases in rw none at_end

pub returns-then-is_blank : goal.returns-then-is_blank
returns-then-is_blank c =
    let parts : c.args.text.now ≡ c.in-Some.first.now ∷ c.in-Some.rest.now = search rules in
    let blank : is_blank c.in-Some.first.now ≡ true = sym c.is_blank.ensures ∙ c.if-is_blank.true in
    rw parts (at_blank blank)
