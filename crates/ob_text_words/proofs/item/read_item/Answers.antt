use Rattle.std.proofs.Common.{◌≡◌, ◌∷◌, [], rules, arith}
use Rattle.std.proofs.lemmas.List.{nil_from_length}
use Rattle.ob_text_words.specs.Schedule.{steps, until, to_answer}
use Rattle.ob_text_words.proofs.item.read_item.Goals as goal

pub returns-in_ok-count-in-Some-eq42-default : goal.returns-in_ok-count-in-Some-eq42-default
returns-in_ok-count-in-Some-eq42-default c =
    let behind : c.split_digits.result.1.now ≡ 42 ∷ c.in-Some-eq42-default.count.now = search rules in
    rw (← c.split_digits.ensures.joined, behind) (steps c.in_ok-process.ensures c.in_ok-count-in-Some-eq42-default.ensures.spelled)

pub returns-in_ok-label-in-Some-eq58-default : goal.returns-in_ok-label-in-Some-eq58-default
returns-in_ok-label-in-Some-eq58-default c =
    let behind : c.split_digits.result.1.now ≡ 58 ∷ c.in-Some-eq58-default.name.now = search rules in
    rw (← c.split_digits.ensures.joined, behind, ← c.in_ok-label-in-Some-eq58-default.ensures.is) (until c.in_ok-process.ensures)

pub returns-in-Some-eq33-empty : goal.returns-in-Some-eq33-empty
returns-in-Some-eq33-empty c =
    let behind : c.split_digits.result.1.now ≡ 33 ∷ c.in-Some-eq33-empty.field-0-1.now = search rules in
    let none : c.in-Some-eq33-empty.field-0-1.now ≡ [] = nil_from_length _ (omega arith) in
    rw (← c.split_digits.ensures.joined, behind, none) (to_answer c.in_ok-process.ensures)
