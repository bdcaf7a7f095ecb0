-- By the name that is given, and the export that has it.
use Rattle.std.proofs.Common.{refl, ℕ, List, map, subst}
use Rattle.std.proofs.lemmas.Option.{MatchOption-at_none, MatchOption-at_some}
use Rattle.ob_interface.specs.Export.{Signature}
use Rattle.ob_interface.specs.View.{signature_of}
use Rattle.ob_object_outcomes.specs.Questions.{IsQuestion}
use Rattle.ob_object_outcomes.proofs.finding.question_asked.Goals as goal

pub returns-in_default-clause-asked : goal.returns-in_default-clause-asked
returns-in_default-clause-asked c = rw (c.in_default.is) tt

pub returns-in-Some-question_named-clause-asked : goal.returns-in-Some-question_named-clause-asked
returns-in-Some-question_named-clause-asked c =
    let name = c.in-Some.name.now in
    let has = map signature_of c.exports.result.now in
    rw (c.in-Some.is) (subst (λ (s : List Signature). IsQuestion s name c.in-Some-question_named.number) c.exports.ensures
    (MatchOption-at_some ((n : ℕ) → ¬ IsQuestion has name n) (IsQuestion has name) c.in-Some-question_named.number c.in-Some-question_named.is c.question_named.ensures))

pub returns-in-None-clause-none : goal.returns-in-None-clause-none
returns-in-None-clause-none c =
    let name = c.in-Some.name.now in
    let has = map signature_of c.exports.result.now in
    rw (c.in-Some.is) (record {
      name = name;
      is = refl;
      none = subst (λ (s : List Signature). (n : ℕ) → ¬ IsQuestion s name n) c.exports.ensures
          (MatchOption-at_none ((n : ℕ) → ¬ IsQuestion has name n) (IsQuestion has name) c.in-None.is c.question_named.ensures);
    })
