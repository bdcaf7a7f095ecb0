use Rattle.std.proofs.Common.{◌≡◌, ℕ, max, ap, sym, ◌∙◌, arith}
use Rattle.ob_code_scheme.specs.Temporaries as Counts
use Rattle.ob_checked.specs.View.{statements_in, otherwise_of}
use Rattle.ob_layout.specs.Counted.{counted}
use Rattle.ob_layout.proofs.Most.{if_counted, while_counted, repeat_counted}
use Rattle.ob_layout.proofs.temporaries.+statements.Goals as goal

pub statement_temporaries-returns-in-While : goal.statement_temporaries-returns-in-While
statement_temporaries-returns-in-While t c =
    c.max-in-While.ensures
    ∙ while_counted _ _ _ _ _ _ c.in-While.is c.temporaries-most.ensures c.statements_temporaries-in-While.ensures c.as_slice-in-While.ensures.value

pub statement_temporaries-returns-in-Repeat : goal.statement_temporaries-returns-in-Repeat
statement_temporaries-returns-in-Repeat t c =
    c.max-in-Repeat.ensures
    ∙ repeat_counted _ _ _ _ _ _ c.in-Repeat.is c.temporaries-most-in-Repeat.ensures c.statements_temporaries-in-Repeat.ensures c.as_slice-in-Repeat.ensures.value

pub statement_temporaries-returns-in-Some : goal.statement_temporaries-returns-in-Some
statement_temporaries-returns-in-Some t c =
    c.max-in-Some.ensures
    ∙ if_counted _ _ _ _ _ c.in-If.is c.branches_temporaries-most.ensures c.as_slice-in-If.ensures.value c.statements_temporaries.result
    (c.statements_temporaries.ensures ∙ ap (λ xs. counted (Counts.statements_temporaries (statements_in xs))) c.as_slice-in-Some.ensures.value
    ∙ ap (λ o. counted (Counts.branches_temporaries (otherwise_of o))) (sym c.in-Some.is))

pub statement_temporaries-returns-in-None : goal.statement_temporaries-returns-in-None
statement_temporaries-returns-in-None t c =
    alone c.branches_temporaries-most.result
    ∙ if_counted _ _ _ _ _ c.in-If.is c.branches_temporaries-most.ensures c.as_slice-in-If.ensures.value 0
    (ap (λ o. counted (Counts.branches_temporaries (otherwise_of o))) (sym c.in-None.is))
  where
    alone : (n : ℕ) → n ≡ max n 0
    alone n = omega arith
