use Rattle.std.proofs.Common.{sym, ap, ◌∙◌}
use Rattle.ob_code_scheme.specs.Temporaries as Counts
use Rattle.ob_checked.specs.View.{expression_of}
use Rattle.ob_checked.proofs.Rows.{expression_of-value}
use Rattle.ob_layout.proofs.Most.{chain_counted}
use Rattle.ob_layout.specs.Counted.{counted}
use Rattle.ob_layout.proofs.temporaries.+temporaries.Goals as goal

pub temporaries-returns-in-ValueOf : goal.temporaries-returns-in-ValueOf
temporaries-returns-in-ValueOf t c =
    c.designator_temporaries.ensures ∙ sym (ap (λ e. counted (Counts.temporaries e)) (ap expression_of c.in-ValueOf.is ∙ expression_of-value _ c.in-ValueOf.variable))

pub temporaries-returns-in-Computed : goal.temporaries-returns-in-Computed
temporaries-returns-in-Computed t c =
    c.max.ensures
    ∙ chain_counted _ _ _ _ _ _ _ c.in-Computed.is c.temporaries-most.ensures c.deref-in-Computed.ensures c.operations_temporaries.ensures c.as_slice.ensures.value
