use Rattle.std.proofs.Common.{inl, inr, refl, sym, ◌∙◌}
use Rattle.std.proofs.lemmas.Bool.{false≢true}
use Rattle.ob_diagnosis.proofs.told_by_tables.undeclared.Goals as goal

pub returns-then-declares : goal.returns-then-declares
returns-then-declares c = inl refl

pub returns-else-declares : goal.returns-else-declares
returns-else-declares c = inr (λ d. false≢true (sym c.if-declares.false ∙ c.declares.ensures.1 d))
