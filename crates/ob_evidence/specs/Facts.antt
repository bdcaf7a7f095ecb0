-- Facts that are noted of a place.
use Rattle.std.specs.Prelude.{◌++◌, Bool, List, [], ◌∷◌, filter, map, if◌then◌else◌}
use Rattle.ob_explain_sentences.specs.declared.table_rows.Fact.{Fact}

-- of some facts those that hold, in their order
abbrev pub facts_in : List (Bool × Fact) → List Fact
facts_in pairs = map (λ p. p.1) (filter (λ p. p.0) pairs)

-- facts, and behind them another one if it holds
abbrev pub with_fact : List Fact → Bool → Fact → List Fact
with_fact facts is fact = if is then facts ++ fact ∷ [] else facts
