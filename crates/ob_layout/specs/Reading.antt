-- What was read from words: a value or its parts, and where the words behind them begin.
use Rattle.std.specs.Prelude.{ℕ, ℤ, List, drop, Option, option_map, Vec}
use Rattle.std.specs.declared.alloc.Global.{Global}
use Rattle.ob_meaning.specs.ByPositionValue as Values
use Rattle.ob_store.specs.declared.value.Value.{Value}
use Rattle.ob_store.specs.View.{value_in, values_in}

abbrev pub value_read : List ℤ → Option (Value × ℕ) → Option (Values.Value × List ℤ)
value_read words o = option_map (λ r. (value_in r.0, drop r.1 words)) o

abbrev pub parts_read : List ℤ → Option (Vec Value Global × ℕ) → Option (Values.Values × List ℤ)
parts_read words o = option_map (λ r. (values_in r.0.items, drop r.1 words)) o

-- parts as one value
abbrev pub whole_of : Option (Values.Values × List ℤ) → Option (Values.Value × List ℤ)
whole_of o = option_map (λ r. (Values.Parts r.0, r.1)) o
