-- Which kind of thing a name has to stand for at a place.
use Rattle.std.specs.Prelude.{Bool, true, false}
use Rattle.ob_explain_names.specs.declared.known.Sort.{Sort}
use Rattle.ob_explain_names.specs.declared.known.Sort.TheVariants as Sorts
use Rattle.ob_explain_words.specs.declared.need.Need.{Need}
use Rattle.ob_explain_words.specs.declared.need.Need.TheVariants as Needs

-- what a name is declared as is what is needed
abbrev pub admits : Need → Sort → Bool
admits Needs.Any sort = true
admits Needs.TypeName Sorts.TypeName = true
admits Needs.Variable Sorts.Variable = true
admits Needs.Procedure (Sorts.Procedure parameters) = true
admits Needs.Value Sorts.Constant = true
admits Needs.Value Sorts.Variable = true
admits Needs.NoProcedure Sorts.Constant = true
admits Needs.NoProcedure Sorts.Variable = true
admits Needs.NoProcedure Sorts.TypeName = true
admits _ _ = false
