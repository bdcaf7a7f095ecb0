-- The arguments that words hand over, and how many of them are VAR.
use Rattle.std.proofs.Common.{◌≡◌, suc, ℤ, Bool, true, false, cond, List, [], ◌∷◌, length, refl, ap}
use Rattle.ob_interface.specs.declared.export.Formal.{Formal}
use Rattle.ob_code_machine.specs.declared.argument.Argument.TheVariants.{Value, Var}
use Rattle.ob_code_machine.specs.Body.{result_count}
use Rattle.ob_code_machine.specs.Parameters.{first_word, other_words, arguments_in, var_count}

one_more : (b : Bool) (ps : List Formal) (words : List ℤ) → ((ws : List ℤ) → result_count (arguments_in ps ws) ≡ var_count ps) →
    result_count (cond b (Var ∷ arguments_in ps words) (Value (first_word words) ∷ arguments_in ps (other_words words))) ≡ cond b (suc (var_count ps)) (var_count ps)
one_more true ps words h = ap suc (h words)
one_more false ps words h = h (other_words words)

pub results_are : (ps : List Formal) (words : List ℤ) → result_count (arguments_in ps words) ≡ var_count ps
results_are [] words = refl
results_are (p ∷ ps) words = one_more p.is_var ps words (results_are ps)

longer : (b : Bool) (ps : List Formal) (words : List ℤ) → ((ws : List ℤ) → length (arguments_in ps ws) ≡ length ps) →
    length (cond b (Var ∷ arguments_in ps words) (Value (first_word words) ∷ arguments_in ps (other_words words))) ≡ suc (length ps)
longer true ps words h = ap suc (h words)
longer false ps words h = ap suc (h (other_words words))

pub as_many : (ps : List Formal) (words : List ℤ) → length (arguments_in ps words) ≡ length ps
as_many [] words = refl
as_many (p ∷ ps) words = longer p.is_var ps words (as_many ps)
