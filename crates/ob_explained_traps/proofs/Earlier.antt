-- Whether one of calls traps at a place, by the last of them.
use Rattle.std.proofs.Common.{◌≡◌, ◌∙◌, ◌||◌, ◌++◌, ◌∷◌, [], Bool, true, false, List, Option, ap, refl}
use Rattle.std.specs.List.{list_any}
use Rattle.std.proofs.lemmas.List.Folds.{list_any-append}
use Rattle.ob_explained_traps.specs.TrapPlaces.{traps_at}
use Rattle.ob_explained_traps.specs.declared.spots.Spot.{Spot}

or_false : (b : Bool) → (b || false) ≡ b
or_false true = refl
or_false false = refl

or_true : (b : Bool) → (b || true) ≡ true
or_true true = refl
or_true false = refl

pub met_before : (spot : Spot) (calls : List (Option Spot)) (last : Option Spot) → traps_at spot last ≡ false →
    list_any (traps_at spot) (calls ++ (last ∷ [])) ≡ list_any (traps_at spot) calls
met_before spot calls last other =
    list_any-append (traps_at spot) calls (last ∷ []) ∙ ap (λ (b : Bool). list_any (traps_at spot) calls || (b || false)) other
    ∙ or_false (list_any (traps_at spot) calls)

pub met_last : (spot : Spot) (calls : List (Option Spot)) (last : Option Spot) → traps_at spot last ≡ true →
    list_any (traps_at spot) (calls ++ (last ∷ [])) ≡ true
met_last spot calls last there =
    list_any-append (traps_at spot) calls (last ∷ []) ∙ ap (λ (b : Bool). list_any (traps_at spot) calls || (b || false)) there
    ∙ or_true (list_any (traps_at spot) calls)
