-- A variable's part, read one selector after the other.
use Rattle.std.proofs.Common.{◌≡◌, List, [], ◌∷◌, ◌++◌, refl, ap, sym, ◌∙◌, ℕ, Bool, true, ◌==◌, Vec, vec_len, eqb-true, arith}
use Rattle.std.specs.declared.alloc.Global.{Global}
use Rattle.std.proofs.lemmas.List.{nil_from_length}
use Rattle.ob_interface.specs.declared.scalar.Scalar.{Scalar}
use Rattle.ob_typing.specs.Program as Programs
use Rattle.ob_typing.specs.Arithmetic.{Evaluated, Gives, Traps, ◌>>=◌}
use Rattle.ob_meaning.specs.ByPositionValue.{Value, scalar_of, selected, inside}
use Rattle.ob_meaning.specs.ByPositionStore.{Store, value_at, place_of_slot, further_in, value_held, held_at, activation_at}
use Rattle.ob_meaning.specs.ByPositionEvaluation.{path_of}
use Rattle.ob_mean.specs.Evaluating.{read_of, read_behind}

selected-append : (v : Value) (p q : List ℕ) → selected v (p ++ q) ≡ selected (selected v p) q
selected-append v [] q = refl
selected-append v (i ∷ p) q = selected-append (inside v i) p q

-- two steps of an evaluation, the second of which only adds to what the first gives
abbrev bind : {A B : Type 0} → Evaluated A → (A → Evaluated B) → Evaluated B
bind = ◌>>=◌

bind_then : {A B C : Type 0} (v : Evaluated A) (f : A → Evaluated B) (g : B → Evaluated C) →
    bind (bind v f) g ≡ bind v (λ a. bind (f a) g)
bind_then (Gives a) f g = refl
bind_then (Traps k) f g = refl

same_behind : {A B : Type 0} (v : Evaluated A) (f g : A → Evaluated B) → ((a : A) → f a ≡ g a) → bind v f ≡ bind v g
same_behind (Gives a) f g h = h a
same_behind (Traps k) f g h = refl

-- the place of a designator, and the scalar there
pub read_begins : (store : Store) (v : Value) (d : Programs.Designator) (slot : Programs.Slot) (selectors : Programs.Selectors) →
    d ≡ Programs.Designated slot selectors → v ≡ value_at store (place_of_slot store slot) → read_behind store v selectors ≡ read_of store d
read_begins store v d slot selectors is lent =
    let place = place_of_slot store slot in
    let base = value_held (held_at (activation_at store place.activation) place.position) in
    let scalar_at : List ℕ → Evaluated Scalar = λ path. Gives (scalar_of (value_at store (further_in place path))) in
    ap (λ w. read_behind store w selectors) lent
    ∙ same_behind (path_of store selectors) (λ path. Gives (scalar_of (selected (value_at store place) path))) scalar_at
    (λ path. ap (λ w. Gives (scalar_of w)) (sym (selected-append base place.path path)))
    ∙ sym (bind_then (path_of store selectors) (λ path. Gives (further_in place path)) (λ p. Gives (scalar_of (value_at store p))))
    ∙ ap (read_of store) (sym is)

-- a variable without selectors, by the test on them
pub is_whole : {X : Type 0} (v : Vec X Global) (b : Bool) → b ≡ (vec_len v == 0) → b ≡ true → v.items ≡ []
is_whole v b tested holds = nil_from_length v.items (omega (arith, v.ok.0, eqb-true (vec_len v) 0 (sym tested ∙ holds)))
