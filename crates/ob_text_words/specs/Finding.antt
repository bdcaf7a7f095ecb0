-- What reading finds, or that there is nothing of the kind.
use Rattle.std.specs.Prelude.{MatchOption, Option}

-- what is found is of this kind; where nothing is found, nothing is of it
abbrev pub Finds : {A : Type 0} → (A → Type 0) → Option A → Type 0
Finds {A} Is found = MatchOption found ((x : A) → Is x → ⊥) Is

-- the same of what the found value stands for
abbrev pub FindsAs : {A B : Type 0} → (A → B) → (B → Type 0) → Option A → Type 0
FindsAs {A} {B} meaning Is found = MatchOption found ((x : B) → Is x → ⊥) (λ a. Is (meaning a))
