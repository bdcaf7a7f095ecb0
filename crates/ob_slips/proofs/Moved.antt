-- What holds of a text with mendings holds of the same.
use Rattle.std.proofs.Common.{◌≡◌, ℕ, List, subst}
use Rattle.ob_slips.specs.Behind.{Stage}
use Rattle.ob_mendings.specs.declared.origin.Move.{Move}

abbrev pub stage : (name own text : List ℕ) → List Move → Stage
stage name own text moves = record { name = name; own = own; text = text; moves = moves }

pub moved : (P : Stage → Type 0) (name own text other : List ℕ) (moves others : List Move) → text ≡ other → moves ≡ others
    → P (stage name own text moves) → P (stage name own other others)
moved P name own text other moves others same alike holds =
    subst (λ (ms : List Move). P (stage name own other ms)) alike (subst (λ (t : List ℕ). P (stage name own t moves)) same holds)
