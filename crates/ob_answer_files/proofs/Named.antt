-- Names with nothing behind them.
use Rattle.std.proofs.Common.{◌≡◌, ℕ, ◌<◌, List, [], ◌∷◌, None, arith, length, refl}
use Rattle.ob_answer_files.specs.Files.{bytes_named}

pub none_left : (name : List ℕ) (texts : List (List ℕ)) → length texts < 2 → None ≡ bytes_named name texts
none_left name [] short = refl
none_left name (first ∷ []) short = refl
none_left name (first ∷ bytes ∷ others) short = absurd (omega (arith, short))
