-- Texts that are appended to.
use Rattle.std.specs.Prelude.{◌≡◌, ℕ, List, ◌++◌}

-- the new text begins with the old one; what an error leaves of a text that several parts are appended to
pub record GoesOn (old new : List ℕ) : Type 0 where
  pub behind : List ℕ
  pub joined : new ≡ old ++ behind
