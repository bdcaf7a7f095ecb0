-- Writes that are taken back.
use Rattle.std.proofs.Common.{◌≡◌, List, [], ◌∷◌, ◌++◌, refl, ap}
use Rattle.ob_store.specs.declared.before.Listed.{Listed}
use Rattle.ob_store.specs.Begun.{without_listed, taken_back}
use Rattle.ob_meaning.specs.ByPositionStore as Stores

-- the last write is taken back before the others
pub taken_back-last : (writes : List Listed) (w : Listed) (a : Stores.Activation) →
    taken_back (writes ++ w ∷ []) a ≡ taken_back writes (without_listed w a)
taken_back-last [] w a = refl
taken_back-last (v ∷ writes) w a = ap (without_listed v) (taken_back-last writes w a)
