-- Texts whose lines are remarks, byte by byte.
use Rattle.std.proofs.Common.{◌≡◌, ◌∙◌, ℕ, ◌==◌, Bool, true, false, List, [], ◌∷◌, ◌++◌, codes, ap, append_assoc}
use Rattle.ob_object_live.specs.Living.{remarked}

-- what stands before a byte
abbrev pub mark : Bool → List ℕ
mark true = codes "# "
mark false = []

pub remarked_next : (starts : Bool) (b : ℕ) (rest so_far all new : List ℕ) → new ≡ (so_far ++ mark starts) ++ b ∷ [] →
    so_far ++ remarked starts (b ∷ rest) ≡ all → new ++ remarked (b == 10) rest ≡ all
remarked_next true b rest so_far all new is before =
    ap (λ t. t ++ remarked (b == 10) rest) is ∙ append_assoc (so_far ++ codes "# ") (b ∷ []) (remarked (b == 10) rest)
    ∙ append_assoc so_far (codes "# ") (b ∷ remarked (b == 10) rest) ∙ before
remarked_next false b rest so_far all new is before =
    ap (λ t. t ++ remarked (b == 10) rest) is ∙ append_assoc (so_far ++ []) (b ∷ []) (remarked (b == 10) rest)
    ∙ append_assoc so_far [] (b ∷ remarked (b == 10) rest) ∙ before
