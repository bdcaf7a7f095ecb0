-- Texts of which one is no word.
use Rattle.std.proofs.Common.{◌≡◌, ◌∙◌, ℕ, ◌<◌, Bor, List, IsUtf8, get_or, length, map, subst, sym}
use Rattle.std.proofs.lemmas.List.{get_or-map, length-map}
use Rattle.obl0_c.specs.Asked.{AreUtf8}

pub not_utf8 : (texts : List (Bor (List ℕ))) (k : ℕ) (d : Bor (List ℕ)) → k < length texts → (IsUtf8 (get_or texts k d).now → ⊥)
    → AreUtf8 (map (λ (t : Bor (List ℕ)). t.now) texts) → ⊥
not_utf8 texts k d more bad all =
    let now = λ (t : Bor (List ℕ)). t.now in
    bad (subst IsUtf8 (get_or-map now texts k d d.now more) (all k d.now (subst (λ (n : ℕ). k < n) (sym (length-map texts now)) more)))
