-- The names that are told so far, as a set.
use Rattle.std.specs.Prelude.{◌≡◌, List, String, ℕ}
use Rattle.std.specs.BTreeSet.{BTreeSet, contains_text}
use Rattle.std.specs.List.{list_any}
use Rattle.std.specs.Str.{bytes_eq}
use Rattle.std.specs.declared.alloc.Global.{Global}
use Rattle.ob_carry.specs.Carried.{Entry}

-- the set has the names of these and no others
abbrev pub IsIndexed : BTreeSet (String Global) → List Entry → Type 0
IsIndexed names told = (name : List ℕ) → contains_text names name ≡ list_any (λ e. bytes_eq name e.name) told
