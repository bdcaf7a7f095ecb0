-- What the names so far say of the word.
use Rattle.std.proofs.Common.{◌≡◌, take}
use Rattle.std.specs.List.{fold}
use Rattle.ob_explain_names.specs.Lookup.{own_sort, sort_behind}
use Rattle.ob_explain_names.proofs.lookup.sort_of.Given as goal

abbrev pub invariant-loop-name : goal.invariant-loop-name
invariant-loop-name l = l.sort ≡ fold (sort_behind l.text l.word) (own_sort l.word) (take l.name-index l.known)
