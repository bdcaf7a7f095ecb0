use Rattle.std.proofs.Common.{◌≡◌, ◌++◌, take}
use Rattle.ob_object_search.specs.Words.{parts_words}
use Rattle.ob_store.specs.View.{values_in}
use Rattle.ob_object_search.proofs.state_words.+words.Given as goal

-- the words of the values so far are added
abbrev pub invariant-push_all-loop-value : goal.invariant-push_all-loop-value
invariant-push_all-loop-value l = l.words.items ≡ l.fn.words.items ++ parts_words (values_in (take l.value-index l.values))
