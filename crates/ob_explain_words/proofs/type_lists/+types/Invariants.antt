-- How deep types may stand falls from a type to its parts; within one depth lists stand above the types in them.
use Rattle.std.proofs.Common.{◌≡◌, ◌≤◌, ◌+◌, ◌*◌, drop}
use Rattle.ob_explain_words.specs.Scopes.{scope_of}
use Rattle.ob_explain_words.specs.Types.{list_words, size_of, type_words}
use Rattle.ob_explain_words.specs.declared.type_lists.Reading.TheVariants.{Names}
use Rattle.ob_explain_words.proofs.type_lists.+types.Given as goal

abbrev pub decreases-type_words : goal.decreases-type_words
decreases-type_words l = 3 * l.deep

abbrev pub decreases-array_words : goal.decreases-array_words
decreases-array_words l = 3 * l.deep + 1

abbrev pub decreases-with_list : goal.decreases-with_list
decreases-with_list l = 3 * l.deep + 1

abbrev pub decreases-list_words : goal.decreases-list_words
decreases-list_words l = 3 * l.deep + 2

-- what is left of the tokens gives the words, and there are not more names or records than tokens so far
abbrev pub invariant-list_words-loop-i : goal.invariant-list_words-loop-i
invariant-list_words-loop-i l =
    record {
      left : list_words (type_words (scope_of l.scope) l.deep) l.last l.total l.reading (drop l.i l.tokens)
          ≡ list_words (type_words (scope_of l.scope) l.deep) l.last 0 (Names 0) l.tokens;
      few : size_of l.reading ≤ l.i;
    }
