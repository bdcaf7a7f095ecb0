-- Each call passes over a word.
use Rattle.ob_explained.proofs.script_place.+word_place.Given as goal

abbrev pub decreases-word_place : goal.decreases-word_place
decreases-word_place l = l.number
