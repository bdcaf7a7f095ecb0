-- The words by which the lines of a script go on, and the items that they say.
use Rattle.std.proofs.Common.{◌≡◌, ◌+◌, ◌<◌, ℕ, false, List, [], ◌∷◌, ◌++◌, length, take, get_or, map, refl, sym, ap, ◌∙◌, arith, append_assoc, append-nil, length-append}
use Rattle.std.specs.Char.{is_ascii_digit}
use Rattle.std.specs.List.{list_all}
use Rattle.std.proofs.lemmas.Bool.{and_parts, false≢true}
use Rattle.std.proofs.lemmas.List.{length-map, take_more}
use Rattle.std.proofs.lemmas.List.Elements.{All-append, All-cons, All-nil}
use Rattle.std.proofs.Math.ListN.{get_or-map}
use Rattle.ob_interface.specs.Export.{Signature}
use Rattle.ob_text_words.specs.ScriptCalls.{ScriptCall}
use Rattle.ob_text_words.specs.Words.{IsProcess, Word, lines, words}
use Rattle.ob_text_scripts.specs.Script as Scripts
use Rattle.ob_text_scripts.specs.Script.{AreLines, IsSkipped, Makes, blank, comment, makes}
use Rattle.ob_text_words.specs.Schedule.{AreItems, item_words, more, none, to_answer}
use Rattle.ob_text_scripts.specs.Finish.{AddsWords, GoesOnBy, IsFinished, answer_item, named, nothing, unnamed}
use Rattle.ob_text_scripts.proofs.ItemWords.{HasNoMark, is_mark, items_behind, word_behind}
use Rattle.ob_text_scripts.proofs.Numbers.{no_marks}

-- ---- one line

module _ (first : Word) (p : ℕ) (is : IsProcess first p) where
  whole_word : HasNoMark (first ++ 33 ∷ [])
  whole_word =
      All-append (λ b. is_mark b ≡ false) first (33 ∷ []) (no_marks first is.digits)
      (All-cons (λ b. is_mark b ≡ false) 33 [] refl (All-nil (λ b. is_mark b ≡ false)))

  some_word : 0 < length (first ++ 33 ∷ [])
  some_word = let one = length-append first (33 ∷ []) in omega (arith, one)

  pub goes_on_named : (rest : List Word) (text : List ℕ) → GoesOnBy (first ∷ rest) text (text ++ 10 ∷ (first ++ 33 ∷ []))
  goes_on_named rest text = record { behind = (first ++ 33 ∷ []) ∷ []; adds = named is; words = word_behind text (first ++ 33 ∷ []) whole_word some_word }

pub goes_on_alone : (line : List Word) (text : List ℕ) → AddsWords line [] → GoesOnBy line text text
goes_on_alone line text adds = record { behind = []; adds = adds; words = sym (append-nil (item_words text)) }

-- ---- all lines

pub data AddAll : List (List Word) → List Word → Type 0 where
  done : AddAll [] []
  and_more : {line : List Word} {ls : List (List Word)} {ws vs : List Word} → AddsWords line ws → AddAll ls vs → AddAll (line ∷ ls) (ws ++ vs)

add_one : (line : List Word) (ws : List Word) → AddsWords line ws → AddAll (line ∷ []) ws
add_one line ws adds = rw append-nil at (and_more {line = line} {ls = []} {ws = ws} {vs = []} adds done)

add_last : (ls : List (List Word)) (vs : List Word) (line : List Word) (ws : List Word) → AddAll ls vs → AddsWords line ws → AddAll (ls ++ line ∷ []) (vs ++ ws)
add_last ls vs line ws done adds = add_one line ws adds
add_last ls vs line ws (and_more {line = l} {ls = ls'} {ws = us} {vs = vs'} a h) adds =
    rw append_assoc (and_more a (add_last ls' vs' line ws h adds))

-- what a turn of a loop over lines has read
pub line_words : (parts : List (List ℕ)) (n : ℕ) (line : List ℕ) → n < length parts → line ≡ get_or parts n line
    → (n < length (map words parts)) × (words line ≡ get_or (map words parts) n (words line))
line_words parts n line below at = (rw length-map below, ap words at ∙ sym (get_or-map words parts n line))

-- the lines up to one, and that one
module _ (parts : List (List ℕ)) (schedule : List ℕ) where
  pub record GoOn (n : ℕ) (text : List ℕ) : Type 0 where
    pub behind : List Word
    pub adds : AddAll (take n (map words parts)) behind
    pub told : item_words text ≡ item_words schedule ++ behind

  pub go_on_begun : (text : List ℕ) → text ≡ schedule → GoOn 0 text
  go_on_begun text is = record { behind = []; adds = done; told = ap item_words is ∙ sym (append-nil (item_words schedule)) }

  pub go_on : (n : ℕ) (line : List Word) (old new : List ℕ) → n < length (map words parts) → line ≡ get_or (map words parts) n line
      → GoesOnBy line old new → GoOn n old → GoOn (n + 1) new
  go_on n line old new below at by so_far = record {
    behind = so_far.behind ++ by.behind;
    adds = rw (take_more (map words parts) n line, ← at) (add_last (take n (map words parts)) so_far.behind line by.behind so_far.adds by.adds);
    told = by.words ∙ ap (λ (ws : List Word). ws ++ by.behind) so_far.told ∙ append_assoc (item_words schedule) so_far.behind by.behind;
  }

-- ---- the items of a script's calls

no_number : (word : Word) (p : ℕ) → IsProcess (35 ∷ word) p → ⊥
no_number word p is = false≢true (and_parts (is_ascii_digit 35) (list_all is_ascii_digit word) is.digits).0

skipped_adds : (line ws : List Word) → IsSkipped line → AddsWords line ws → ws ≡ []
skipped_adds line ws blank nothing = refl
skipped_adds line ws comment (unnamed misfit) = refl
skipped_adds line ws (comment {word = word}) (named {p = p} is) = absurd (no_number word p is)

module _ (signatures : List Signature) (processes : ℕ) where
  made_adds : (line ws : List Word) (c : ScriptCall) → Makes signatures processes line c → AddsWords line ws → AreItems processes ws (answer_item c ∷ [])
  made_adds line ws c (makes {p = p} is below name export values) (unnamed misfit) = absurd (misfit p is)
  made_adds line ws c (makes {p = p} is below name export values) (named other) = more (to_answer is) below none

  answers : (ls : List (List Word)) (ws : List Word) (calls : List ScriptCall) → AddAll ls ws → AreLines signatures processes ls calls
      → AreItems processes ws (map answer_item calls)
  answers ls ws calls done Scripts.none = none
  answers ls ws calls (and_more {line = line} {ls = ls'} {ws = us} {vs = vs} a h) (Scripts.skipped {calls = calls'} s g) =
      rw (skipped_adds line us s a) (answers ls' vs calls' h g)
  answers ls ws calls (and_more {line = line} {ls = ls'} {ws = us} {vs = vs} a h) (Scripts.call {c = c} {calls = calls'} m g) =
      items_behind processes us vs (answer_item c ∷ []) (map answer_item calls') (made_adds line us c m a) (answers ls' vs calls' h g)

pub finished : (schedule script text : List ℕ) (n : ℕ) → take n (map words (lines script)) ≡ map words (lines script) → GoOn (lines script) schedule n text
    → IsFinished schedule script text
finished schedule script text n all on = record {
  behind = on.behind;
  words = on.told;
  ends = λ signatures processes calls items is_script is_schedule.
      (let adds = rw all at on.adds in
      rw on.told (items_behind processes (item_words schedule) on.behind items (map answer_item calls) is_schedule
      (answers signatures processes (map words (lines script)) on.behind calls adds is_script)));
}
