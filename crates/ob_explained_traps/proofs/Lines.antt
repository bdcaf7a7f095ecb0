-- The lines of a script's calls: as many as there are calls.
use Rattle.std.proofs.Common.{◌≡◌, ◌∙◌, ◌≤◌, ◌<◌, ◌+◌, ◌==◌, ◌++◌, refl, ap, sym, subst, inl, inr, ℕ, suc, Bool, true, false, IsTrue, List, [], ◌∷◌, length, map, not, take, get_or, append-nil, arith, if◌then◌else◌}
use Rattle.std.proofs.lemmas.List.{length-take, take_more}
use Rattle.std.proofs.lemmas.Bool.Decides.{eqb_tells}
use Rattle.std.specs.List.{list_all}
use Rattle.std.specs.Char.{is_ascii_digit}
use Rattle.ob_interface.specs.Export.{Signature}
use Rattle.ob_text_scripts.specs.Script.{AreLines, none, skipped, call, IsScript, IsSkipped, blank, comment, Makes, makes}
use Rattle.ob_text_words.specs.ScriptCalls.{ScriptCall}
use Rattle.ob_text_words.specs.Words.{IsProcess, Word, lines, words}
use Rattle.ob_explained_traps.specs.CallLines.{call_lines, is_silent, lines_from}

-- a line with nothing to say makes no call
skipped_silent : {line : List Word} → IsSkipped line → is_silent line ≡ true
skipped_silent blank = refl
skipped_silent comment = refl

-- no process begins with `#`
no_comment : (b : ℕ) (word : Word) → IsTrue (list_all is_ascii_digit (b ∷ word)) → (b == 35) ≡ false
no_comment b word digits = elim (eqb_tells b 35) [
  | inl same ↦ let bad : false ≡ true = subst (λ (x : ℕ). IsTrue (list_all is_ascii_digit (x ∷ word))) same.1 digits in cc
  | inr other ↦ other.0
]

process_speaks : (first : Word) (others : List Word) (p : ℕ) → IsProcess first p → is_silent (first ∷ others) ≡ false
process_speaks [] others p is = refl
process_speaks (b ∷ word) others p is = no_comment b word is.digits

module _ (signatures : List Signature) (processes : ℕ) where
  call_speaks : {line : List Word} {c : ScriptCall} → Makes signatures processes line c → is_silent line ≡ false
  call_speaks (makes {first = first} {name = name} {rest = rest} {p = p} is below named found values) = process_speaks first (name ∷ rest) p is

  counted : (number : ℕ) {all : List (List Word)} {calls : List ScriptCall} → AreLines signatures processes all calls → length (lines_from number all) ≡ length calls
  counted number none = refl
  counted number (skipped {line = line} {rest = rest} {calls = calls} is others) =
      ap (λ (t : Bool). length (if t then lines_from (suc number) rest else number ∷ lines_from (suc number) rest)) (skipped_silent is)
      ∙ counted (suc number) others
  counted number (call {line = line} {rest = rest} {c = c} {calls = calls} makes_it others) =
      ap (λ (t : Bool). length (if t then lines_from (suc number) rest else number ∷ lines_from (suc number) rest)) (call_speaks makes_it)
      ∙ ap suc (counted (suc number) others)

  pub script_lined : (script : List ℕ) (calls : List ScriptCall) → IsScript signatures processes script calls → length (call_lines script) ≡ length calls
  script_lined script calls is = counted 1 is

-- ---- line by line

one_more : (number : ℕ) (line : List Word) → lines_from number (line ∷ []) ≡ (if is_silent line then [] else (number + 0) ∷ [])
one_more number line =
    let none : number ≡ number + 0 = omega arith in
    ap (λ k. if is_silent line then [] else k ∷ []) none

lines_from-end : (number : ℕ) (all : List (List Word)) (line : List Word) →
    lines_from number (all ++ line ∷ []) ≡ lines_from number all ++ (if is_silent line then [] else (number + length all) ∷ [])
lines_from-end number [] line = one_more number line
lines_from-end number (first ∷ all) line =
    let moved : suc number + length all ≡ number + suc (length all) = omega arith in
    go (is_silent first)
    (lines_from-end (suc number) all line ∙ ap (λ k. lines_from (suc number) all ++ (if is_silent line then [] else k ∷ [])) moved)
  where
    go : (t : Bool) →
        lines_from (suc number) (all ++ line ∷ []) ≡ lines_from (suc number) all ++ (if is_silent line then [] else (number + suc (length all)) ∷ []) →
        (if t then lines_from (suc number) (all ++ line ∷ []) else number ∷ lines_from (suc number) (all ++ line ∷ []))
        ≡ (if t then lines_from (suc number) all else number ∷ lines_from (suc number) all) ++ (if is_silent line then [] else (number + suc (length all)) ∷ [])
    go true later = later
    go false later = ap (λ ns. number ∷ ns) later

module _ (all : List (List Word)) (n : ℕ) (line : List Word) (within : n < length all) (at : line ≡ get_or all n line) where
  so_far : lines_from 1 (take (n + 1) all) ≡ lines_from 1 (take n all) ++ (if is_silent line then [] else (1 + n) ∷ [])
  so_far =
      let long : length (take n all) ≡ n = omega (arith, length-take n all) in
      ap (lines_from 1) (take_more all n line within ∙ ap (λ l. take n all ++ l ∷ []) (sym at))
      ∙ lines_from-end 1 (take n all) line
      ∙ ap (λ k. lines_from 1 (take n all) ++ (if is_silent line then [] else (1 + k) ∷ [])) long

  pub lines_with : is_silent line ≡ false → lines_from 1 (take (n + 1) all) ≡ lines_from 1 (take n all) ++ (n + 1) ∷ []
  lines_with speaks =
      let next : 1 + n ≡ n + 1 = omega arith in
      so_far ∙ ap (λ (t : Bool). lines_from 1 (take n all) ++ (if t then [] else (1 + n) ∷ [])) speaks ∙ ap (λ k. lines_from 1 (take n all) ++ k ∷ []) next

  pub lines_without : is_silent line ≡ true → lines_from 1 (take (n + 1) all) ≡ lines_from 1 (take n all)
  lines_without silent =
      so_far ∙ ap (λ (t : Bool). lines_from 1 (take n all) ++ (if t then [] else (1 + n) ∷ [])) silent ∙ append-nil (lines_from 1 (take n all))

-- ---- whether a line makes a call

pub speaks : (b : Bool) → not b ≡ true → b ≡ false
speaks true h = cc
speaks false h = refl

pub is_quiet : (b : Bool) → not b ≡ false → b ≡ true
is_quiet true h = refl
is_quiet false h = cc
