-- A text is the script of one list of calls at most.
use Rattle.std.proofs.Common.{◌≡◌, ◌∙◌, ℕ, List, ◌∷◌, Some, refl, sym, ap}
use Rattle.std.proofs.lemmas.Bool.{false≢true}
use Rattle.ob_interface.specs.declared.scalar.Scalar.{Scalar}
use Rattle.ob_interface.specs.Export.{Signature, value_types}
use Rattle.ob_text_words.specs.Words.{IsDigits, Word}
use Rattle.ob_text_words.specs.Values.{AreValues}
use Rattle.ob_text_words.proofs.OneList.{one_list}
use Rattle.ob_text_scripts.specs.Script as Script
use Rattle.ob_text_words.specs.ScriptCalls.{ScriptCall}
use Rattle.ob_text_scripts.specs.Script.{AreLines, IsSkipped, Makes}

one_number : {most : ℕ} {word : Word} {m n : ℕ} → IsDigits most word m → IsDigits most word n → m ≡ n
one_number h k = sym h.spells ∙ k.spells

-- `#` is no digit
no_hash : {most n : ℕ} {word : Word} → IsDigits most (35 ∷ word) n → ⊥
no_hash h = false≢true h.digits

abbrev Numbered : Type 0
Numbered = ℕ × Signature

same_export : {a b : Numbered} → Some a ≡ Some b → a ≡ b
same_export e = cc

-- arguments that fit the same export
one_list_of : {e f : Numbered} {words : List Word} {xs ys : List Scalar} → e ≡ f
    → AreValues (value_types e.1.formals) words xs → AreValues (value_types f.1.formals) words ys → xs ≡ ys
one_list_of {e} {f} {words} {xs} {ys} same h k = one_list _ _ _ _ h (rw (← same) at k)

abbrev call_made : ℕ → ℕ → List Scalar → ScriptCall
call_made p m xs = record { process = p; export = m; arguments = xs }

one_call_of : (p q m n : ℕ) (xs ys : List Scalar) → p ≡ q → m ≡ n → xs ≡ ys → call_made p m xs ≡ call_made q n ys
one_call_of p q m n xs ys a b c = rw (a, b, c) refl

-- a line that is skipped makes no call
not_both : {signatures : List Signature} {processes : ℕ} {line : List Word} {c : ScriptCall} → IsSkipped line → Makes signatures processes line c → ⊥
not_both Script.blank m = elim m [ ]
not_both Script.comment (Script.makes process below named found fit) = no_hash process

module _ (signatures : List Signature) (processes : ℕ) where
  one_call : {line : List Word} {c d : ScriptCall} → Makes signatures processes line c → Makes signatures processes line d → c ≡ d
  one_call (Script.makes {p = p} {n = m} {signature = e} {arguments = xs} process below named found fit) (Script.makes {p = q} {n = n} {signature = f} {arguments = ys} process' below' named' found' fit') =
      let same : (m, e) ≡ (n, f) = same_export (sym found ∙ found') in
      one_call_of p q m n xs ys (one_number process process') (ap (λ (x : Numbered). x.0) same) (one_list_of same fit fit')

  one_lines : {ls : List (List Word)} {cs ds : List ScriptCall} → AreLines signatures processes ls cs → AreLines signatures processes ls ds → cs ≡ ds
  one_lines Script.none Script.none = refl
  one_lines (Script.skipped s h) (Script.skipped t k) = one_lines h k
  one_lines (Script.skipped s h) (Script.call c k) = absurd (not_both s c)
  one_lines (Script.call c h) (Script.skipped s k) = absurd (not_both s c)
  one_lines (Script.call c h) (Script.call d k) =
      let first = one_call c d in
      let rest = one_lines h k in
      cc

  pub one_script : (text : List ℕ) {cs ds : List ScriptCall} → Script.IsScript signatures processes text cs → Script.IsScript signatures processes text ds → cs ≡ ds
  one_script text h k = one_lines h k
