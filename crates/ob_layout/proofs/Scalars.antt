-- The words of a state have each scalar at the word of its place.
use Rattle.std.proofs.Common.{◌≡◌, ℕ, ℤ, pos, List, [], ◌∷◌, Some, sym, ap, ◌∙◌, arith}
use Rattle.std.specs.Prelude.{slice_get}
use Rattle.std.proofs.lemmas.Option.{slice_get-get_or}
use Rattle.ob_meaning.specs.ByPositionStore.{Place}
use Rattle.ob_code_scheme.specs.Types.{Scope, variables_scope, address}
use Rattle.ob_code_scheme.specs.Image.{store_words}
use Rattle.ob_code_scheme.specs.Memory.{part_word}
use Rattle.ob_code_correct.proofs.Looking.{looks}
use Rattle.ob_code_correct.proofs.Positions.{encodes}
use Rattle.ob_layout.specs.Places.{WordsHoldScalars}

pub words_hold_scalars : WordsHoldScalars
words_hold_scalars variables state position path type is there =
    let scopes : List Scope = variables_scope variables ∷ [] in
    let place : Place = record { activation = 0; position = position; path = path } in
    let e = encodes variables state is in
    let l = looks scopes (state ∷ []) place type e.0 there in
    let at : address scopes place ≡ part_word variables position path = omega arith in
    let ws = store_words scopes (state ∷ []) in
    record {
      scalar = l.value;
      value_is = l.value_is;
      typed = l.typed;
      word_is = ap (λ (vs : List ℤ). slice_get vs (part_word variables position path)) (sym e.1)
          ∙ ap (λ (i : ℕ). slice_get ws i) (sym at)
          ∙ slice_get-get_or ws (address scopes place) (pos 0) l.below
          ∙ ap Some l.word_is;
    }
