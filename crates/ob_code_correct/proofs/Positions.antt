-- A position more and one less, what variables begin as, and states.
use Rattle.std.proofs.Common.{◌≡◌, ℕ, pred, ◌+◌, ℤ, List, [], ◌∷◌, ◌++◌, length, take, drop, map, refl, sym, ap, ◌∙◌, subst, append-nil, arith}
use Rattle.std.specs.Prelude.{filter}
use Rattle.std.proofs.lemmas.List.{take_at}
use Rattle.ob_typing.specs.Program.{Parameter, Variable}
use Rattle.ob_meaning.specs.ByPositionValue.{initial}
use Rattle.ob_meaning.specs.ByPositionStore.{Holds, Refers, Activation, Store, activation_at}
use Rattle.ob_meaning.specs.ByPositionStatements.{begun}
use Rattle.ob_code_scheme.specs.Types.{words, Holding, Scope, extent, variables_scope, total, FitsActivation, FitsFrom, Fits, IsStateOf}
use Rattle.ob_code_scheme.specs.Layout.{flat, encoded}
use Rattle.ob_code_scheme.specs.Image.{Scopes, all, position_words, store_words}
use Rattle.ob_code_scheme.specs.Memory as Owed
use Rattle.ob_code_scheme.specs.Memory.{Grown, Shrunk, entered}
use Rattle.ob_code_correct.proofs.Initial.{zeros, zeros-add, initial_is, flat-initial, begun_fits, begun_words}
use Rattle.ob_code_correct.proofs.Located.{length-position}
use Rattle.ob_code_correct.proofs.Found.{length-from}
use Rattle.ob_code_correct.proofs.Growth.{fits_activation_more, fits_from_more, fits_from_fewer, position_words_same, store_words_same, position_words-append, store_words-append, fits_activation-append, fits_from-append, ends_with, take-last}
use Rattle.ob_code_correct.proofs.Decoded.{decoded_is, decoded_back}

-- ---- a position more

pub grows : Owed.Grows
grows scopes own [] a h g = absurd h.from
grows scopes own (m ∷ store) a h g =
    let these = all scopes in
    let more = own ∷ [] in
    let none : length these ≡ 0 + length these = omega arith in
    let last : FitsActivation (these ++ more) (0 + length these) own a = subst (λ (n : ℕ). FitsActivation (these ++ more) n own a) none (fits_activation_more these more (length these) own a g) in
    record {
      fits = record { from = fits_from-append (these ++ more) 0 these more (m ∷ store) (a ∷ []) (fits_from_more these more 0 these (m ∷ store) h.from) (last, tt) };
      block = position_words_same these more 0 scopes.globals m h.from.0;
      stack = store_words-append (these ++ more) store (a ∷ [])
          ∙ ap (λ (ws : List ℤ). ws ++ (position_words (these ++ more) a ++ [])) (store_words_same these more 1 (scopes.lower ++ scopes.own ∷ []) store h.from.1)
          ∙ ap (λ (ws : List ℤ). store_words these store ++ ws) (append-nil (position_words (these ++ more) a) ∙ position_words_same these more (length these) own a g);
    }

-- ---- one less

shrunk : (scopes : Scopes) (own : Scope) (front : Store) (last : Activation) → FitsFrom (all scopes ++ own ∷ []) 0 (all scopes) front → Shrunk scopes own (front ++ last ∷ [])
shrunk scopes own [] last h = absurd h
shrunk scopes own (m ∷ rest) last h =
    let these = all scopes in
    let more = own ∷ [] in
    let below = scopes.lower ++ scopes.own ∷ [] in
    let fits : FitsFrom these 0 these (m ∷ rest) = fits_from_fewer these more 0 these (m ∷ rest) (omega arith) h in
    let cut : take (pred (length ((m ∷ rest) ++ last ∷ []))) ((m ∷ rest) ++ last ∷ []) ≡ m ∷ rest = take-last (m ∷ rest) last in
    record {
      fits = subst (λ (t : Store). Fits these t) (sym cut) (record { from = fits });
      block = ap (λ (t : Store). position_words these (activation_at t 0)) cut ∙ sym (position_words_same these more 0 scopes.globals m fits.0);
      stack = ap (λ (t : Store). store_words these (drop 1 t)) cut
          ∙ sym (store_words_same these more 1 below rest fits.1)
          ∙ sym (take_at (store_words (these ++ more) rest) (store_words (these ++ more) (last ∷ [])) (total below) (length-from (these ++ more) 1 below rest h.1))
          ∙ ap (take (total below)) (sym (store_words-append (these ++ more) rest (last ∷ [])));
    }

pub shrinks : Owed.Shrinks
shrinks scopes own store h =
    let e = ends_with (all scopes ++ own ∷ []) 0 (all scopes) own store h.from in
    subst (λ (t : Store). Shrunk scopes own t) (sym e.store_is) (shrunk scopes own e.front e.last e.front_fits)

-- ---- what variables begin as

pub initial_fits : Owed.InitialFits
initial_fits type = (initial_is type, flat-initial type)

pub variables_begin : Owed.BegunFits
variables_begin scopes k scope handed variables h = (
  fits_activation-append scopes k scope (variables_scope variables) handed (begun variables) h (begun_fits scopes k variables),
  position_words-append scopes handed (begun variables) ∙ ap (λ (ws : List ℤ). position_words scopes handed ++ ws) (begun_words scopes variables),
)

-- values of these types at their beginning
places_fit : (scopes : List Scope) (k : ℕ) (parameters : List Parameter) → FitsActivation scopes k (map (λ p. Holding p.type) parameters) (map (λ p. Holds (initial p.type)) parameters)
places_fit scopes k [] = tt
places_fit scopes k (p ∷ parameters) = (initial_is p.type, places_fit scopes k parameters)

places_words : (scopes : List Scope) (parameters : List Parameter) → position_words scopes (map (λ p. Holds (initial p.type)) parameters) ≡ zeros (extent (map (λ p. Holding p.type) parameters))
places_words scopes [] = refl
places_words scopes (p ∷ parameters) =
    ap (λ (ws : List ℤ). ws ++ position_words scopes (map (λ p. Holds (initial p.type)) parameters)) (flat-initial p.type)
    ∙ ap (λ (ws : List ℤ). zeros (words p.type) ++ ws) (places_words scopes parameters)
    ∙ zeros-add (words p.type) (extent (map (λ p. Holding p.type) parameters))

pub results_fit : Owed.ResultsFit
results_fit scopes k parameters =
    let results = filter (λ p. p.is_var) parameters in
    (places_fit scopes k results, places_words scopes results)

-- ---- states

-- values alone fit at any position, whatever the other scopes are
variables_fit : (scopes others : List Scope) (k n : ℕ) (variables : List Variable) (a : Activation) → FitsActivation scopes k (variables_scope variables) a → FitsActivation others n (variables_scope variables) a
variables_fit scopes others k n [] [] h = tt
variables_fit scopes others k n [] (x ∷ a) h = absurd h
variables_fit scopes others k n (v ∷ variables) [] h = absurd h
variables_fit scopes others k n (v ∷ variables) (Holds u ∷ a) h = (h.0, variables_fit scopes others k n variables a h.1)
variables_fit scopes others k n (v ∷ variables) (Refers place ∷ a) h = absurd h.0

state_words : (scopes : List Scope) (variables : List Variable) (state : Activation) → IsStateOf variables state → position_words scopes state ≡ encoded state
state_words scopes [] [] h = refl
state_words scopes [] (x ∷ state) h = absurd h
state_words scopes (v ∷ variables) [] h = absurd h
state_words scopes (v ∷ variables) (Holds u ∷ state) h = ap (λ (ws : List ℤ). flat u ++ ws) (state_words scopes variables state h.1)
state_words scopes (v ∷ variables) (Refers place ∷ state) h = absurd h.0

pub states_fit : Owed.StatesFit
states_fit scopes variables state h = (variables_fit [] scopes 0 0 variables state h, state_words scopes variables state h)

pub first_is_state : Owed.FirstIsState
first_is_state [] [] [] h is = (tt, refl)
first_is_state [] [] (v ∷ variables) h is = absurd (cc)
first_is_state [] (a ∷ store) variables h is = absurd h.from
first_is_state (s ∷ scopes) [] variables h is = absurd h.from
first_is_state (s ∷ scopes) (a ∷ store) variables h is =
    let fits : FitsActivation (s ∷ scopes) 0 (variables_scope variables) a = subst (λ (r : Scope). FitsActivation (s ∷ scopes) 0 r a) is h.from.0 in
    let typed : IsStateOf variables a = variables_fit (s ∷ scopes) [] 0 0 variables a fits in
    (typed, state_words (s ∷ scopes) variables a typed)

pub encodes : Owed.Encodes
encodes variables state h =
    let these = variables_scope variables ∷ [] in
    (record { from = (variables_fit [] these 0 0 variables state h, tt) }, append-nil (position_words these state) ∙ state_words these variables state h)

pub encoded_lengths : Owed.EncodedLengths
encoded_lengths variables state h = ap length (sym (state_words [] variables state h)) ∙ length-position [] 0 (variables_scope variables) state h

pub decodes_encoded : Owed.DecodesEncoded
decodes_encoded variables state h = decoded_back variables state h

pub encodes_decoded : Owed.EncodesDecoded
encodes_decoded variables ws state h = let read = decoded_is variables ws state h in (read.typed, sym read.words_are)
