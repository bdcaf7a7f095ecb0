-- The calls of one process, one call of a script after the other.
use Rattle.std.proofs.Common.{◌≡◌, sym, ap, ◌∙◌, ℕ, ◌+◌, ◌<◌, Bool, true, false, List, [], ◌∷◌, ◌++◌, length, get_or, drop, map, append_assoc, if◌then◌else◌}
use Rattle.std.specs.Prelude.{nat_eq}
use Rattle.std.proofs.lemmas.List.{at_drop_more, map-append}
use Rattle.ob_interface.specs.Call.{ObjectCall}
use Rattle.ob_object_outcomes.specs.Scripts.{calls_by}
use Rattle.ob_text_words.specs.ScriptCalls.{object_call, script_call_of}
use Rattle.ob_text_words.specs.declared.script_call.ScriptCall as Rust
use Rattle.wf_history.specs.declared.kept.KeptCall.{KeptCall}
use Rattle.wf_history.specs.View.{kept_call}

module _ (process : ℕ) (calls : List Rust.ScriptCall) (i : ℕ) (x : Rust.ScriptCall) (within : i < length calls) (is : x ≡ get_or calls i x) where
  abbrev own_of : List Rust.ScriptCall → List ObjectCall
  own_of rest = calls_by process (map script_call_of rest)

  next_is : own_of (drop i calls) ≡ own_of (x ∷ drop (i + 1) calls)
  next_is = at_drop_more own_of calls i x within ∙ ap (λ (y : Rust.ScriptCall). own_of (y ∷ drop (i + 1) calls)) (sym is)

  abbrev or_not : Bool → List ObjectCall
  or_not b = if b then object_call (script_call_of x) ∷ own_of (drop (i + 1) calls) else own_of (drop (i + 1) calls)

  module _ (own : List KeptCall) (so_far : map kept_call own ++ own_of (drop i calls) ≡ own_of calls) where
    -- the call is of another process
    pub left_out : nat_eq x.process process ≡ false → map kept_call own ++ own_of (drop (i + 1) calls) ≡ own_of calls
    left_out other = ap (λ (l : List ObjectCall). map kept_call own ++ l) (sym (next_is ∙ ap or_not other)) ∙ so_far

    -- the call is of the process
    pub taken : nat_eq x.process process ≡ true → (k : KeptCall) → kept_call k ≡ object_call (script_call_of x) → (after : List KeptCall) → after ≡ own ++ k ∷ [] →
        map kept_call after ++ own_of (drop (i + 1) calls) ≡ own_of calls
    taken same k kept after pushed =
        let rest = own_of (drop (i + 1) calls) in
        ap (λ (l : List KeptCall). map kept_call l ++ rest) pushed ∙ ap (λ (l : List ObjectCall). l ++ rest) (map-append kept_call own (k ∷ []))
        ∙ append_assoc (map kept_call own) (kept_call k ∷ []) rest
        ∙ ap (λ (c : ObjectCall). map kept_call own ++ c ∷ rest) kept
        ∙ ap (λ (l : List ObjectCall). map kept_call own ++ l) (sym (next_is ∙ ap or_not same)) ∙ so_far
