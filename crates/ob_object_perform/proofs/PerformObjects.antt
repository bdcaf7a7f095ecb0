-- What a run needs of an object, and what is an object over its engine.
use Rattle.std.proofs.Common.{◌≡◌, ◌∙◌, ℕ, ◌<◌, List, All, ap, sym, subst}
use Rattle.std.specs.Prelude.{ℤ}
use Rattle.std.proofs.lemmas.List.Elements.{All-cons, All-nil}
use Rattle.ob_meaning.specs.Same.{SameState}
use Rattle.ob_code_engine.specs.CodeEngine.{CompiledParts}
use Rattle.ob_code_correct.specs.CodeMeaning.{EngineParts}
use Rattle.ob_code_correct.specs.Compiled.{Fits, IsFitting}
use Rattle.ob_code_correct.specs.Parts.{IsLawfulFor}
use Rattle.ob_layout.specs.Layout.{LayoutParts}
use Rattle.ob_code_scheme.specs.Layout.{encoded}
use Rattle.ob_interface.specs.Call.{ObjectCall}
use Rattle.ob_meaning.specs.ByNameObject as Named
use Rattle.ob_object_compile.specs.Compilation.{ObjectParts}
use Rattle.ob_object_compile.specs.Sound.{IsSoundObject}
use Rattle.ob_object_run.specs.Laws.{StatesAreObjects}
use Rattle.ob_object_run.specs.Recorded.{IsNamedObjectOf, IsObject, IsObjectOf}
use Rattle.ob_meaning.specs.ByPositionStore.{Activation}
use Rattle.ob_text_words.specs.Schedule.{AreItems, IsSchedule, item_words, more, none, process_of}
use Rattle.ob_text_words.specs.declared.item.Item.{Item}
use Rattle.ob_text_words.specs.Words.{Word}

module _ (o : ObjectParts) (sound : IsSoundObject o) where
  -- the calls that fit the program are those that fit the engine
  pub fits_engine : (call : ObjectCall) → Fits o.program call → IsFitting o.engine.exports call
  fits_engine call h = subst (λ (e : EngineParts). IsFitting e.exports call) (sym sound.engine_is) h

  pub fits_program : (parts : EngineParts) → parts ≡ o.engine → (call : ObjectCall) → IsFitting parts.exports call → Fits o.program call
  fits_program parts parts_is call h = subst (λ (e : EngineParts). IsFitting e.exports call) (parts_is ∙ sound.engine_is) h

  module _ (states_are : StatesAreObjects) where
    pub is_object : IsObjectOf o.program o.engine o.opening (encoded o.opening)
    is_object =
        subst (λ (e : EngineParts). IsObjectOf o.program e o.opening (encoded o.opening)) (sym sound.engine_is)
        (states_are o.program o.engine.budget o.opening sound.well sound.begins)

    pub named_object : (opening : Named.State) → SameState o.program opening o.opening → IsNamedObjectOf o.program o.engine opening (encoded o.opening)
    named_object opening same = record { resolved = sound.resolved; activation = o.opening; same = same; is = is_object }

    -- its engine
    abbrev pub engine : CompiledParts
    engine = record { parts = o.engine; compiled = ∣ (o.program, is_object.compiled) ∣₁ }

    -- the same of an engine and a state that are the object's
    module _ (parts : EngineParts) (opening : Activation) (parts_are : parts ≡ o.engine) (opening_is : opening ≡ o.opening) where
      pub is_object_of : IsObjectOf o.program parts o.opening (encoded opening)
      is_object_of =
          subst (λ (e : EngineParts). IsObjectOf o.program e o.opening (encoded opening)) (sym parts_are)
          (subst (λ (a : Activation). IsObjectOf o.program o.engine o.opening (encoded a)) (sym opening_is) is_object)

      module _ (layout : LayoutParts) (laid : layout ≡ o.layout) where
        pub variables_are : o.program.variables ≡ layout.variables
        variables_are = sym (ap (λ (l : LayoutParts). l.variables) (laid ∙ sound.layout_is))

        pub object_for : IsObject layout.variables parts (encoded opening)
        object_for = record { program = o.program; same = variables_are; opening = o.opening; is = is_object_of }

      pub named_object_of : (state : Named.State) → SameState o.program state o.opening → IsNamedObjectOf o.program parts state (encoded opening)
      named_object_of state same = record { resolved = sound.resolved; activation = o.opening; same = same; is = is_object_of }

    -- an engine and words that are the object's may begin
    pub lawful : (parts : EngineParts) (words : List ℤ) → parts ≡ o.engine → words ≡ encoded o.opening → IsLawfulFor parts words
    lawful parts words parts_are words_are =
        subst (λ (e : EngineParts). IsLawfulFor e words) (sym parts_are)
        (subst (λ (ws : List ℤ). IsLawfulFor o.engine ws) (sym words_are)
        (record { program = o.program; compiled = is_object.compiled; is = record { state = o.opening; encodes = is_object.encodes } }))

-- ---- items

items_below : (n : ℕ) (ws : List Word) (items : List Item) → AreItems n ws items → All (λ item. process_of item < n) items
items_below n ws items none = All-nil (λ (item : Item). process_of item < n)
items_below n ws items (more {ws = rest} {item = item} {items = others} is below h) = All-cons (λ (x : Item). process_of x < n) item others below (items_below n rest others h)

pub schedule_below : (n : ℕ) (text : List ℕ) (items : List Item) → IsSchedule n text items → All (λ item. process_of item < n) items
schedule_below n text items h = items_below n (item_words text) items h
