-- What is told of calls by position is told of them by name.
use Rattle.std.proofs.Common.{◌≡◌, ℕ, Bool, true, false, not, List, [], ◌∷◌, map, refl, sym, ap, ap₂, ◌∙◌, All, append-nil}
use Rattle.std.proofs.lemmas.Bool.{false≢true}
use Rattle.std.proofs.lemmas.List.Elements.{All-head, All-tail}
use Rattle.ob_meaning.specs.Resolved.{IsResolved, as_parameter, module_scope}
use Rattle.ob_meaning.specs.Same.{SameActivation, SameHeld, SameState, Scopes}
use Rattle.ob_meaning.proofs.SameCalls.{call_same}
use Rattle.ob_checked.specs.Exports.{signatures}
use Rattle.ob_interface.specs.Call.{ObjectCall, Reply}
use Rattle.ob_interface.specs.Export.{CallFits}
use Rattle.ob_mean.specs.Sequences as Sequences
use Rattle.ob_meaning.specs.ByNameObject as Named
use Rattle.ob_meaning.specs.ByNameObject.{State}
use Rattle.ob_meaning.specs.ByNameStore as Names
use Rattle.ob_object_calls.specs.declared.details.Details.{Details}
use Rattle.ob_object_calls.specs.DetailLines.{all_changes, all_changes_at, lines_at, lines_changed, state_lines}
use Rattle.ob_object_calls.specs.DetailedRun.{IsEnd, Tells, TellsCalls}
use Rattle.ob_object_calls.proofs.Named.{replies_same}
use Rattle.ob_object_calls.proofs.Runs.{callers_in, calls_in}
use Rattle.ob_meaning.specs.ByPositionObject as Positions
use Rattle.ob_meaning.specs.ByPositionStore.{Activation, Held, Holds, Refers, value_held}
use Rattle.ob_text_record.specs.Named.{binding_line}
use Rattle.ob_text_record.specs.Variables.{variable_line}
use Rattle.ob_text_record.proofs.SameTexts.{same_state_text}
use Rattle.ob_text_words.specs.declared.script_call.ScriptCall as Declared
use Rattle.ob_text_words.specs.ScriptCalls.{object_call, script_call_of}
use Rattle.ob_mean.specs.Turns.{all_turns_at, all_turns_of, is_out_of_turns}
use Rattle.ob_mean.proofs.Counting.{first_same}
use Rattle.ob_typing.specs.Program.{Program, Variable}

-- ---- the lines of variables

-- a variable of the module has a value of its own, whatever activations there are
held_alone : (scopes other : Scopes) (v : Variable) (h : Names.Held) (g : Held) → SameHeld scopes 0 (as_parameter v) h g → SameHeld other 0 (as_parameter v) h g
held_alone scopes other v (Names.Holds a) (Holds b) same = same
held_alone scopes other v (Names.Holds a) (Refers b) same = same
held_alone scopes other v (Names.Refers a) (Holds b) same = same
held_alone scopes other v (Names.Refers a) (Refers b) same = absurd (false≢true same.0)

-- its line is that of a program which has this variable alone
line_same : (program : Program) (scopes : Scopes) (v : Variable) (b : Names.Binding) (g : Held) → b.name ≡ v.name → SameHeld scopes 0 (as_parameter v) b.held g →
    variable_line v (value_held g) ≡ binding_line b
line_same program scopes v b g name held =
    let one : Program = record program { variables = v ∷ [] } in
    let same : SameState one (b ∷ []) (g ∷ []) = ((name, tt), (held_alone scopes (module_scope one ∷ []) v b.held g held, tt)) in
    sym (append-nil (variable_line v (value_held g))) ∙ same_state_text one (b ∷ []) (g ∷ []) same ∙ append-nil (binding_line b)

lines_same_by : (program : Program) (scopes : Scopes) (variables : List Variable) (state : State) (activation : Activation) →
    SameActivation scopes 0 (map as_parameter variables) state activation → lines_at variables activation ≡ state_lines state
lines_same_by program scopes [] [] [] h = refl
lines_same_by program scopes [] [] (g ∷ activation) h = absurd h
lines_same_by program scopes [] (b ∷ state) activation h = absurd h
lines_same_by program scopes (v ∷ variables) [] activation h = absurd h
lines_same_by program scopes (v ∷ variables) (b ∷ state) [] h = absurd h
lines_same_by program scopes (v ∷ variables) (b ∷ state) (g ∷ activation) h =
    ap₂ (λ l ls. l ∷ ls) (line_same program scopes v b g h.0.0 h.1.0) (lines_same_by program scopes variables state activation h.1.1)

lines_same : (program : Program) (state : State) (activation : Activation) → SameState program state activation → lines_at program.variables activation ≡ state_lines state
lines_same program state activation h = lines_same_by program (module_scope program ∷ []) program.variables state activation h

-- ---- the turns and the changes of calls

module _ (program : Program) (good : IsResolved program) {A : Type 0} (asked : A → ObjectCall) (budget : ℕ) where
  abbrev Fits : A → Type 0
  Fits c = CallFits (signatures program) (asked c)

  turns_same : (calls : List A) → All Fits calls → (state : State) (activation : Activation) → SameState program state activation →
      all_turns_of program budget state (map asked calls) ≡ all_turns_at program budget activation (map asked calls)
  turns_same [] fit state activation h = refl
  turns_same (c ∷ calls) fit state activation h =
      let fits = All-head Fits c calls fit in
      let one = call_same program good (asked c) fits budget state activation h in
      ap₂ (λ t ts. t ∷ ts)
      (first_same (λ n. not (is_out_of_turns (Named.effect program (asked c) n state).reply)) (λ n. not (is_out_of_turns (Positions.effect program (asked c) n activation).reply))
      (λ n. ap (λ r. not (is_out_of_turns r)) (call_same program good (asked c) fits n state activation h).reply) 0 budget)
      (turns_same calls (All-tail Fits c calls fit) (Named.effect program (asked c) budget state).state (Positions.effect program (asked c) budget activation).state one.state)

  changes_same : (calls : List A) → All Fits calls → (state : State) (activation : Activation) → SameState program state activation →
      all_changes program budget state (map asked calls) ≡ all_changes_at program budget activation (map asked calls)
  changes_same [] fit state activation h = refl
  changes_same (c ∷ calls) fit state activation h =
      let one = call_same program good (asked c) (All-head Fits c calls fit) budget state activation h in
      let next = (Named.effect program (asked c) budget state).state in
      let found = (Positions.effect program (asked c) budget activation).state in
      ap₂ (λ t ts. t ∷ ts)
      (ap₂ lines_changed (sym (lines_same program state activation h)) (sym (lines_same program next found one.state)))
      (changes_same calls (All-tail Fits c calls fit) next found one.state)

-- ---- what is told

end_same : (turns : Bool) (f g : ℕ → List Reply) → ((b : ℕ) → g b ≡ f b) → (budget : ℕ) (text : List ℕ) → IsEnd turns f budget text → IsEnd turns g budget text
end_same false f g same budget text h = h
end_same true f g same budget text h =
    let least = h.0 in
    let is = h.1.0 in (
      least,
      (
        record {
          same = same least ∙ is.same ∙ sym (same budget);
          others = λ fewer less e. is.others fewer less (sym (same fewer) ∙ e ∙ same budget);
        },
        h.1.1,
      ),
    )

tells_same : (d : Details) (f g : ℕ → List Reply) → ((b : ℕ) → g b ≡ f b) → (budget : ℕ) (turns turns' : List ℕ) → turns' ≡ turns → (cs cs' : List (List ℕ)) → cs' ≡ cs →
    (processes output : List ℕ) → Tells d f budget turns cs processes output → Tells d g budget turns' cs' processes output
tells_same d f g same budget turns turns' t cs cs' c processes output h =
    record { last = h.last; ends = end_same d.turns f g same budget h.last h.ends; prints = rw (t, c, same budget) h.prints }

-- calls of a script as they were read
pub tells : (d : Details) (program : Program) (good : IsResolved program) (budget : ℕ) (state : State) (activation : Activation) → SameState program state activation →
    (xs : List Declared.ScriptCall) → All (λ c. CallFits (signatures program) (object_call (script_call_of c))) xs → (output : List ℕ) →
    Tells d (λ b. Sequences.replies_to program b activation (map (λ c. object_call (script_call_of c)) xs)) budget
    (all_turns_at program budget activation (map (λ c. object_call (script_call_of c)) xs))
    (all_changes_at program budget activation (map (λ c. object_call (script_call_of c)) xs)) (map (λ c. c.process) xs) output →
    TellsCalls d program budget state (map script_call_of xs) output
tells d program good budget state activation same xs fit output h =
    let asked : Declared.ScriptCall → ObjectCall = λ c. object_call (script_call_of c) in
    rw (callers_in, calls_in)
    (tells_same d (λ b. Sequences.replies_to program b activation (map asked xs)) (λ b. Named.replies_to program b state (map asked xs))
    (λ b. replies_same program good asked b xs fit state activation same) budget _ _ (turns_same program good asked budget xs fit state activation same)
    _ _ (changes_same program good asked budget xs fit state activation same) (map (λ c. c.process) xs) output h)
