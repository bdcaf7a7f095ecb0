-- A run that goes on from the state of another one.
use Rattle.std.proofs.Common.{◌≡◌, ◌∙◌, ℕ, List, true, false, inl, inr, ap, sym, subst}
use Rattle.std.proofs.Math.Logic.{∥∥₁_elim, ∥∥₁_map, ∥∥₁_prop}
use Rattle.ob_meaning.specs.Same.{SameState}
use Rattle.ob_carry.proofs.Carried.{one_state}
use Rattle.ob_carry.specs.Carried.{Entry, carried}
use Rattle.ob_carry.specs.NamedValues.{CarryBack}
use Rattle.ob_meaning.specs.ByNameObject.{State}
use Rattle.ob_object_compile.specs.Compilation.{IsShort}
use Rattle.ob_object_perform.specs.Performance.{IsPerformance, IsRefusal}
use Rattle.ob_object_perform.specs.Texts.{Texts}
use Rattle.ob_object_perform.specs.declared.performing.PerformFault.{PerformFault}
use Rattle.ob_object_perform.specs.declared.performing.PerformFault.TheVariants as Faults
use Rattle.ob_text_record.specs.Record.{Record}
use Rattle.ob_object_run.specs.Recorded.{IsMeantOrder}
use Rattle.ob_object_twice.proofs.Chained.{meant_twice}
use Rattle.ob_object_twice.specs.Twice.{AreMeantInTurn, GoesOn, IsRefusedTwice, Turn, first_texts, second_texts}
use Rattle.ob_typing.specs.ModuleText.{IsModule}
use Rattle.ob_typing.specs.Program.{Program}

-- want of memory is a fault of any texts
no_memory : (t : Texts) → IsRefusal IsShort t Faults.NoMemory
no_memory t = record {
  says = tt;
  none = λ numbered. (let bad : true ≡ false = numbered.0 in absurd cc);
  unread = λ bad. absurd bad;
  memory = tt;
}

module _ (text : List ℕ) (budget : ℕ) (first second : Turn) where
  pub first_refused : (fault : PerformFault) → IsRefusal IsShort (first_texts text budget first) fault → IsRefusedTwice text budget first second fault
  first_refused fault h = inl h

  pub memory_refused : (fault : PerformFault) → fault ≡ Faults.NoMemory → IsRefusedTwice text budget first second fault
  memory_refused fault is = subst (λ f. IsRefusedTwice text budget first second f) (sym is) (inl (no_memory (first_texts text budget first)))

  -- of the module's program, and of a first record
  module _ (program : Program) (alone : (other : Program) → IsModule text other → other ≡ program) (before : Record) (values : List Entry)
      (back : CarryBack program values before.state) where
    module _ (p : IsPerformance (first_texts text budget first) before) where
      back_here : CarryBack p.object.program values before.state
      back_here = subst (λ (q : Program). CarryBack q values before.state) (sym (alone p.object.program p.compiled.is_module)) back

      pub second_refused : (fault : PerformFault) → IsRefusal IsShort (second_texts text budget second values) fault → IsRefusedTwice text budget first second fault
      second_refused fault h = inr (record { before = before; performs = p; values = values; carried = back_here; refused = h })

      module _ (after : Record) (q : IsPerformance (second_texts text budget second values) after) where
        same_program : q.object.program ≡ p.object.program
        same_program = alone q.object.program q.compiled.is_module ∙ sym (alone p.object.program p.compiled.is_module)

        -- the state that the first order leads to is the one that the second begins with
        begun_with : (m : IsMeantOrder p.object.program budget p.compiled.opens.state before) → m.last ≡ q.compiled.opens.state
        begun_with m =
            (back_here m.last m.same).is ∙ ap (λ (x : Program). carried x values) (sym same_program) ∙ sym q.compiled.opens.opens.is

        begins : ∥ q.object.opening ≡ before.state ∥₁
        begins =
            ∥∥₁_map p.legal (λ m.
            one_state p.object.program q.compiled.opens.state q.object.opening before.state
            (subst (λ (x : Program). SameState x q.compiled.opens.state q.object.opening) same_program q.compiled.opens.same)
            (subst (λ (s : State). SameState p.object.program s before.state) (begun_with m) m.same))

        pub goes_on : GoesOn text budget second before after
        goes_on = record { values = values; performs = q; begins = begins }

    pub meant_in_turn : (after : Record) → IsPerformance (second_texts text budget second values) after → AreMeantInTurn (first_texts text budget first) before after
    meant_in_turn after q p =
        ∥∥₁_elim p.legal ∥∥₁_prop (λ m.
        ∥∥₁_map
        (subst (λ (x : Program). ∥ IsMeantOrder x budget q.compiled.opens.state after ∥₁) (same_program p after q) q.legal)
        (λ n. meant_twice p.object.program budget p.compiled.opens.state q.compiled.opens.state before after m n (begun_with p after q m)))
