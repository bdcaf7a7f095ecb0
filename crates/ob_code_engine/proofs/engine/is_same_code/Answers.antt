use Rattle.std.proofs.Common.{◌≡◌, ◌∙◌, ap, sym, ℕ, List, nat_eq}
use Rattle.std.proofs.lemmas.Bool.Decides.{Decides-eqb}
use Rattle.std.proofs.lemmas.Slice.Eq.{slice_eq-Decides}
use Rattle.ob_code_machine.specs.Code.{CodeParts}
use Rattle.ob_code_words.specs.declared.instr.Instr.{Instr}
use Rattle.ob_code_engine.proofs.Instructions.{instr_eq, instr_decides}
use Rattle.ob_code_engine.proofs.engine.is_same_code.Goals as goal

abbrev code_with : List Instr → List ℕ → CodeParts
code_with instructions entries = record { instructions = instructions; entries = entries }

pub returns-then-eq : goal.returns-then-eq
returns-then-eq c =
    let first = slice_eq-Decides {E = instr_eq} instr_decides c.instructions.result.now c.instructions-2.result.now c.eq.result c.eq.ensures in
    let second = slice_eq-Decides {E = nat_eq} Decides-eqb c.entries.result.now c.entries-then-eq.result.now c.eq-then-eq.result c.eq-then-eq.ensures in
    let instructions : c.args.code.now.instructions ≡ c.args.other.now.instructions = sym c.instructions.ensures.value ∙ first.0 c.if-eq.true ∙ c.instructions-2.ensures.value in (
      (λ t.
          let entries : c.args.code.now.entries ≡ c.args.other.now.entries = sym c.entries.ensures ∙ second.0 t ∙ c.entries-then-eq.ensures in
          ap (λ (is : List Instr). code_with is c.args.code.now.entries) instructions ∙ ap (code_with c.args.other.now.instructions) entries),
      (λ same. second.1 (c.entries.ensures ∙ ap (λ (p : CodeParts). p.entries) same ∙ sym c.entries-then-eq.ensures)),
    )

pub returns-else-eq : goal.returns-else-eq
returns-else-eq c =
    let first = slice_eq-Decides {E = instr_eq} instr_decides c.instructions.result.now c.instructions-2.result.now c.eq.result c.eq.ensures in (
      (λ t. absurd (let never = sym c.if-eq.false ∙ t in cc)),
      (λ same. first.1 (c.instructions.ensures.value ∙ ap (λ (p : CodeParts). p.instructions) same ∙ sym c.instructions-2.ensures.value)),
    )
