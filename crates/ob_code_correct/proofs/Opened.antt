-- What stands where in the code of a statement.
use Rattle.std.proofs.Common.{◌≡◌, ℕ, suc, ◌+◌, ◌≤◌, List, [], ◌∷◌, ◌++◌, length, Some, refl, subst, length-append, arith}
use Rattle.std.specs.Prelude.{slice_get}
use Rattle.ob_typing.specs.Program.{Expression, Actual, Call, While, Repeat, Statements, Branches, no_branch, otherwise, branch, Procedure}
use Rattle.ob_code_scheme.specs.Types.{Scope, frame_scope}
use Rattle.ob_code_scheme.specs.Layout.{variable_words}
use Rattle.ob_code_words.specs.declared.instr.Instr.{Instr}
use Rattle.ob_code_words.specs.declared.instr.Instr.TheVariants as Instrs
use Rattle.ob_code_scheme.specs.Scheme.{size, over_size, actuals_size, statements_size, branches_size, code_at, over_code, actuals_at, statement_at, statements_at, branches_at, procedure_at, HasAt}
use Rattle.ob_code_correct.proofs.StatementsOwed.{Owed}

module _ (owed : Owed) (code : List Instr) (globals own : Scope) (entry : ℕ → ℕ) where
  -- a call: the actuals, CALL
  pub record CallStands (a : ℕ) (number : ℕ) (actuals : List Actual) : Type 0 where
    pub actuals_stand : HasAt code a (actuals_at globals own a actuals)
    pub call_stands : slice_get code (a + actuals_size own actuals) ≡ Some (Instrs.Call (entry number) (length actuals))

  pub call_opened : (a number : ℕ) (actuals : List Actual) → HasAt code a (statement_at globals own entry a (Call number actuals)) → CallStands a number actuals
  call_opened a number actuals has =
      let first = actuals_at globals own a actuals in
      let last = Instrs.Call (entry number) (length actuals) ∷ [] in
      record {
        actuals_stand = owed.has_front code a first last has;
        call_stands = (owed.has_back code a (actuals_size own actuals) first last (owed.code_lengths.actuals globals own a actuals) has).0;
      }

  -- WHILE
  pub record WhileStands (a : ℕ) (c : Expression) (body : Statements) : Type 0 where
    pub condition_stands : HasAt code a (code_at globals own a c)
    pub jump_stands : slice_get code (a + size own c) ≡ Some (Instrs.JumpIfFalse (a + size own c + 2 + statements_size own body + 1))
    pub turn_stands : slice_get code (a + size own c + 1) ≡ Some Instrs.Turn
    pub body_stands : HasAt code (a + size own c + 2) (statements_at globals own entry (a + size own c + 2) body)
    pub back_stands : slice_get code (a + size own c + 2 + statements_size own body) ≡ Some (Instrs.Jump a)
    pub long : size own c + 2 + statements_size own body + 1 ≤ length code

  pub while_opened : (a : ℕ) (c : Expression) (body : Statements) → HasAt code a (statement_at globals own entry a (While c body)) → WhileStands a c body
  while_opened a c body has =
      let m = a + size own c in
      let first = code_at globals own a c in
      let inside = statements_at globals own entry (m + 2) body in
      let last = inside ++ Instrs.Jump a ∷ [] in
      let more = Instrs.Turn ∷ last in
      let jump = Instrs.JumpIfFalse (m + 2 + statements_size own body + 1) in
      let back = owed.has_back code a (size own c) first (jump ∷ more) (owed.code_lengths.expression globals own a c) has in
      let count : length inside ≡ statements_size own body = owed.code_lengths.statements globals own entry (m + 2) body in
      let whole : length last ≡ length inside + 1 = length-append inside (Instrs.Jump a ∷ []) in
      let within : m + suc (suc (length last)) ≤ length code = owed.has_within code m jump more back in
      let two : m + 1 + 1 ≡ m + 2 = omega arith in
      let body_and_jump : HasAt code (m + 2) last = subst (λ (n : ℕ). HasAt code n last) two back.1.1 in
      record {
        condition_stands = owed.has_front code a first (jump ∷ more) has;
        jump_stands = back.0;
        turn_stands = back.1.0;
        body_stands = owed.has_front code (m + 2) inside (Instrs.Jump a ∷ []) body_and_jump;
        back_stands = (owed.has_back code (m + 2) (statements_size own body) inside (Instrs.Jump a ∷ []) count body_and_jump).0;
        long = omega (arith, count, whole, within);
      }

  -- REPEAT
  pub record RepeatStands (a : ℕ) (body : Statements) (c : Expression) : Type 0 where
    pub turn_stands : slice_get code a ≡ Some Instrs.Turn
    pub body_stands : HasAt code (a + 1) (statements_at globals own entry (a + 1) body)
    pub condition_stands : HasAt code (a + 1 + statements_size own body) (code_at globals own (a + 1 + statements_size own body) c)
    pub jump_stands : slice_get code (a + 1 + statements_size own body + size own c) ≡ Some (Instrs.JumpIfFalse a)
    pub long : 1 + statements_size own body + size own c + 1 ≤ length code

  pub repeat_opened : (a : ℕ) (body : Statements) (c : Expression) → HasAt code a (statement_at globals own entry a (Repeat body c)) → RepeatStands a body c
  repeat_opened a body c has =
      let inside = statements_at globals own entry (a + 1) body in
      let p = a + 1 + statements_size own body in
      let test = code_at globals own p c in
      let jump = Instrs.JumpIfFalse a ∷ [] in
      let count : length inside ≡ statements_size own body = owed.code_lengths.statements globals own entry (a + 1) body in
      let count_test : length test ≡ size own c = owed.code_lengths.expression globals own p c in
      let back = owed.has_back code (a + 1) (statements_size own body) inside (test ++ jump) count has.1 in
      let whole : length (inside ++ (test ++ jump)) ≡ length inside + length (test ++ jump) = length-append inside (test ++ jump) in
      let whole_test : length (test ++ jump) ≡ length test + 1 = length-append test jump in
      let within : a + suc (length (inside ++ (test ++ jump))) ≤ length code = owed.has_within code a Instrs.Turn (inside ++ (test ++ jump)) has in
      record {
        turn_stands = has.0;
        body_stands = owed.has_front code (a + 1) inside (test ++ jump) has.1;
        condition_stands = owed.has_front code p test jump back;
        jump_stands = (owed.has_back code p (size own c) test jump count_test back).0;
        long = omega (arith, count, count_test, whole, whole_test, within);
      }

  -- an alternative of an IF
  over_length : (rest : Branches) (end : ℕ) → length (over_code rest end) ≡ over_size rest
  over_length no_branch end = refl
  over_length (otherwise ss) end = refl
  over_length (branch c ss rest) end = refl

  abbrev pub alternative : ℕ → Expression → ℕ
  alternative a c = a + size own c + 1

  abbrev pub next : ℕ → Expression → Statements → Branches → ℕ
  next a c ss rest = alternative a c + statements_size own ss + over_size rest

  pub record BranchStands (a : ℕ) (c : Expression) (ss : Statements) (rest : Branches) : Type 0 where
    pub condition_stands : HasAt code a (code_at globals own a c)
    pub jump_stands : slice_get code (a + size own c) ≡ Some (Instrs.JumpIfFalse (next a c ss rest))
    pub statements_stand : HasAt code (alternative a c) (statements_at globals own entry (alternative a c) ss)
    pub over_stands : HasAt code (alternative a c + statements_size own ss) (over_code rest (next a c ss rest + branches_size own rest))
    pub rest_stands : HasAt code (next a c ss rest) (branches_at globals own entry (next a c ss rest) rest)

  pub branch_opened : (a : ℕ) (c : Expression) (ss : Statements) (rest : Branches) → HasAt code a (branches_at globals own entry a (branch c ss rest)) → BranchStands a c ss rest
  branch_opened a c ss rest has =
      let m = alternative a c in
      let after = next a c ss rest in
      let first = code_at globals own a c in
      let inside = statements_at globals own entry m ss in
      let over = over_code rest (after + branches_size own rest) in
      let others = branches_at globals own entry after rest in
      let jump = Instrs.JumpIfFalse after in
      let back = owed.has_back code a (size own c) first (jump ∷ (inside ++ (over ++ others))) (owed.code_lengths.expression globals own a c) has in
      let behind = owed.has_back code m (statements_size own ss) inside (over ++ others) (owed.code_lengths.statements globals own entry m ss) back.1 in
      record {
        condition_stands = owed.has_front code a first (jump ∷ (inside ++ (over ++ others))) has;
        jump_stands = back.0;
        statements_stand = owed.has_front code m inside (over ++ others) back.1;
        over_stands = owed.has_front code (m + statements_size own ss) over others behind;
        rest_stands = owed.has_back code (m + statements_size own ss) (over_size rest) over others (over_length rest (after + branches_size own rest)) behind;
      }

-- a procedure: FRAME, the statements, RET
module _ (owed : Owed) (code : List Instr) (globals : Scope) (entry : ℕ → ℕ) where
  pub record ProcedureStands (a : ℕ) (p : Procedure) : Type 0 where
    pub frame_stands : slice_get code a ≡ Some (Instrs.Frame (variable_words p.variables))
    pub body_stands : HasAt code (a + 1) (statements_at globals (frame_scope p) entry (a + 1) p.body)
    pub return_stands : slice_get code (a + 1 + statements_size (frame_scope p) p.body) ≡ Some Instrs.Return
    pub long : 1 + statements_size (frame_scope p) p.body + 1 ≤ length code

  pub procedure_opened : (a : ℕ) (p : Procedure) → HasAt code a (procedure_at globals entry a p) → ProcedureStands a p
  procedure_opened a p has =
      let inside = statements_at globals (frame_scope p) entry (a + 1) p.body in
      let last = Instrs.Return ∷ [] in
      let count : length inside ≡ statements_size (frame_scope p) p.body = owed.code_lengths.statements globals (frame_scope p) entry (a + 1) p.body in
      let whole : length (inside ++ last) ≡ length inside + 1 = length-append inside last in
      let within : a + suc (length (inside ++ last)) ≤ length code = owed.has_within code a (Instrs.Frame (variable_words p.variables)) (inside ++ last) has in
      record {
        frame_stands = has.0;
        body_stands = owed.has_front code (a + 1) inside last has.1;
        return_stands = (owed.has_back code (a + 1) (statements_size (frame_scope p) p.body) inside last count has.1).0;
        long = omega (arith, count, whole, within);
      }
