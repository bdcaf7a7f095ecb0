-- Within the limits: the parts of statements and procedures, where the whole is.
use Rattle.std.proofs.Common.{◌≡◌, ℕ, ◌+◌, ◌<◌, ◌≤◌, Bool, true, false, List, [], ◌∷◌, ◌++◌, length, map, drop, get_or, refl, ap, sym, ◌∙◌, arith}
use Rattle.ob_typing.specs.Program as Program
use Rattle.ob_code_scheme.specs.Types.{Scope, extent, frame_scope, scope_at}
use Rattle.ob_code_scheme.specs.Scheme.{size, statements_size, code_at, actuals_at, statements_at, branches_at, procedures_at}
use Rattle.ob_code_correct.proofs.Lengths.{code_long, statements_long}
use Rattle.ob_code_machine.specs.Code.{CodeParts}
use Rattle.ob_code_words.specs.declared.instr.Instr.{Instr}
use Rattle.ob_code_words.specs.declared.instr.Instr.TheVariants as Instrs
use Rattle.ob_checked.specs.Types as Given
use Rattle.ob_checked.specs.declared.program.Actual.{Actual}
use Rattle.ob_checked.specs.declared.program.Branch.{Branch}
use Rattle.ob_checked.specs.declared.program.Designator.{Designator}
use Rattle.ob_checked.specs.declared.program.Expression.{Expression}
use Rattle.ob_checked.specs.declared.program.Procedure.{Procedure}
use Rattle.ob_checked.specs.declared.program.Statement.{Statement}
use Rattle.ob_checked.specs.View.{expression_of, designator_of, actual_of, statement_of, statements_in, procedure_of}
use Rattle.ob_code.specs.Entering.{with_entry, with_procedure}
use Rattle.ob_code.specs.Growing.{grown, is_more, over, over_many}
use Rattle.ob_code_scheme.specs.Operands.{HasSmallOperands}
use Rattle.ob_code.specs.Limits.{IsWithinLimits}
use Rattle.ob_code.proofs.Grown.{behind}
use Rattle.ob_code.proofs.Values.{with_value, with_designator}
use Rattle.ob_code.proofs.Constructs.{with_actual, with_actuals, with_assignment, with_statement, with_statements, with_branches, with_alternative, actuals_go, assignment_put, call_put, statements_go, repeat_put, branches_within}
use Rattle.ob_code.proofs.Procedures.{left_of, with_procedures, procedure_put, procedures_go}
use Rattle.ob_code.proofs.Within.{within, begins, before, room, small_operands, other}

-- there is room for a jump over what follows
pub over_room : (c : CodeParts) (more : Bool) → more ≡ true → IsWithinLimits (grown c (over more 0)) → length c.instructions < 65535
over_room c more is w = room c (Instrs.Jump 0) [] (grown c (over more 0)) (ap (λ m. grown c (over m 0)) (sym is)) w

module _ (g o : Scope) where
  pub actuals_next : (c e : CodeParts) (xs : List Actual) (i : ℕ) (x : Actual) → i < length xs → x ≡ get_or xs i x →
      with_actuals g o c (drop i xs) ≡ e → IsWithinLimits e → IsWithinLimits (with_actual g o c x)
  actuals_next c e xs i x here is so_far w =
      let d = with_actual g o c x in
      before d (actuals_at g o (length d.instructions) (map actual_of (drop (i + 1) xs))) e (actuals_go g o c d e xs i x here is refl so_far) w

  module _ (c : CodeParts) (target : Designator) (x : Expression) (w : IsWithinLimits (with_assignment g o c target x)) where
    pub assignment_last : (d e : CodeParts) → d ≡ with_designator g o c target → e ≡ with_value g o d x → length e.instructions < 65535
    assignment_last d e put more = room e Instrs.Put [] (with_assignment g o c target x) (assignment_put g o c d e (grown e (Instrs.Put ∷ [])) target x put more refl) w

    pub assignment_value : (d : CodeParts) → d ≡ with_designator g o c target → IsWithinLimits (with_value g o d x)
    assignment_value d put =
        let e = with_value g o d x in
        before e (Instrs.Put ∷ []) (with_assignment g o c target x) (assignment_put g o c d e (grown e (Instrs.Put ∷ [])) target x put refl refl) w

    pub assignment_target : IsWithinLimits (with_designator g o c target)
    assignment_target =
        let d = with_designator g o c target in
        before d (code_at g o (length d.instructions) (expression_of x)) (with_value g o d x) refl (assignment_value d refl)

  module _ (entry : ℕ → ℕ) where
    module _ (c : CodeParts) (xs : List Actual) (procedure : ℕ) (w : IsWithinLimits (with_statement g o entry c (Program.Call procedure (map actual_of xs)))) where
      abbrev call_whole : CodeParts
      call_whole = with_statement g o entry c (Program.Call procedure (map actual_of xs))

      abbrev call : Instr
      call = Instrs.Call (entry procedure) (length xs)

      called : (d : CodeParts) → d ≡ with_actuals g o c xs → grown d (call ∷ []) ≡ call_whole
      called d put = call_put g o entry c d (grown d (call ∷ [])) xs procedure (entry procedure) (length xs) refl refl put refl

      pub call_actuals : IsWithinLimits (with_actuals g o c xs)
      call_actuals = before (with_actuals g o c xs) (call ∷ []) call_whole (called (with_actuals g o c xs) refl) w

      pub call_last : (d : CodeParts) → d ≡ with_actuals g o c xs → length d.instructions < 65535
      call_last d put = room d call [] call_whole (called d put) w

      pub call_operands : HasSmallOperands call
      call_operands =
          let d = with_actuals g o c xs in
          small_operands d [] call [] (within (grown d (call ∷ [])) call_whole (called d refl) w)

    pub statements_next : (c e : CodeParts) (xs : List Statement) (i : ℕ) (x : Statement) → i < length xs → x ≡ get_or xs i x →
        with_statements g o entry c (drop i xs) ≡ e → IsWithinLimits e → IsWithinLimits (with_statement g o entry c (statement_of x))
    statements_next c e xs i x here is so_far w =
        let d = with_statement g o entry c (statement_of x) in
        before d (statements_at g o entry (length d.instructions) (statements_in (drop (i + 1) xs))) e (statements_go g o entry c d e xs i x here is refl so_far) w

    -- ---- WHILE: JF, whose target is not known yet, TURN, the statements, JMP

    module _ (c : CodeParts) (x : Expression) (body : List Statement) (w : IsWithinLimits (with_statement g o entry c (Program.While (expression_of x) (statements_in body)))) where
      abbrev start : ℕ
      start = length c.instructions

      abbrev rounds : ℕ → List Instr
      rounds b = Instrs.Turn ∷ (statements_at g o entry b (statements_in body) ++ Instrs.Jump start ∷ [])

      abbrev while_whole : CodeParts
      while_whole = grown c (code_at g o start (expression_of x) ++ Instrs.JumpIfFalse 0 ∷ rounds (start + size o (expression_of x) + 2))

      while_begun : IsWithinLimits while_whole
      while_begun =
          let m = start + size o (expression_of x) in
          other c (code_at g o start (expression_of x)) (Instrs.JumpIfFalse (m + 2 + statements_size o (statements_in body) + 1)) (Instrs.JumpIfFalse 0) (rounds (m + 2)) (omega arith) w

      while_code : (d e f k : CodeParts) → d ≡ with_value g o c x → e ≡ grown d (Instrs.JumpIfFalse 0 ∷ []) → f ≡ grown e (Instrs.Turn ∷ []) → k ≡ with_statements g o entry f body →
          grown k (Instrs.Jump start ∷ []) ≡ while_whole
      while_code d e f k put jump turn inside =
          let m = grown k (Instrs.Jump start ∷ []) in
          let S : ℕ → List Instr = λ b. statements_at g o entry b (statements_in body) in
          let inner = behind f k m (S (length f.instructions)) (λ b. Instrs.Jump start ∷ []) (statements_size o (statements_in body)) inside
          (statements_long g o entry (length f.instructions) (statements_in body)) refl in
          let while_turned = behind e f m (Instrs.Turn ∷ []) (λ b. S b ++ Instrs.Jump start ∷ []) 1 turn refl inner in
          let while_jumped = behind d e m (Instrs.JumpIfFalse 0 ∷ []) (λ b. rounds (b + 1)) 1 jump refl while_turned in
          behind c d m (code_at g o start (expression_of x)) (λ b. Instrs.JumpIfFalse 0 ∷ rounds (b + 1 + 1)) (size o (expression_of x)) put (code_long g o start (expression_of x)) while_jumped
          ∙ ap (λ b. grown c (code_at g o start (expression_of x) ++ Instrs.JumpIfFalse 0 ∷ rounds b)) (two (start + size o (expression_of x)))
        where
          two : (b : ℕ) → b + 1 + 1 ≡ b + 2
          two b = omega arith

      pub while_last : (d e f k : CodeParts) → d ≡ with_value g o c x → e ≡ grown d (Instrs.JumpIfFalse 0 ∷ []) → f ≡ grown e (Instrs.Turn ∷ []) → k ≡ with_statements g o entry f body →
          length k.instructions < 65535
      while_last d e f k put jump turn inside = room k (Instrs.Jump start) [] while_whole (while_code d e f k put jump turn inside) while_begun

      pub while_body : (d e f : CodeParts) → d ≡ with_value g o c x → e ≡ grown d (Instrs.JumpIfFalse 0 ∷ []) → f ≡ grown e (Instrs.Turn ∷ []) → IsWithinLimits (with_statements g o entry f body)
      while_body d e f put jump turn =
          let k = with_statements g o entry f body in
          before k (Instrs.Jump start ∷ []) while_whole (while_code d e f k put jump turn refl) while_begun

      while_turned : (d e : CodeParts) → d ≡ with_value g o c x → e ≡ grown d (Instrs.JumpIfFalse 0 ∷ []) → IsWithinLimits (grown e (Instrs.Turn ∷ []))
      while_turned d e put jump =
          let f = grown e (Instrs.Turn ∷ []) in
          before f (statements_at g o entry (length f.instructions) (statements_in body)) (with_statements g o entry f body) refl (while_body d e f put jump refl)

      pub while_turn : (d e : CodeParts) → d ≡ with_value g o c x → e ≡ grown d (Instrs.JumpIfFalse 0 ∷ []) → length e.instructions < 65535
      while_turn d e put jump = room e Instrs.Turn [] (grown e (Instrs.Turn ∷ [])) refl (while_turned d e put jump)

      while_jumped : (d : CodeParts) → d ≡ with_value g o c x → IsWithinLimits (grown d (Instrs.JumpIfFalse 0 ∷ []))
      while_jumped d put =
          let e = grown d (Instrs.JumpIfFalse 0 ∷ []) in
          before e (Instrs.Turn ∷ []) (grown e (Instrs.Turn ∷ [])) refl (while_turned d e put refl)

      pub while_jump : (d : CodeParts) → d ≡ with_value g o c x → length d.instructions < 65535
      while_jump d put = room d (Instrs.JumpIfFalse 0) [] (grown d (Instrs.JumpIfFalse 0 ∷ [])) refl (while_jumped d put)

      pub while_condition : IsWithinLimits (with_value g o c x)
      while_condition =
          let d = with_value g o c x in
          before d (Instrs.JumpIfFalse 0 ∷ []) (grown d (Instrs.JumpIfFalse 0 ∷ [])) refl (while_jumped d refl)

    -- ---- REPEAT: TURN, the statements, the condition, JF

    module _ (c : CodeParts) (x : Expression) (body : List Statement) (w : IsWithinLimits (with_statement g o entry c (Program.Repeat (statements_in body) (expression_of x)))) where
      abbrev repeat_whole : CodeParts
      repeat_whole = with_statement g o entry c (Program.Repeat (statements_in body) (expression_of x))

      abbrev back : Instr
      back = Instrs.JumpIfFalse (length c.instructions)

      repeat_code : (d e f : CodeParts) → d ≡ grown c (Instrs.Turn ∷ []) → e ≡ with_statements g o entry d body → f ≡ with_value g o e x → grown f (back ∷ []) ≡ repeat_whole
      repeat_code d e f turn inside put = repeat_put g o entry c d e f (grown f (back ∷ [])) x body (length c.instructions) refl turn inside put refl

      pub repeat_last : (d e f : CodeParts) → d ≡ grown c (Instrs.Turn ∷ []) → e ≡ with_statements g o entry d body → f ≡ with_value g o e x → length f.instructions < 65535
      repeat_last d e f turn inside put = room f back [] repeat_whole (repeat_code d e f turn inside put) w

      pub repeat_condition : (d e : CodeParts) → d ≡ grown c (Instrs.Turn ∷ []) → e ≡ with_statements g o entry d body → IsWithinLimits (with_value g o e x)
      repeat_condition d e turn inside =
          let f = with_value g o e x in
          before f (back ∷ []) repeat_whole (repeat_code d e f turn inside refl) w

      pub repeat_body : (d : CodeParts) → d ≡ grown c (Instrs.Turn ∷ []) → IsWithinLimits (with_statements g o entry d body)
      repeat_body d turn =
          let e = with_statements g o entry d body in
          before e (code_at g o (length e.instructions) (expression_of x)) (with_value g o e x) refl (repeat_condition d e turn refl)

      pub repeat_turn : length c.instructions < 65535
      repeat_turn =
          let d = grown c (Instrs.Turn ∷ []) in
          room c Instrs.Turn [] d refl (before d (statements_at g o entry (length d.instructions) (statements_in body)) (with_statements g o entry d body) refl (repeat_body d refl))

    -- ---- one alternative: the condition, JF, whose target is not known yet, the statements, the jump over what follows

    module _ (c : CodeParts) (b : Branch) (more : Bool) (w : IsWithinLimits (with_alternative g o entry c b more)) where
      abbrev branch_start : ℕ
      branch_start = length c.instructions

      abbrev tail : ℕ → List Instr
      tail n = statements_at g o entry n (statements_in b.body.items) ++ over more 0

      abbrev branch_whole : CodeParts
      branch_whole = grown c (code_at g o branch_start (expression_of b.condition) ++ Instrs.JumpIfFalse 0 ∷ tail (branch_start + size o (expression_of b.condition) + 1))

      branch_begun : IsWithinLimits branch_whole
      branch_begun =
          let m = branch_start + size o (expression_of b.condition) + 1 in
          other c (code_at g o branch_start (expression_of b.condition)) (Instrs.JumpIfFalse (m + statements_size o (statements_in b.body.items) + over_many more)) (Instrs.JumpIfFalse 0) (tail m) (omega arith) w

      branch_code : (d e f : CodeParts) → d ≡ with_value g o c b.condition → e ≡ grown d (Instrs.JumpIfFalse 0 ∷ []) → f ≡ with_statements g o entry e b.body.items → grown f (over more 0) ≡ branch_whole
      branch_code d e f put jump inside =
          let k = grown f (over more 0) in
          let inner = behind e f k (statements_at g o entry (length e.instructions) (statements_in b.body.items)) (λ n. over more 0) (statements_size o (statements_in b.body.items)) inside
          (statements_long g o entry (length e.instructions) (statements_in b.body.items)) refl in
          let branch_jumped = behind d e k (Instrs.JumpIfFalse 0 ∷ []) tail 1 jump refl inner in
          behind c d k (code_at g o branch_start (expression_of b.condition)) (λ n. Instrs.JumpIfFalse 0 ∷ tail (n + 1)) (size o (expression_of b.condition)) put
          (code_long g o branch_start (expression_of b.condition)) branch_jumped

      pub branch_over : (d e f : CodeParts) (body : List Statement) → d ≡ with_value g o c b.condition → e ≡ grown d (Instrs.JumpIfFalse 0 ∷ []) → body ≡ b.body.items → f ≡ with_statements g o entry e body →
          IsWithinLimits (grown f (over more 0))
      branch_over d e f body put jump items inside =
          within (grown f (over more 0)) branch_whole (branch_code d e f put jump (inside ∙ ap (λ xs. with_statements g o entry e xs) items)) branch_begun

      pub branch_body : (d e : CodeParts) (body : List Statement) → d ≡ with_value g o c b.condition → e ≡ grown d (Instrs.JumpIfFalse 0 ∷ []) → body ≡ b.body.items → IsWithinLimits (with_statements g o entry e body)
      branch_body d e body put jump items =
          let f = with_statements g o entry e body in
          before f (over more 0) (grown f (over more 0)) refl (branch_over d e f body put jump items refl)

      branch_jumped : (d : CodeParts) → d ≡ with_value g o c b.condition → IsWithinLimits (grown d (Instrs.JumpIfFalse 0 ∷ []))
      branch_jumped d put =
          let e = grown d (Instrs.JumpIfFalse 0 ∷ []) in
          let body = b.body.items in
          before e (statements_at g o entry (length e.instructions) (statements_in body)) (with_statements g o entry e body) refl (branch_body d e body put refl refl)

      pub branch_jump : (d : CodeParts) → d ≡ with_value g o c b.condition → length d.instructions < 65535
      branch_jump d put = room d (Instrs.JumpIfFalse 0) [] (grown d (Instrs.JumpIfFalse 0 ∷ [])) refl (branch_jumped d put)

      pub branch_condition : IsWithinLimits (with_value g o c b.condition)
      branch_condition =
          let d = with_value g o c b.condition in
          before d (Instrs.JumpIfFalse 0 ∷ []) (grown d (Instrs.JumpIfFalse 0 ∷ [])) refl (branch_jumped d refl)

    -- ---- alternatives

    module _ (c : CodeParts) (b : Branch) (rest : Program.Branches) (more : Bool) (is : more ≡ is_more rest)
        (w : IsWithinLimits (with_branches g o entry c (Program.branch (expression_of b.condition) (statements_in b.body.items) rest))) where
      pub branches_rest : (d : CodeParts) → d ≡ with_alternative g o entry c b more → IsWithinLimits (with_branches g o entry d rest)
      branches_rest d put = branches_within g o entry c d (with_branches g o entry d rest) b rest more is put refl w

      pub branches_first : IsWithinLimits (with_alternative g o entry c b more)
      branches_first =
          let d = with_alternative g o entry c b more in
          before d (branches_at g o entry (length d.instructions) rest) (with_branches g o entry d rest) refl (branches_rest d refl)

    -- ---- procedures: FRAME, the statements, RET

    module _ (c : CodeParts) (body ss : List Statement) (extents : ℕ) (items : ss ≡ body) (w : IsWithinLimits (with_procedure g o entry c extents (statements_in body))) where
      abbrev procedure_whole : CodeParts
      procedure_whole = with_procedure g o entry c extents (statements_in body)

      pub procedure_words : extents ≤ 65535
      procedure_words =
          small_operands (with_entry c) [] (Instrs.Frame extents) (statements_at g o entry (length c.instructions + 1) (statements_in body) ++ Instrs.Return ∷ []) w

      procedure_code : (d e f : CodeParts) (words : ℕ) → words ≡ extents → d ≡ with_entry c → e ≡ grown d (Instrs.Frame words ∷ []) → f ≡ with_statements g o entry e ss →
          grown f (Instrs.Return ∷ []) ≡ procedure_whole
      procedure_code d e f words many begun frame inside = procedure_put g o entry c d e f (grown f (Instrs.Return ∷ [])) body ss words extents many items begun frame inside refl

      pub procedure_last : (d e f : CodeParts) (words : ℕ) → words ≡ extents → d ≡ with_entry c → e ≡ grown d (Instrs.Frame words ∷ []) → f ≡ with_statements g o entry e ss →
          length f.instructions < 65535
      procedure_last d e f words many begun frame inside = room f Instrs.Return [] procedure_whole (procedure_code d e f words many begun frame inside) w

      pub procedure_body : (d e : CodeParts) (words : ℕ) → words ≡ extents → d ≡ with_entry c → e ≡ grown d (Instrs.Frame words ∷ []) → IsWithinLimits (with_statements g o entry e ss)
      procedure_body d e words many begun frame =
          let f = with_statements g o entry e ss in
          before f (Instrs.Return ∷ []) procedure_whole (procedure_code d e f words many begun frame refl) w

      pub procedure_frame : (d : CodeParts) → d ≡ with_entry c → length d.instructions < 65535
      procedure_frame d begun =
          let e = grown d (Instrs.Frame extents ∷ []) in
          room d (Instrs.Frame extents) [] e refl
          (before e (statements_at g o entry (length e.instructions) (statements_in ss)) (with_statements g o entry e ss) refl (procedure_body d e extents refl begun refl))

-- one procedure more
pub procedures_next : (types : List Given.Entry) (g : Scope) (entry : ℕ → ℕ) (c e : CodeParts) (frames : List Scope) (ps : List Procedure) (i : ℕ) (p : Procedure) →
    frames ≡ map frame_scope (left_of types ps) → i < length ps → p ≡ get_or ps i p → with_procedures types g entry c (drop i ps) ≡ e → IsWithinLimits e →
    IsWithinLimits (with_procedure g (scope_at frames i) entry c (extent (drop (length p.parameters.items) (scope_at frames i))) (statements_in p.body.items))
procedures_next types g entry c e frames ps i p are here is so_far w =
    let d = with_procedure g (scope_at frames i) entry c (extent (drop (length p.parameters.items) (scope_at frames i))) (statements_in p.body.items) in
    begins d e (procedures_at g entry (length d.instructions) (left_of types (drop (i + 1) ps)))
    (ap (λ (k : CodeParts). k.instructions) (procedures_go types g entry c d e frames ps i p are here is refl so_far)) w
