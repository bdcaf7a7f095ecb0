-- The code of statements, from that of their parts.
use Rattle.std.proofs.Common.{◌≡◌, ℕ, ◌+◌, ◌<◌, ◌≤◌, Bool, true, false, ◌==◌, List, [], ◌∷◌, ◌++◌, length, map, drop, get_or, slice_set, refl, ap, sym, ◌∙◌, append_assoc, arith}
use Rattle.std.proofs.lemmas.List.{at_drop_more, at_drop_all, length-map, length-append}
use Rattle.ob_typing.specs.Program as Program
use Rattle.ob_code_scheme.specs.Types.{Scope}
use Rattle.ob_code_scheme.specs.Scheme.{size, designator_size, actual_size, actuals_size, statement_size, statements_size, branches_size, over_size, over_code, code_at, designator_at, actual_at, actuals_at, statement_at, statements_at, branches_at}
use Rattle.ob_code_correct.proofs.Lengths.{joined, code_long, designator_long, actual_long, actuals_long, statement_long, statements_long, branches_long}
use Rattle.ob_code_machine.specs.Code.{CodeParts}
use Rattle.ob_code_words.specs.declared.instr.Instr.{Instr}
use Rattle.ob_code_words.specs.declared.instr.Instr.TheVariants as Instrs
use Rattle.ob_checked.specs.declared.program.Actual.{Actual}
use Rattle.ob_checked.specs.declared.program.Branch.{Branch}
use Rattle.ob_checked.specs.declared.program.Designator.{Designator}
use Rattle.ob_checked.specs.declared.program.Expression.{Expression}
use Rattle.ob_checked.specs.declared.program.Statement.{Statement}
use Rattle.ob_checked.specs.View.{expression_of, designator_of, actual_of, statement_of, statements_in, branches_in}
use Rattle.ob_code.specs.Growing.{grown, is_more, over, over_many, alternative_at}
use Rattle.ob_code.specs.Limits.{IsWithinLimits}
use Rattle.ob_code.proofs.Grown.{grown_nothing, behind, jumps, seam}
use Rattle.ob_code.proofs.Values.{with_value, with_designator}
use Rattle.ob_code.proofs.Within.{within, other}

pub over_is : (b : Program.Branches) (more : Bool) → more ≡ is_more b → (end : ℕ) → over more end ≡ over_code b end
over_is Program.no_branch more is end = ap (λ m. over m end) is
over_is (Program.otherwise statements) more is end = ap (λ m. over m end) is
over_is (Program.branch condition statements rest) more is end = ap (λ m. over m end) is

pub over_counted : (b : Program.Branches) (more : Bool) → more ≡ is_more b → over_many more ≡ over_size b
over_counted Program.no_branch more is = ap over_many is
over_counted (Program.otherwise statements) more is = ap over_many is
over_counted (Program.branch condition statements rest) more is = ap over_many is

pub over_length : (more : Bool) (end : ℕ) → length (over more end) ≡ over_many more
over_length false end = refl
over_length true end = refl

-- a jump that knows another target
over_other : (c : CodeParts) (x : List Instr) (more : Bool) (s t : ℕ) (y : List Instr) → IsWithinLimits (grown c (x ++ (over more s ++ y))) → IsWithinLimits (grown c (x ++ (over more t ++ y)))
over_other c x false s t y w = w
over_other c x true s t y w = other c x (Instrs.Jump s) (Instrs.Jump t) y (omega arith) w

-- where there is an alternative there is more
pub some_more : (bs : List Branch) (last : Program.Branches) (none : Bool) → none ≡ (length bs == 0) → none ≡ false → true ≡ is_more (branches_in bs last)
some_more [] last none is not = absurd cc
some_more (b ∷ bs) last none is not = refl

module _ (g o : Scope) where
  abbrev pub with_actual : CodeParts → Actual → CodeParts
  with_actual c x = grown c (actual_at g o (length c.instructions) (actual_of x))

  abbrev pub with_actuals : CodeParts → List Actual → CodeParts
  with_actuals c xs = grown c (actuals_at g o (length c.instructions) (map actual_of xs))

  actual_put : (c d : CodeParts) (x : Actual) (rest : List Actual) → d ≡ with_actual c x → with_actuals d rest ≡ with_actuals c (x ∷ rest)
  actual_put c d x rest put =
      let a = length c.instructions in
      behind c d (with_actuals d rest) (actual_at g o a (actual_of x)) (λ b. actuals_at g o b (map actual_of rest)) (actual_size o (actual_of x))
      put (actual_long g o a (actual_of x)) refl

  pub actuals_go : (c d e : CodeParts) (xs : List Actual) (i : ℕ) (x : Actual) → i < length xs → x ≡ get_or xs i x → d ≡ with_actual c x →
      with_actuals c (drop i xs) ≡ e → with_actuals d (drop (i + 1) xs) ≡ e
  actuals_go c d e xs i x here is put so_far =
      actual_put c d x (drop (i + 1) xs) put
      ∙ ap (λ y. with_actuals c (y ∷ drop (i + 1) xs)) is
      ∙ sym (at_drop_more (λ ys. with_actuals c ys) xs i x here)
      ∙ so_far

  pub actuals_end : (c e : CodeParts) (xs : List Actual) (i : ℕ) → length xs ≤ i → with_actuals c (drop i xs) ≡ e → c ≡ e
  actuals_end c e xs i past so_far = sym (grown_nothing c) ∙ sym (at_drop_all (λ ys. with_actuals c ys) xs i past) ∙ so_far

  abbrev pub with_assignment : CodeParts → Designator → Expression → CodeParts
  with_assignment c target x =
      let a = length c.instructions in
      grown c (designator_at g o a (designator_of target) ++ (code_at g o (a + designator_size o (designator_of target)) (expression_of x) ++ Instrs.Put ∷ []))

  pub assignment_put : (c d e f : CodeParts) (target : Designator) (x : Expression) →
      d ≡ with_designator g o c target → e ≡ with_value g o d x → f ≡ grown e (Instrs.Put ∷ []) →
      f ≡ with_assignment c target x
  assignment_put c d e f target x put more last =
      let a = length c.instructions in
      let b = length d.instructions in
      let inner = behind d e f (code_at g o b (expression_of x)) (λ k. Instrs.Put ∷ []) (size o (expression_of x)) more (code_long g o b (expression_of x)) last in
      behind c d f (designator_at g o a (designator_of target)) (λ k. code_at g o k (expression_of x) ++ Instrs.Put ∷ []) (designator_size o (designator_of target))
      put (designator_long g o a (designator_of target)) inner

  module _ (entry : ℕ → ℕ) where
    abbrev pub with_statement : CodeParts → Program.Statement → CodeParts
    with_statement c s = grown c (statement_at g o entry (length c.instructions) s)

    abbrev pub with_statements : CodeParts → List Statement → CodeParts
    with_statements c ss = grown c (statements_at g o entry (length c.instructions) (statements_in ss))

    abbrev pub with_branches : CodeParts → Program.Branches → CodeParts
    with_branches c bs = grown c (branches_at g o entry (length c.instructions) bs)

    pub call_put : (c d e : CodeParts) (xs : List Actual) (procedure first many : ℕ) → first ≡ entry procedure → many ≡ length xs →
        d ≡ with_actuals c xs → e ≡ grown d (Instrs.Call first many ∷ []) → e ≡ with_statement c (Program.Call procedure (map actual_of xs))
    call_put c d e xs procedure first many begins count put last =
        let a = length c.instructions in
        behind c d e (actuals_at g o a (map actual_of xs)) (λ k. Instrs.Call first many ∷ []) (actuals_size o (map actual_of xs)) put (actuals_long g o a (map actual_of xs)) last
        ∙ ap (λ n. grown c (actuals_at g o a (map actual_of xs) ++ Instrs.Call n many ∷ [])) begins
        ∙ ap (λ n. grown c (actuals_at g o a (map actual_of xs) ++ Instrs.Call (entry procedure) n ∷ [])) (count ∙ sym (length-map xs actual_of))

    statement_put : (c d : CodeParts) (x : Statement) (rest : List Statement) → d ≡ with_statement c (statement_of x) → with_statements d rest ≡ with_statements c (x ∷ rest)
    statement_put c d x rest put =
        let a = length c.instructions in
        behind c d (with_statements d rest) (statement_at g o entry a (statement_of x)) (λ b. statements_at g o entry b (statements_in rest)) (statement_size o (statement_of x))
        put (statement_long g o entry a (statement_of x)) refl

    pub statements_go : (c d e : CodeParts) (xs : List Statement) (i : ℕ) (x : Statement) → i < length xs → x ≡ get_or xs i x → d ≡ with_statement c (statement_of x) →
        with_statements c (drop i xs) ≡ e → with_statements d (drop (i + 1) xs) ≡ e
    statements_go c d e xs i x here is put so_far =
        statement_put c d x (drop (i + 1) xs) put
        ∙ ap (λ y. with_statements c (y ∷ drop (i + 1) xs)) is
        ∙ sym (at_drop_more (λ ys. with_statements c ys) xs i x here)
        ∙ so_far

    pub statements_end : (c e : CodeParts) (xs : List Statement) (i : ℕ) → length xs ≤ i → with_statements c (drop i xs) ≡ e → c ≡ e
    statements_end c e xs i past so_far = sym (grown_nothing c) ∙ sym (at_drop_all (λ ys. with_statements c ys) xs i past) ∙ so_far

    -- c, the condition d, JF e, TURN f, the statements k, JMP m, JF learns its target n
    pub while_put : (c d e f k m n : CodeParts) (x : Expression) (body : List Statement) (start place target : ℕ) →
        start ≡ length c.instructions → d ≡ with_value g o c x → place ≡ length d.instructions → e ≡ grown d (Instrs.JumpIfFalse 0 ∷ []) → f ≡ grown e (Instrs.Turn ∷ []) →
        k ≡ with_statements f body → m ≡ grown k (Instrs.Jump start ∷ []) → target ≡ length m.instructions →
        n ≡ record m { instructions = slice_set m.instructions place (Instrs.JumpIfFalse target) } →
        n ≡ with_statement c (Program.While (expression_of x) (statements_in body))
    while_put c d e f k m n x body start place target starts put at jump turn inside last end set =
        let a = length c.instructions in
        let ss = statements_size o (statements_in body) in
        let many = 1 + (ss + 1) in
        let S : ℕ → List Instr = λ b. statements_at g o entry b (statements_in body) in
        let y : ℕ → List Instr = λ b. Instrs.Turn ∷ (S (b + 1) ++ Instrs.Jump start ∷ []) in
        let inner : m ≡ grown f (S (length f.instructions) ++ Instrs.Jump start ∷ []) =
        behind f k m (S (length f.instructions)) (λ b. Instrs.Jump start ∷ []) ss inside (statements_long g o entry (length f.instructions) (statements_in body)) last in
        let turned : m ≡ grown e (y (length e.instructions)) = behind e f m (Instrs.Turn ∷ []) (λ b. S b ++ Instrs.Jump start ∷ []) 1 turn refl inner in
        let long : (b : ℕ) → length (y b) ≡ many =
        λ b. let k = joined (S (b + 1)) (Instrs.Jump start ∷ []) ss 1 (statements_long g o entry (b + 1) (statements_in body)) refl in omega (arith, k) in
        let known = jumps d e m n (Instrs.JumpIfFalse 0) Instrs.JumpIfFalse y many place target jump turned (long (length d.instructions + 1)) at end set in
        behind c d n (code_at g o a (expression_of x)) (λ b. Instrs.JumpIfFalse (b + 1 + many) ∷ y (b + 1)) (size o (expression_of x)) put (code_long g o a (expression_of x)) known
        ∙ ap (λ t. grown c (code_at g o a (expression_of x) ++ Instrs.JumpIfFalse t ∷ y (a + size o (expression_of x) + 1))) (target_is (a + size o (expression_of x)) ss)
        ∙ ap (λ b. grown c (code_at g o a (expression_of x) ++ Instrs.JumpIfFalse (a + size o (expression_of x) + 2 + ss + 1) ∷ Instrs.Turn ∷ (S b ++ Instrs.Jump start ∷ []))) (two (a + size o (expression_of x)))
        ∙ ap (λ b. grown c (code_at g o a (expression_of x) ++ Instrs.JumpIfFalse (a + size o (expression_of x) + 2 + ss + 1) ∷ Instrs.Turn ∷ (S (a + size o (expression_of x) + 2) ++ Instrs.Jump b ∷ []))) starts
      where
        target_is : (b s : ℕ) → b + 1 + (1 + (s + 1)) ≡ b + 2 + s + 1
        target_is b s = omega arith

        two : (b : ℕ) → b + 1 + 1 ≡ b + 2
        two b = omega arith

    -- c, TURN d, the statements e, the condition f, JF k
    pub repeat_put : (c d e f k : CodeParts) (x : Expression) (body : List Statement) (start : ℕ) →
        start ≡ length c.instructions → d ≡ grown c (Instrs.Turn ∷ []) → e ≡ with_statements d body → f ≡ with_value g o e x → k ≡ grown f (Instrs.JumpIfFalse start ∷ []) →
        k ≡ with_statement c (Program.Repeat (statements_in body) (expression_of x))
    repeat_put c d e f k x body start starts turn inside put last =
        let a = length c.instructions in
        let ss = statements_size o (statements_in body) in
        let S : ℕ → List Instr = λ b. statements_at g o entry b (statements_in body) in
        let inner = behind e f k (code_at g o (length e.instructions) (expression_of x)) (λ b. Instrs.JumpIfFalse start ∷ []) (size o (expression_of x)) put
        (code_long g o (length e.instructions) (expression_of x)) last in
        let both = behind d e k (S (length d.instructions)) (λ b. code_at g o b (expression_of x) ++ Instrs.JumpIfFalse start ∷ []) ss inside
        (statements_long g o entry (length d.instructions) (statements_in body)) inner in
        behind c d k (Instrs.Turn ∷ []) (λ b. S b ++ (code_at g o (b + ss) (expression_of x) ++ Instrs.JumpIfFalse start ∷ [])) 1 turn refl both
        ∙ ap (λ b. grown c (Instrs.Turn ∷ (S (a + 1) ++ (code_at g o (a + 1 + ss) (expression_of x) ++ Instrs.JumpIfFalse b ∷ [])))) starts

    abbrev pub with_alternative : CodeParts → Branch → Bool → CodeParts
    with_alternative c b more = grown c (alternative_at g o entry (length c.instructions) b more)

    abbrev pub over_place : CodeParts → Branch → ℕ
    over_place c b = length c.instructions + size o (expression_of b.condition) + 1 + statements_size o (statements_in b.body.items)

    -- c, the condition d, JF e, the statements f, JMP k, JF learns its target m
    module _ (c d e f k m : CodeParts) (b : Branch) (body : List Statement) (more : Bool) (place last target : ℕ)
        (items : body ≡ b.body.items) (put : d ≡ with_value g o c b.condition) (at : place ≡ length d.instructions) (jump : e ≡ grown d (Instrs.JumpIfFalse 0 ∷ []))
        (inside : f ≡ with_statements e body) (here : last ≡ length f.instructions) where
      abbrev S : ℕ → List Instr
      S n = statements_at g o entry n (statements_in b.body.items)

      abbrev ss : ℕ
      ss = statements_size o (statements_in b.body.items)

      abbrev cs : ℕ
      cs = size o (expression_of b.condition)

      stands : f ≡ grown e (S (length e.instructions))
      stands = inside ∙ ap (λ xs. with_statements e xs) items

      pub over_placed : last ≡ over_place c b
      over_placed =
          let one = ap (λ (q : CodeParts). length q.instructions) put in
          let two = ap (λ (q : CodeParts). length q.instructions) jump in
          let three = ap (λ (q : CodeParts). length q.instructions) stands in
          let first = length-append c.instructions (code_at g o (length c.instructions) (expression_of b.condition)) in
          let second = length-append d.instructions (Instrs.JumpIfFalse 0 ∷ []) in
          let third = length-append e.instructions (S (length e.instructions)) in
          let long = code_long g o (length c.instructions) (expression_of b.condition) in
          let longer = statements_long g o entry (length e.instructions) (statements_in b.body.items) in
          omega (arith, here, one, two, three, first, second, third, long, longer)

      pub branch_put : k ≡ grown f (over more 0) → target ≡ length k.instructions →
          m ≡ record k { instructions = slice_set k.instructions place (Instrs.JumpIfFalse target) } → m ≡ with_alternative c b more
      branch_put jumped end set =
          let a = length c.instructions in
          let y : ℕ → List Instr = λ n. S n ++ over more 0 in
          let many = ss + over_many more in
          let inner : k ≡ grown e (y (length e.instructions)) =
          behind e f k (S (length e.instructions)) (λ n. over more 0) ss stands (statements_long g o entry (length e.instructions) (statements_in b.body.items)) jumped in
          let long = joined (S (length d.instructions + 1)) (over more 0) ss (over_many more) (statements_long g o entry (length d.instructions + 1) (statements_in b.body.items)) (over_length more 0) in
          let known = jumps d e k m (Instrs.JumpIfFalse 0) Instrs.JumpIfFalse y many place target jump inner long at end set in
          behind c d m (code_at g o a (expression_of b.condition)) (λ n. Instrs.JumpIfFalse (n + 1 + many) ∷ y (n + 1)) cs put (code_long g o a (expression_of b.condition)) known
          ∙ ap (λ t. grown c (code_at g o a (expression_of b.condition) ++ Instrs.JumpIfFalse t ∷ y (a + cs + 1))) (apart (a + cs + 1) ss (over_many more))
        where
          apart : (n p q : ℕ) → n + (p + q) ≡ n + p + q
          apart n p q = omega arith

    -- an alternative as what stands before its JMP, and the JMP
    abbrev front : ℕ → Branch → Bool → List Instr
    front a b more =
        let m = a + size o (expression_of b.condition) + 1 in
        code_at g o a (expression_of b.condition)
        ++ Instrs.JumpIfFalse (m + statements_size o (statements_in b.body.items) + over_many more)
        ∷ statements_at g o entry m (statements_in b.body.items)

    fronted : (a : ℕ) (b : Branch) (more : Bool) (z : List Instr) →
        front a b more ++ z
        ≡ code_at g o a (expression_of b.condition)
        ++ Instrs.JumpIfFalse (a + size o (expression_of b.condition) + 1 + statements_size o (statements_in b.body.items) + over_many more)
        ∷ (statements_at g o entry (a + size o (expression_of b.condition) + 1) (statements_in b.body.items) ++ z)
    fronted a b more z =
        append_assoc (code_at g o a (expression_of b.condition))
        (Instrs.JumpIfFalse (a + size o (expression_of b.condition) + 1 + statements_size o (statements_in b.body.items) + over_many more)
        ∷ statements_at g o entry (a + size o (expression_of b.condition) + 1) (statements_in b.body.items)) z

    front_long : (a : ℕ) (b : Branch) (more : Bool) → length (front a b more) ≡ size o (expression_of b.condition) + 1 + statements_size o (statements_in b.body.items)
    front_long a b more =
        let m = a + size o (expression_of b.condition) + 1 in
        let n = statements_long g o entry m (statements_in b.body.items) in
        let k = joined (code_at g o a (expression_of b.condition))
        (Instrs.JumpIfFalse (m + statements_size o (statements_in b.body.items) + over_many more) ∷ statements_at g o entry m (statements_in b.body.items))
        (size o (expression_of b.condition)) (1 + statements_size o (statements_in b.body.items)) (code_long g o a (expression_of b.condition)) (omega (arith, n)) in
        omega (arith, k)

    -- c, an alternative d, what follows e; JMP learns its target f
    module _ (c d e : CodeParts) (b : Branch) (rest : Program.Branches) (more : Bool) (is : more ≡ is_more rest)
        (put : d ≡ with_alternative c b more) (behind_it : e ≡ with_branches d rest) where
      abbrev a : ℕ
      a = length c.instructions

      abbrev next : ℕ
      next = a + size o (expression_of b.condition) + 1 + statements_size o (statements_in b.body.items) + over_many more

      abbrev R : List Instr
      R = branches_at g o entry next rest

      both : e ≡ grown c (front a b more ++ (over more 0 ++ R))
      both =
          let x = front a b more ++ over more 0 in
          let long = joined (front a b more) (over more 0) (size o (expression_of b.condition) + 1 + statements_size o (statements_in b.body.items)) (over_many more) (front_long a b more) (over_length more 0) in
          behind c d e x (λ n. branches_at g o entry n rest) _ (put ∙ ap (grown c) (sym (fronted a b more (over more 0)))) long behind_it
          ∙ ap (λ n. grown c (x ++ branches_at g o entry n rest)) (place_of a (size o (expression_of b.condition)) (statements_size o (statements_in b.body.items)) (over_many more))
          ∙ ap (grown c) (append_assoc (front a b more) (over more 0) R)
        where
          place_of : (n p q r : ℕ) → n + (p + 1 + q + r) ≡ n + p + 1 + q + r
          place_of n p q r = omega arith

      whole : (end : ℕ) → end ≡ next + branches_size o rest → grown c (front a b more ++ (over more end ++ R)) ≡ with_branches c (Program.branch (expression_of b.condition) (statements_in b.body.items) rest)
      whole end ends =
          let m = a + size o (expression_of b.condition) + 1 in
          let s = statements_size o (statements_in b.body.items) in
          ap (grown c) (fronted a b more (over more end ++ R))
          ∙ ap (λ t. grown c (code_at g o a (expression_of b.condition) ++ Instrs.JumpIfFalse (m + s + over_many more) ∷ (statements_at g o entry m (statements_in b.body.items) ++ (over more t ++ R)))) ends
          ∙ ap (λ z. grown c (code_at g o a (expression_of b.condition) ++ Instrs.JumpIfFalse (m + s + over_many more) ∷ (statements_at g o entry m (statements_in b.body.items) ++ (z ++ R)))) (over_is rest more is (next + branches_size o rest))
          ∙ ap (λ z. grown c (code_at g o a (expression_of b.condition) ++ Instrs.JumpIfFalse (m + s + z) ∷ (statements_at g o entry m (statements_in b.body.items)
          ++ (over_code rest (m + s + z + branches_size o rest) ++ branches_at g o entry (m + s + z) rest)))) (over_counted rest more is)

      -- within the limits, where the whole is
      pub branches_within : IsWithinLimits (with_branches c (Program.branch (expression_of b.condition) (statements_in b.body.items) rest)) → IsWithinLimits e
      branches_within w =
          let end = next + branches_size o rest in
          let done : IsWithinLimits (grown c (front a b more ++ (over more end ++ R))) = within _ _ (whole end refl) w in
          within e (grown c (front a b more ++ (over more 0 ++ R))) both (over_other c (front a b more) more end 0 R done)

      pub last_branch_put : more ≡ false → e ≡ with_branches c (Program.branch (expression_of b.condition) (statements_in b.body.items) rest)
      last_branch_put none =
          both ∙ ap (λ z. grown c (front a b more ++ (z ++ R))) (ap (λ m. over m 0) none ∙ sym (ap (λ m. over m (next + branches_size o rest)) none))
          ∙ whole (next + branches_size o rest) refl

      module _ (some : more ≡ true) (place target : ℕ) (at : place ≡ over_place c b) where
        begun : e ≡ grown c (front a b more ++ Instrs.Jump 0 ∷ R)
        begun = both ∙ ap (λ m. grown c (front a b more ++ (over m 0 ++ R))) some

        e_long : length e.instructions ≡ next + branches_size o rest
        e_long =
            let count = ap (λ (q : CodeParts). length q.instructions) both in
            let first = length-append c.instructions (front a b more ++ (over more 0 ++ R)) in
            let second = length-append (front a b more) (over more 0 ++ R) in
            let third = length-append (over more 0) R in
            let f = front_long a b more in
            let v = over_length more 0 in
            let r = branches_long g o entry next rest in
            omega (arith, count, first, second, third, f, v, r)

        pub over_within : place < length e.instructions
        over_within =
            let one : over_many more ≡ 1 = ap over_many some in
            omega (arith, at, e_long, one)

        pub branches_put : (f : CodeParts) → target ≡ length e.instructions → f ≡ record e { instructions = slice_set e.instructions place (Instrs.Jump target) } →
            f ≡ with_branches c (Program.branch (expression_of b.condition) (statements_in b.body.items) rest)
        branches_put f end set =
            let spot : place ≡ length c.instructions + length (front a b more) = omega (arith, at, front_long a b more) in
            seam c e f (front a b more) R (Instrs.Jump 0) (Instrs.Jump target) place begun spot set
            ∙ ap (λ m. grown c (front a b more ++ (over m target ++ R))) (sym some)
            ∙ whole target (end ∙ e_long)
