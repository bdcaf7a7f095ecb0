-- Statements and branches, one more at a time.
use Rattle.std.proofs.Common.{◌≡◌, ℕ, ◌+◌, List, [], ◌∷◌, ◌++◌, drop, false, Option, Some, None, refl, sym, ap, ◌∙◌, Vec}
use Rattle.std.specs.declared.alloc.Global.{Global}
use Rattle.ob_grammar.specs.declared.tree.Branch as Written
use Rattle.ob_grammar.specs.declared.tree.Expr.{Expr}
use Rattle.ob_grammar.specs.declared.tree.Stmt.{Stmt}
use Rattle.ob_grammar.specs.declared.tree.Stmt.TheVariants as Stmts
use Rattle.ob_grammar.specs.Tree
use Rattle.ob_grammar.specs.View as Trees
use Rattle.ob_grammar.specs.View.{expr_of, stmt_of, stmts_in}
use Rattle.ob_grammar.proofs.Rows.{stmt_of-while, stmt_of-repeat, stmt_of-if}
use Rattle.ob_interface.specs.declared.scalar.ScalarType.TheVariants.{Boolean}
use Rattle.ob_typing.specs.declared.rule.Rule.TheVariants.{TypesDiffer}
use Rattle.ob_typing.specs.Program as Programs
use Rattle.ob_typing.specs.Arithmetic.{same_scalar_type}
use Rattle.ob_typing.specs.Scopes.{Environment}
use Rattle.ob_typing.specs.Expressions.{InStatement}
use Rattle.ob_typing.specs.ExpressionFaults.{first_place}
use Rattle.ob_typing.specs.Verdict.{Verdict, Right, ◌>>=◌, test}
use Rattle.ob_typing.specs.ExpressionVerdicts.{expression}
use Rattle.ob_typing.specs.StatementVerdicts.{statement, statements, branches, otherwise, is_empty}
use Rattle.ob_checked.specs.declared.program.Branch.{Branch}
use Rattle.ob_checked.specs.declared.program.Expression.{Expression}
use Rattle.ob_checked.specs.declared.program.Statement.{Statement}
use Rattle.ob_checked.specs.declared.program.Statement.TheVariants as Statements
use Rattle.ob_checked.specs.View.{expression_of, statement_of, statements_in, branches_in, otherwise_of}
use Rattle.ob_scopes.specs.declared.fault.CheckFault.{CheckFault}
use Rattle.ob_rules.specs.Checking.{Fails, and_then}
use Rattle.ob_rules.specs.CheckingStatements.{condition, kept, statement_before}
use Rattle.ob_rules.proofs.Steps.{bind_assoc, bind_same, fails_as, fails_on, fails_past, goes_on}
use Rattle.ob_checked.proofs.Rows.{statement_of-while, statement_of-repeat, statement_of-if}

-- statements in front of others
abbrev pub statements_before : List Statement → Programs.Statements → Programs.Statements
statements_before [] rest = rest
statements_before (s ∷ ss) rest = Programs.statement (statement_of s) (statements_before ss rest)

statements_before-push : (ss : List Statement) (s : Statement) (rest : Programs.Statements) →
    statements_before ss (Programs.statement (statement_of s) rest) ≡ statements_before (ss ++ s ∷ []) rest
statements_before-push [] s rest = refl
statements_before-push (x ∷ ss) s rest = ap (Programs.statement (statement_of x)) (statements_before-push ss s rest)

statements_before-end : (ss : List Statement) → statements_before ss Programs.no_statement ≡ statements_in ss
statements_before-end [] = refl
statements_before-end (s ∷ ss) = ap (Programs.statement (statement_of s)) (statements_before-end ss)

-- what is left, behind what is done
abbrev pub behind_done : List Statement → Programs.Statements → Verdict Programs.Statements
behind_done done rest = Right (statements_before done rest)

pub done_all : (done : List Statement) → behind_done done Programs.no_statement ≡ Right (statements_in done)
done_all done = ap (λ ss. Right ss) (statements_before-end done)

module _ (env : Environment) where
  -- what is left to check completes what is checked
  module _ (all : List Stmt) (i : ℕ) (s : Stmt) (next : drop i all ≡ s ∷ drop (i + 1) all) where
    abbrev pub left_behind : Tree.Stmts
    left_behind = stmts_in (drop (i + 1) all)

    pub statements_first : statements env (stmts_in (drop i all)) ≡ statements env (Tree.stmt (stmt_of s) left_behind)
    statements_first = ap (λ xs. statements env (stmts_in xs)) next

    module _ (x : Option Statement)
        (typed : (rest : Tree.Stmts) → statements env (Tree.stmt (stmt_of s) rest) ≡ and_then (statements env rest) (statement_before x)) (done : List Statement) where
      taken : ◌>>=◌ (statements env (stmts_in (drop i all))) (behind_done done)
          ≡ ◌>>=◌ (statements env left_behind) (λ rest. ◌>>=◌ (statement_before x rest) (behind_done done))
      taken =
          ap (λ v. ◌>>=◌ v (behind_done done)) (statements_first ∙ typed left_behind)
          ∙ bind_assoc (statements env left_behind) (statement_before x) (behind_done done)

      pub statements_next : ◌>>=◌ (statements env (stmts_in (drop i all))) (behind_done done) ≡ ◌>>=◌ (statements env left_behind) (behind_done (kept done x))
      statements_next = taken ∙ by x
        where
          by : (y : Option Statement) →
              ◌>>=◌ (statements env left_behind) (λ rest. ◌>>=◌ (statement_before y rest) (behind_done done)) ≡ ◌>>=◌ (statements env left_behind) (behind_done (kept done y))
          by None = refl
          by (Some c) = bind_same (statements env left_behind) _ _ (λ rest. ap (λ ss. Right ss) (statements_before-push done c rest))

  -- a statement that is not empty, in front of others
  module _ (s : Tree.Stmt) (filled : is_empty s ≡ false) (rest : Tree.Stmts) where
    in_front : statements env (Tree.stmt s rest) ≡ ◌>>=◌ (statement env s) (λ c. ◌>>=◌ (statements env rest) (λ cs. Right (Programs.statement c cs)))
    in_front = rw filled refl

    pub statement_right : (x : Statement) → statement env s ≡ Right (statement_of x) →
        statements env (Tree.stmt s rest) ≡ and_then (statements env rest) (statement_before (Some x))
    statement_right x h = in_front ∙ ap (λ v. ◌>>=◌ v (λ c. ◌>>=◌ (statements env rest) (λ cs. Right (Programs.statement c cs)))) h

    pub statement_fails : (f : CheckFault) → Fails f (statement env s) → Fails f (statements env (Tree.stmt s rest))
    statement_fails f h = fails_as f _ _ in_front (fails_on f _ _ h)

  -- behind a condition
  module _ {A : Type 0} (e : Tree.Expr) (go : Programs.Expression → Verdict A) where
    pub condition_then : ◌>>=◌ (expression env e InStatement) (λ x. ◌>>=◌ (test (same_scalar_type x.type Boolean) TypesDiffer (first_place e)) (λ boolean. go x.code))
        ≡ ◌>>=◌ (condition env e) go
    condition_then =
        sym (bind_assoc (expression env e InStatement) _ go
        ∙ bind_same (expression env e InStatement) _ _ (λ x. bind_assoc (test (same_scalar_type x.type Boolean) TypesDiffer (first_place e)) _ go))

  -- WHILE
  module _ (place : ℕ) (e : Tree.Expr) (body : Tree.Stmts) where
    abbrev pub looped : Programs.Expression → Verdict Programs.Statement
    looped c = ◌>>=◌ (statements env body) (λ ss. Right (Programs.While c ss))

    pub while_verdict : statement env (Tree.While place e body) ≡ ◌>>=◌ (condition env e) looped
    while_verdict = condition_then e looped

  -- REPEAT
  module _ (place : ℕ) (body : Tree.Stmts) (e : Tree.Expr) where
    abbrev pub until : Programs.Statements → Verdict Programs.Statement
    until ss = ◌>>=◌ (condition env e) (λ c. Right (Programs.Repeat ss c))

    pub repeat_verdict : statement env (Tree.Repeat place body e) ≡ ◌>>=◌ (statements env body) until
    repeat_verdict = bind_same (statements env body) _ _ (λ ss. condition_then e (λ c. Right (Programs.Repeat ss c)))

  -- a branch in front of others
  module _ (e : Tree.Expr) (body : Tree.Stmts) (rest : Tree.Branches) (last : Verdict Programs.Branches) where
    abbrev pub behind_body : Programs.Expression → Programs.Statements → Verdict Programs.Branches
    behind_body c ss = ◌>>=◌ (branches env rest last) (λ bs. Right (Programs.branch c ss bs))

    abbrev pub behind_condition : Programs.Expression → Verdict Programs.Branches
    behind_condition c = ◌>>=◌ (statements env body) (behind_body c)

    pub branch_verdict : branches env (Tree.branch e body rest) last ≡ ◌>>=◌ (condition env e) behind_condition
    branch_verdict = condition_then e behind_condition

  branches_before-push : (bs : List Branch) (b : Branch) (rest : Programs.Branches) →
      branches_in bs (Programs.branch (expression_of b.condition) (statements_in b.body.items) rest) ≡ branches_in (bs ++ b ∷ []) rest
  branches_before-push [] b rest = refl
  branches_before-push (x ∷ bs) b rest = ap (Programs.branch (expression_of x.condition) (statements_in x.body.items)) (branches_before-push bs b rest)

  -- what is left of the branches, behind what is done
  abbrev pub branched : List Branch → Programs.Branches → Verdict Programs.Branches
  branched done rest = Right (branches_in done rest)

  module _ (all : List Written.Branch) (i : ℕ) (b : Written.Branch) (next : drop i all ≡ b ∷ drop (i + 1) all) (last : Verdict Programs.Branches) where
    abbrev pub branches_left : Tree.Branches
    branches_left = Trees.branches_in (drop (i + 1) all)

    branches_first : branches env (Trees.branches_in (drop i all)) last
        ≡ ◌>>=◌ (condition env (expr_of b.condition)) (behind_condition (expr_of b.condition) (stmts_in b.body.items) branches_left last)
    branches_first =
        ap (λ xs. branches env (Trees.branches_in xs) last) next ∙ branch_verdict (expr_of b.condition) (stmts_in b.body.items) branches_left last

    pub branch_condition_fails : (f : CheckFault) (done : List Branch) → Fails f (condition env (expr_of b.condition)) →
        Fails f (◌>>=◌ (branches env (Trees.branches_in (drop i all)) last) (branched done))
    branch_condition_fails f done h = fails_on f _ _ (fails_as f _ _ branches_first (fails_on f _ _ h))

    pub branch_body_fails : (f : CheckFault) (done : List Branch) (c : Expression) → condition env (expr_of b.condition) ≡ Right (expression_of c) →
        Fails f (statements env (stmts_in b.body.items)) → Fails f (◌>>=◌ (branches env (Trees.branches_in (drop i all)) last) (branched done))
    branch_body_fails f done c is h = fails_on f _ _ (fails_as f _ _ branches_first (fails_past f _ _ _ is (fails_on f _ _ h)))

    pub branches_next : (x : Branch) → condition env (expr_of b.condition) ≡ Right (expression_of x.condition) →
        statements env (stmts_in b.body.items) ≡ Right (statements_in x.body.items) → (done : List Branch) →
        ◌>>=◌ (branches env (Trees.branches_in (drop i all)) last) (branched done) ≡ ◌>>=◌ (branches env branches_left last) (branched (done ++ x ∷ []))
    branches_next x is body done =
        ap (λ v. ◌>>=◌ v (branched done)) (branches_first ∙ goes_on _ _ _ _ is (goes_on _ _ _ _ body refl))
        ∙ bind_assoc (branches env branches_left last) (λ bs. Right (Programs.branch (expression_of x.condition) (statements_in x.body.items) bs)) (branched done)
        ∙ bind_same (branches env branches_left last) _ _ (λ rest. ap (λ bs. Right bs) (branches_before-push done x rest))

  -- IF
  module _ (s : Stmt) (place : ℕ) (bs : Vec Written.Branch Global) (o : Option (Vec Stmt Global)) (is : s ≡ Stmts.If place bs o)
      (all : List Written.Branch) (at : all ≡ bs.items) where
    abbrev pub if_before : Verdict Programs.Branches → Verdict Programs.Statement
    if_before v = ◌>>=◌ v (λ c. Right (Programs.If c))

    pub if_tree : stmt_of s ≡ Tree.If place (Trees.branches_in all) (Trees.otherwise_of o)
    if_tree = ap stmt_of is ∙ stmt_of-if place bs o ∙ ap (λ xs. Tree.If place (Trees.branches_in xs) (Trees.otherwise_of o)) (sym at)

    filled : is_empty (stmt_of s) ≡ false
    filled = ap is_empty if_tree

    pub if_fails : (f : CheckFault) → ((last : Verdict Programs.Branches) → Fails f (branches env (Trees.branches_in all) last)) → (rest : Tree.Stmts) →
        Fails f (statements env (Tree.stmt (stmt_of s) rest))
    if_fails f h rest =
        statement_fails (stmt_of s) filled rest f (fails_as f _ _ (ap (statement env) if_tree) (fails_on f _ _ (h (otherwise env (Trees.otherwise_of o)))))

    module _ (xs : List Branch) (typed : (last : Verdict Programs.Branches) → branches env (Trees.branches_in all) last ≡ and_then last (branched xs)) where
      if_verdict : statement env (stmt_of s) ≡ if_before (◌>>=◌ (otherwise env (Trees.otherwise_of o)) (branched xs))
      if_verdict = ap (statement env) if_tree ∙ ap if_before (typed (otherwise env (Trees.otherwise_of o)))

      pub else_fails : (f : CheckFault) → Fails f (otherwise env (Trees.otherwise_of o)) → (rest : Tree.Stmts) → Fails f (statements env (Tree.stmt (stmt_of s) rest))
      else_fails f h rest = statement_fails (stmt_of s) filled rest f (fails_as f _ _ if_verdict (fails_on f _ _ (fails_on f _ _ h)))

    pub if_right : (xs : Vec Branch Global) (last : Option (Vec Statement Global)) →
        ((last : Verdict Programs.Branches) → branches env (Trees.branches_in all) last ≡ and_then last (branched xs.items)) →
        otherwise env (Trees.otherwise_of o) ≡ Right (otherwise_of last) → (rest : Tree.Stmts) →
        statements env (Tree.stmt (stmt_of s) rest) ≡ and_then (statements env rest) (statement_before (Some (Statements.If xs last)))
    if_right xs last typed h rest =
        statement_right (stmt_of s) filled rest (Statements.If xs last)
        (if_verdict xs.items typed ∙ ap (λ v. if_before (◌>>=◌ v (branched xs.items))) h ∙ ap (λ c. Right c) (sym (statement_of-if xs last)))

  -- WHILE
  module _ (s : Stmt) (place : ℕ) (e : Expr) (body : Vec Stmt Global) (is : s ≡ Stmts.While place e body) (all : List Stmt) (at : all ≡ body.items) where
    pub while_tree : stmt_of s ≡ Tree.While place (expr_of e) (stmts_in all)
    while_tree = ap stmt_of is ∙ stmt_of-while place e body ∙ ap (λ xs. Tree.While place (expr_of e) (stmts_in xs)) (sym at)

    while_filled : is_empty (stmt_of s) ≡ false
    while_filled = ap is_empty while_tree

    while_is : statement env (stmt_of s) ≡ ◌>>=◌ (condition env (expr_of e)) (looped place (expr_of e) (stmts_in all))
    while_is = ap (statement env) while_tree ∙ while_verdict place (expr_of e) (stmts_in all)

    module _ (c : Expression) (typed : condition env (expr_of e) ≡ Right (expression_of c)) where
      pub body_fails : (f : CheckFault) → Fails f (statements env (stmts_in all)) → (rest : Tree.Stmts) → Fails f (statements env (Tree.stmt (stmt_of s) rest))
      body_fails f h rest = statement_fails (stmt_of s) while_filled rest f (fails_as f _ _ while_is (fails_past f _ _ _ typed (fails_on f _ _ h)))

      pub while_right : (ss : Vec Statement Global) → statements env (stmts_in all) ≡ Right (statements_in ss.items) → (rest : Tree.Stmts) →
          statements env (Tree.stmt (stmt_of s) rest) ≡ and_then (statements env rest) (statement_before (Some (Statements.While c ss)))
      while_right ss h rest =
          statement_right (stmt_of s) while_filled rest (Statements.While c ss)
          (while_is ∙ goes_on _ _ _ _ typed (goes_on _ _ _ _ h (ap (λ x. Right x) (sym (statement_of-while c ss)))))

  -- REPEAT
  module _ (s : Stmt) (place : ℕ) (body : Vec Stmt Global) (e : Expr) (is : s ≡ Stmts.Repeat place body e) (all : List Stmt) (at : all ≡ body.items) where
    pub repeat_tree : stmt_of s ≡ Tree.Repeat place (stmts_in all) (expr_of e)
    repeat_tree = ap stmt_of is ∙ stmt_of-repeat place body e ∙ ap (λ xs. Tree.Repeat place (stmts_in xs) (expr_of e)) (sym at)

    repeat_filled : is_empty (stmt_of s) ≡ false
    repeat_filled = ap is_empty repeat_tree

    repeat_is : statement env (stmt_of s) ≡ ◌>>=◌ (statements env (stmts_in all)) (until place (stmts_in all) (expr_of e))
    repeat_is = ap (statement env) repeat_tree ∙ repeat_verdict place (stmts_in all) (expr_of e)

    pub repeated_fails : (f : CheckFault) → Fails f (statements env (stmts_in all)) → (rest : Tree.Stmts) → Fails f (statements env (Tree.stmt (stmt_of s) rest))
    repeated_fails f h rest = statement_fails (stmt_of s) repeat_filled rest f (fails_as f _ _ repeat_is (fails_on f _ _ h))

    module _ (ss : Vec Statement Global) (typed : statements env (stmts_in all) ≡ Right (statements_in ss.items)) where
      pub until_fails : (f : CheckFault) → Fails f (condition env (expr_of e)) → (rest : Tree.Stmts) → Fails f (statements env (Tree.stmt (stmt_of s) rest))
      until_fails f h rest = statement_fails (stmt_of s) repeat_filled rest f (fails_as f _ _ repeat_is (fails_past f _ _ _ typed (fails_on f _ _ h)))

      pub repeat_right : (c : Expression) → condition env (expr_of e) ≡ Right (expression_of c) → (rest : Tree.Stmts) →
          statements env (Tree.stmt (stmt_of s) rest) ≡ and_then (statements env rest) (statement_before (Some (Statements.Repeat ss c)))
      repeat_right c h rest =
          statement_right (stmt_of s) repeat_filled rest (Statements.Repeat ss c)
          (repeat_is ∙ goes_on _ _ _ _ typed (goes_on _ _ _ _ h (ap (λ x. Right x) (sym (statement_of-repeat ss c)))))
