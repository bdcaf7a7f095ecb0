-- What a loop over statements has read so far, in front of what is left.
use Rattle.std.proofs.Common.{◌≡◌, List, [], ◌∷◌, ◌++◌, refl, ap}
use Rattle.ob_grammar.specs.declared.tree.Stmt.{Stmt}
use Rattle.ob_grammar.specs.declared.tree.Branch.{Branch}
use Rattle.ob_grammar.specs.Tree
use Rattle.ob_grammar.specs.Tree.{Stmts, no_stmt, Branches, no_branch}
use Rattle.ob_grammar.specs.View.{expr_of, stmt_of, stmts_in, branches_in}

-- statements

abbrev pub stmts_before : List Stmt → Stmts → Stmts
stmts_before [] rest = rest
stmts_before (s ∷ ss) rest = Tree.stmt (stmt_of s) (stmts_before ss rest)

pub stmts_before-push : (ss : List Stmt) (s : Stmt) (rest : Stmts) →
    stmts_before ss (Tree.stmt (stmt_of s) rest) ≡ stmts_before (ss ++ s ∷ []) rest
stmts_before-push [] s rest = refl
stmts_before-push (x ∷ ss) s rest = ap (Tree.stmt (stmt_of x)) (stmts_before-push ss s rest)

pub stmts_before-end : (ss : List Stmt) → stmts_before ss no_stmt ≡ stmts_in ss
stmts_before-end [] = refl
stmts_before-end (s ∷ ss) = ap (Tree.stmt (stmt_of s)) (stmts_before-end ss)

-- branches

abbrev pub branches_before : List Branch → Branches → Branches
branches_before [] rest = rest
branches_before (b ∷ bs) rest = Tree.branch (expr_of b.condition) (stmts_in b.body.items) (branches_before bs rest)

pub branches_before-push : (bs : List Branch) (b : Branch) (rest : Branches) →
    branches_before bs (Tree.branch (expr_of b.condition) (stmts_in b.body.items) rest) ≡ branches_before (bs ++ b ∷ []) rest
branches_before-push [] b rest = refl
branches_before-push (x ∷ bs) b rest = ap (Tree.branch (expr_of x.condition) (stmts_in x.body.items)) (branches_before-push bs b rest)

pub branches_before-end : (bs : List Branch) → branches_before bs no_branch ≡ branches_in bs
branches_before-end [] = refl
branches_before-end (b ∷ bs) = ap (Tree.branch (expr_of b.condition) (stmts_in b.body.items)) (branches_before-end bs)
